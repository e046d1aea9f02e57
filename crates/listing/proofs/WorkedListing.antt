-- Worked listings, computed: document 01's own, where all values are zero, and one with the least and the
-- greatest values; and the whole answers of the calls that write a listing and the line for a refusal.
use mathlib.Core.List.{List, [], ◌∷◌, ◌++◌, map}
use mathlib.Core.Path.{◌≡◌, refl}
use Prim.Native.Nat.{ℕ}
use Prim.Native.String.{String}
use lib.ListN.{replicate}
use Rattle.refusals.specs.Answers.{Answer}
use Rattle.columns.specs.Text.{bytes_of, right_justified}
use Rattle.columns.specs.Column.{decimal_within, decimal_text, number_text, fits_column, column_text}
use Rattle.listing.specs.Listing.{header, order_line, order_text, orders_text, listing_text, listing_refusal, listing_answer, listing_exit}
use Rattle.listing.specs.RefusalLine.{refusal_line, refusal_line_refusal, refusal_line_exit}

abbrev zeros_text : List ℕ
zeros_text =
    bytes_of "  h       group    subgroup    smoothed\n  1           0           0           0\n"

zeros : listing_text (replicate 40 0) (replicate 40 0) (replicate 40 0) ≡ zeros_text
unfolding listing_text orders_text order_text order_line header column_text right_justified number_text decimal_text decimal_within bytes_of
zeros = refl

-- of the orders 2, 3 and 40 one value is not zero
edges : listing_text (1 ∷ 0 ∷ 4294967295 ∷ replicate 37 0) (0 ∷ 8944 ∷ replicate 38 0) (replicate 39 0 ++ (10 ∷ []))
    ≡ bytes_of "  h       group    subgroup    smoothed\n  1           1           0           0\n  2           0        8944           0\n  3  4294967295           0           0\n 40           0           0          10\n"
unfolding listing_text orders_text order_text order_line header column_text right_justified number_text decimal_text decimal_within bytes_of
edges = refl

-- a value that is missing counts as 0, and one after the 40th is not looked at
other-counts : listing_text (replicate 39 0) [] (replicate 40 0 ++ (9 ∷ [])) ≡ zeros_text
unfolding listing_text orders_text order_text order_line header column_text right_justified number_text decimal_text decimal_within bytes_of
other-counts = refl

-- ---- the whole answers: the refusal, and the buffer afterwards

-- a line for a refusal: the buffer, the number that the line is of, the refusal, and the buffer afterwards
record Writing : Type 0 where
  buffer : String
  number : ℕ
  refusal : ℕ
  after : String

abbrev writings : List Writing
writings =
    record { buffer = "???????????"; number = 13; refusal = 0; after = "refused 13\n" }
    ∷ record { buffer = "???????????"; number = 1; refusal = 0; after = "refused  1\n" }
    ∷ record { buffer = "???????????"; number = 1000; refusal = 13; after = "???????????" }
    ∷ record { buffer = "??????????"; number = 13; refusal = 14; after = "??????????" }
    ∷ record { buffer = "????????????"; number = 1000; refusal = 14; after = "????????????" }
    ∷ []

writings-refusals : map (λ c. refusal_line_refusal (bytes_of c.buffer) c.number) writings ≡ map (λ c. c.refusal) writings
unfolding bytes_of fits_column number_text decimal_text decimal_within
writings-refusals = refl

writings-written : map (λ c. refusal_line_exit (bytes_of c.buffer) c.number) writings ≡ map (λ c. bytes_of c.after) writings
unfolding bytes_of fits_column refusal_line column_text right_justified number_text decimal_text decimal_within
writings-written = refl

-- a listing of zeros: so many bytes of a buffer, the refusal with the count of bytes written, and the buffer afterwards
record Room : Type 0 where
  bytes : ℕ
  answered : Answer
  after : List ℕ

-- 63 is the byte of a question mark
abbrev marks : ℕ → List ℕ
marks bytes = replicate bytes 63

abbrev room : ℕ → ℕ → ℕ → List ℕ → Room
room bytes refusal count after =
    record { bytes = bytes; answered = record { refusal = refusal; value = count }; after = after }

abbrev rooms : List Room
rooms =
    room 0 14 0 [] ∷
    room 1639 14 0 (marks 1639) ∷
    room 1640 0 80 (zeros_text ++ marks 1560) ∷
    room 1641 0 80 (zeros_text ++ marks 1561) ∷
    []

rooms-answered : map (λ c. listing_answer (marks c.bytes) (replicate 40 0) (replicate 40 0) (replicate 40 0)) rooms
    ≡ map (λ c. c.answered) rooms
unfolding listing_refusal listing_text orders_text order_text order_line header column_text right_justified number_text decimal_text decimal_within bytes_of
rooms-answered = refl

rooms-written : map (λ c. listing_exit (marks c.bytes) (replicate 40 0) (replicate 40 0) (replicate 40 0)) rooms
    ≡ map (λ c. c.after) rooms
unfolding listing_refusal listing_exit listing_text orders_text order_text order_line header column_text right_justified number_text decimal_text decimal_within bytes_of
rooms-written = refl
