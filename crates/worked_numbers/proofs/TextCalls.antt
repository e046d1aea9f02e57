-- The exported calls on texts in figures: the calls' own refusals, each two neighbouring checks in their order, and what the caller's numbers and bytes hold after.
-- A lent number is 77 before the call, a lent byte 7. kifsang_write_column has no check of its own: its table is that of `columns`.
use mathlib.Core.Path.{refl}
use mathlib.Core.List.{List, [], ◌∷◌, ◌++◌}
use Prim.Native.Nat.{ℕ}
use Prim.Native.String.{String}
use lib.IntN.{ℤ, pos, negsuc}
use lib.ListN.{replicate}
use Rattle.columns.specs.Text.{bytes_of, right_justified}
use Rattle.columns.specs.Column.{is_whole, place_value, whole_number, negative_number, signed_number, after_blanks, column_number, decimal_within, decimal_text, number_text, column_text}
use Rattle.columns.specs.Calls.{column_read_answer}
use Rattle.listing.specs.Listing.{header, order_line, order_text, orders_text, listing_text, listing_refusal, listing_exit}
use Rattle.exported_text.specs.ColumnCalls.{column_call_exit}
use Rattle.exported_text.specs.ListingCall.{listing_call_refusal, listing_call_exit, listing_call_count_exit}
use Rattle.worked_numbers.proofs.Tables.{Alike}

-- ---- kifsang_read_column

column_for : String → ℕ × ℤ
column_for text = ((column_read_answer (bytes_of text)).refusal, column_call_exit (bytes_of text) (pos 77))

columns-worked :
    Alike
    ((column_for "      -7", (0, negsuc 6)) ∷
    (column_for "      07", (13, pos 77)) ∷
    (column_for "       7 ", (13, pos 77)) ∷
    (column_for "      7", (13, pos 77)) ∷
    [])
unfolding Alike column_for column_call_exit column_read_answer bytes_of is_whole place_value whole_number negative_number signed_number after_blanks column_number
columns-worked = refl

-- ---- kifsang_fill_listing

-- the refusal, the count of bytes, and the buffer after
listing_for : List ℕ → List ℕ → List ℕ → List ℕ → ℕ × (ℕ × List ℕ)
listing_for group subgroup smoothed buffer = (
  listing_call_refusal group subgroup smoothed buffer,
  (listing_call_count_exit group subgroup smoothed buffer 77, listing_call_exit group subgroup smoothed buffer),
)

zeros : ℕ → List ℕ
zeros count = replicate count 0

listings-worked :
    Alike
    ((
      listing_for (zeros 40) (zeros 40) (zeros 40) (replicate 1640 7),
      (0, (80, bytes_of "  h       group    subgroup    smoothed\n  1           0           0           0\n" ++ replicate 1560 7)),
    ) ∷ (
      listing_for (1 ∷ zeros 39) (2 ∷ zeros 39) (3 ∷ zeros 39) (replicate 1640 7),
      (0, (80, bytes_of "  h       group    subgroup    smoothed\n  1           1           2           3\n" ++ replicate 1560 7)),
    ) ∷
    -- 102 of each row, and 102 before 14
    (listing_for (zeros 39) (zeros 40) (zeros 40) (replicate 9 7), (102, (77, replicate 9 7))) ∷
    (listing_for (zeros 40) (zeros 41) (zeros 40) (replicate 9 7), (102, (77, replicate 9 7))) ∷
    (listing_for (zeros 40) (zeros 40) [] (replicate 9 7), (102, (77, replicate 9 7))) ∷
    (listing_for (zeros 40) (zeros 40) (zeros 40) (replicate 1639 7), (14, (77, replicate 1639 7))) ∷
    -- 102 alone
    (listing_for (zeros 39) (zeros 40) (zeros 40) (replicate 1640 7), (102, (77, replicate 1640 7))) ∷
    (listing_for (zeros 40) (zeros 41) (zeros 40) (replicate 1640 7), (102, (77, replicate 1640 7))) ∷
    (listing_for (zeros 40) (zeros 40) (zeros 39) (replicate 1640 7), (102, (77, replicate 1640 7))) ∷
    [])
unfolding Alike listing_for zeros listing_call_refusal listing_call_count_exit listing_call_exit listing_refusal listing_exit listing_text orders_text order_text order_line header column_text right_justified number_text decimal_text decimal_within bytes_of
listings-worked = refl
