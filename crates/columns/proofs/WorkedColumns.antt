-- Worked columns, those of document 01's case 10 first, with the whole answers of "column read" and "column write", and computed theorems over the rows.
use mathlib.Core.List.{List, [], ◌∷◌, map}
use Rattle.std.proofs.Common.{Option, None, Some}
use Rattle.std.specs.Prelude.{option_map}
use mathlib.Core.Path.{◌≡◌, refl}
use Prim.Native.String.{String}
use Prim.Native.Nat.{ℕ}
use lib.IntN.{ℤ, pos, negsuc}
use Rattle.columns.specs.Text.{bytes_of, right_justified}
use Rattle.columns.specs.Column.{decimal_within, decimal_text, number_text, fits_column, column_text, is_whole, place_value, whole_number, negative_number, signed_number, after_blanks, column_number}
use Rattle.columns.specs.Calls.{NumberAnswer, column_read_answer, column_write_refusal, column_write_exit}

record Case : Type 0 where
  text : String
  number : Option ℤ

abbrev cases : List Case
cases =
    record { text = "      -7"; number = Some (negsuc 6) }
    ∷ record { text = "      07"; number = None }
    ∷ record { text = "      -0"; number = None }
    ∷ record { text = "       0"; number = Some (pos 0) }
    ∷ record { text = "99999999"; number = Some (pos 99999999) }
    ∷ record { text = "-9999999"; number = Some (negsuc 9999998) }
    ∷ record { text = "        "; number = None }
    ∷ record { text = "       -"; number = None }
    ∷ record { text = "  1 2   "; number = None }
    ∷ record { text = "1       "; number = None }
    ∷ record { text = "+      7"; number = None }
    ∷ record { text = "-      7"; number = None }
    ∷ record { text = "     --7"; number = None }
    ∷ record { text = "     -07"; number = None }
    ∷ record { text = "     100"; number = Some (pos 100) }
    -- a byte too few, and one too many
    ∷ record { text = "     -7"; number = None }
    ∷ record { text = "       -7"; number = None }
    ∷ []

-- what is answered: a number, or 13 with 0
abbrev answered : Option ℤ → NumberAnswer
answered None = record { refusal = 13; value = pos 0 }
answered (Some z) = record { refusal = 0; value = z }

-- each text reads as its number, or is refused
readings : map (λ c. column_read_answer (bytes_of c.text)) cases ≡ map (λ c. answered c.number) cases
unfolding bytes_of column_read_answer column_number signed_number after_blanks negative_number whole_number is_whole place_value
readings = refl

-- and each number has its text
texts : map (λ c. option_map (column_text 8) c.number) cases
    ≡ map (λ c. option_map (λ _. bytes_of c.text) c.number) cases
unfolding bytes_of column_text number_text decimal_text decimal_within right_justified
texts = refl

-- a column that is written: the buffer, a number, the refusal, and the buffer afterwards
record Writing : Type 0 where
  buffer : String
  number : ℤ
  refusal : ℕ
  after : String

abbrev writings : List Writing
writings =
    record { buffer = "????????"; number = pos 99999999; refusal = 0; after = "99999999" }
    ∷ record { buffer = "????????"; number = negsuc 6; refusal = 0; after = "      -7" }
    ∷ record { buffer = "????????"; number = negsuc 9999998; refusal = 0; after = "-9999999" }
    ∷ record { buffer = "????????"; number = pos 100000000; refusal = 13; after = "????????" }
    ∷ record { buffer = "????????"; number = negsuc 9999999; refusal = 13; after = "????????" }
    ∷ record { buffer = "????????"; number = negsuc 9223372036854775807; refusal = 13; after = "????????" }
    ∷ record { buffer = "???????"; number = pos 0; refusal = 14; after = "???????" }
    ∷ record { buffer = "?????????"; number = pos 0; refusal = 14; after = "?????????" }
    ∷ record { buffer = "?????????"; number = pos 100000000; refusal = 14; after = "?????????" }
    ∷ []

refusals : map (λ c. column_write_refusal (bytes_of c.buffer) c.number) writings ≡ map (λ c. c.refusal) writings
unfolding bytes_of fits_column number_text decimal_text decimal_within
refusals = refl

written : map (λ c. column_write_exit (bytes_of c.buffer) c.number) writings ≡ map (λ c. bytes_of c.after) writings
unfolding bytes_of fits_column column_text right_justified number_text decimal_text decimal_within
written = refl
