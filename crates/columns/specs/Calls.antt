-- What the calls of columns answer: the rows "column read" and "column write" of document 01's refusal table.
use Rattle.std.specs.Prelude.{Bool, cond, not, List, [], ◌∷◌, ℕ, eqb, ℤ, pos, Option, None, Some, Result, Ok, Err, length}
use Rattle.refusals.specs.Numbers.{no_refusal, not_a_column, wrong_buffer_length}
use Rattle.refusals.specs.Answers.{first_fault, number_of, unless_refused}
use Rattle.refusals.specs.declared.Refusal.{Refusal}
use Rattle.columns.specs.Column.{column_text, column_number, fits_column}

-- the width of a column that is read or written alone
abbrev pub column_width : ℕ
column_width = 8

-- the widest column that the reader takes: the numbers of 18 digits fit 64 bits with a sign
abbrev pub widest_read : ℕ
widest_read = 18

-- what document 01 has a call that reads answer: a refusal's number, or that of none, and a number
pub record NumberAnswer : Type 0 where
  pub refusal : ℕ
  pub value : ℤ

-- what a result of the code answers: the number, or the refusal's number with 0
abbrev pub number_answer_of : Result ℤ Refusal → NumberAnswer
number_answer_of (Ok z) = record { refusal = no_refusal; value = z }
number_answer_of (Err refusal) = record { refusal = number_of refusal; value = pos 0 }

-- a number, or the refusal of what is none
abbrev pub reading_of : Option ℤ → NumberAnswer
reading_of None = record { refusal = not_a_column; value = pos 0 }
reading_of (Some z) = record { refusal = no_refusal; value = z }

-- "13 text not 8 bytes of the form"
unfoldable pub column_read_answer : List ℕ → NumberAnswer
column_read_answer text = reading_of (cond (eqb (length text) column_width) (column_number text) None)

-- the check "14 buffer not 8 bytes", for n bytes
abbrev pub length_check : ℕ → List ℕ → Bool × ℕ
length_check n buffer = (not (eqb (length buffer) n), wrong_buffer_length)

-- the check "13 number wider than 8", for w bytes
abbrev pub width_check : ℕ → ℤ → Bool × ℕ
width_check w number = (not (fits_column w number), not_a_column)

-- "14 buffer not 8 bytes; 13 number wider than 8"
abbrev pub column_write_checks : List ℕ → ℤ → List (Bool × ℕ)
column_write_checks buffer number = length_check column_width buffer ∷ width_check column_width number ∷ []

abbrev pub column_write_refusal : List ℕ → ℤ → ℕ
column_write_refusal buffer number = first_fault (column_write_checks buffer number)

-- what the buffer holds after a column is written
abbrev pub column_write_exit : List ℕ → ℤ → List ℕ
column_write_exit buffer number =
    unless_refused (column_write_refusal buffer number) (column_text column_width number) buffer

-- the same of a column as wide as the buffer
abbrev pub column_fill_refusal : List ℕ → ℤ → ℕ
column_fill_refusal buffer number = first_fault (width_check (length buffer) number ∷ [])

abbrev pub column_fill_exit : List ℕ → ℤ → List ℕ
column_fill_exit buffer number =
    unless_refused (column_fill_refusal buffer number) (column_text (length buffer) number) buffer
