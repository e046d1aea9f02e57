-- A number column of any width (document 01, "Columns and the listing"): "right-justified, one digit or more, blanks
-- before; a minus stands directly before the digits; no leading zero but the single 0, and no −0".
-- `column_text` is the column of a number, and `column_number` reads one; that they agree is shown in proofs/Column.antt.
use Rattle.std.specs.Prelude.{Bool, false, cond, not, ◌&&◌, List, [], ◌∷◌, ◌++◌, ℕ, zero, suc, ◌+◌, ◌-◌, ◌*◌, ◌/◌, ◌%◌, ◌^◌, eqb, leb, ltb, ℤ, pos, negsuc, neg_ℤ, Option, None, Some, length}
use Rattle.std.specs.List.{list_all}
use Rattle.columns.specs.Text.{blank, minus, digit_zero, right_justified}

-- the byte of a digit below 10
abbrev pub digit_byte : ℕ → ℕ
digit_byte d = digit_zero + d

-- the decimal text of n, which has at most `places` digits: a number below 10 is its digit, any other is the text of its tenth and then its last digit
unfoldable pub decimal_within : ℕ → ℕ → List ℕ
decimal_within zero n = []
decimal_within (suc places) n =
    let several = decimal_within places (n / 10) ++ (digit_byte (n % 10) ∷ []) in
    cond (ltb n 10) (digit_byte n ∷ []) several

-- the decimal text of a number without sign, and of any
unfoldable pub decimal_text : ℕ → List ℕ
decimal_text n = decimal_within (suc n) n

unfoldable pub number_text : ℤ → List ℕ
number_text (pos n) = decimal_text n
number_text (negsuc n) = minus ∷ decimal_text (suc n)

-- a number fits a column of w bytes if its text is at most so long
unfoldable pub fits_column : ℕ → ℤ → Bool
fits_column w z = leb (length (number_text z)) w

-- the column of w bytes that holds a number
unfoldable pub column_text : ℕ → ℤ → List ℕ
column_text w z = right_justified w (number_text z)

-- the byte is one of the ten digits
abbrev pub is_digit : ℕ → Bool
is_digit b = leb digit_zero b && ltb b (digit_zero + 10)

abbrev pub are_digits : List ℕ → Bool
are_digits text = list_all is_digit text

-- "one digit or more", "no leading zero but the single 0"
unfoldable pub is_whole : List ℕ → Bool
is_whole [] = false
is_whole (b ∷ []) = is_digit b
is_whole (b ∷ c ∷ text) = is_digit b && not (eqb b digit_zero) && are_digits (c ∷ text)

-- the number that digits stand for, each digit by its place
unfoldable pub place_value : List ℕ → ℕ
place_value [] = 0
place_value (b ∷ text) = (b - digit_zero) * 10 ^ length text + place_value text

-- the number of a text of digits
unfoldable pub whole_number : List ℕ → Option ℤ
whole_number text = cond (is_whole text) (Some (pos (place_value text))) None

-- the number of a text of digits that a minus stands before: "no −0"
unfoldable pub negative_number : List ℕ → Option ℤ
negative_number text =
    cond (is_whole text && not (eqb (place_value text) 0)) (Some (neg_ℤ (pos (place_value text)))) None

-- the number of a text without blanks before it
unfoldable pub signed_number : List ℕ → Option ℤ
signed_number [] = None
signed_number (b ∷ text) = cond (eqb b minus) (negative_number text) (whole_number (b ∷ text))

-- what is left of a text after the blanks that it begins with
unfoldable pub after_blanks : List ℕ → List ℕ
after_blanks [] = []
after_blanks (b ∷ text) = cond (eqb b blank) (after_blanks text) (b ∷ text)

-- the number that a column holds, or none if the text has not the form
unfoldable pub column_number : List ℕ → Option ℤ
column_number text = signed_number (after_blanks text)
