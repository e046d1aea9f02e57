-- A column holds one number, and a number has one column, at every width w.
--     read-of-text     the column of a number reads as that number
--     length-of-text   it has w bytes, where the number fits w
--     text-of-read     a text that reads as a number is the column of that number, which fits the text's length
--     number-unique, text-unique     so two numbers that fit w have two columns, and two columns of w bytes hold two numbers
use mathlib.Core.Bool.{true, false, not, ◌&&◌, false≢true}
use mathlib.Core.List.{List, [], ◌∷◌, ◌++◌}
use Rattle.std.proofs.Common.{Some}
use Rattle.std.proofs.lemmas.Bool.{and_parts}
use Rattle.std.proofs.lemmas.Option.{none-some, same_Some, cond_some}
use mathlib.Core.Path.{◌≡◌, refl, sym, ap, ◌∙◌}
use Prim.Native.Nat.{ℕ, zero, suc, ◌-◌, ◌≤◌}
use native.Mathlib.Nat.{le_refl}
use native.Mathlib.Decide.{ℕ_discrete}
use native.Mathlib.Omega.{arith}
use borrow.Author.Tests.{le-leb, leb-true, eq-eqb, ne_eqb, eqb-false, not-true}
use lib.Dec.{eqb}
use lib.IntN.{ℤ, pos, negsuc, neg_ℤ}
use lib.ListN.{length, replicate, length-append, length-replicate}
use Rattle.columns.specs.Text.{blank, minus, digit_zero, right_justified}
use Rattle.columns.specs.Column.{decimal_text, number_text, fits_column, column_text, is_digit, are_digits, is_whole, place_value, whole_number, negative_number, signed_number, after_blanks, column_number}
use Rattle.columns.proofs.Decimal.{digit-bounds, whole-of-decimal, value-of-decimal, decimal-of-value}

-- ---- the text of a number, without blanks

-- a text that begins with a byte that is no blank
record Begins (text : List ℕ) : Type 0 where
  first : ℕ
  rest : List ℕ
  parts : text ≡ first ∷ rest
  other : first ≡ blank → ⊥

-- a text of digits begins with a digit
record BeginsWithDigit (text : List ℕ) : Type 0 where
  first : ℕ
  rest : List ℕ
  parts : text ≡ first ∷ rest
  digit : is_digit first ≡ true

whole-begins : (text : List ℕ) → is_whole text ≡ true → BeginsWithDigit text
unfolding is_whole
whole-begins [] h = absurd (false≢true h)
whole-begins (b ∷ []) h = record { first = b; rest = []; parts = refl; digit = h }
whole-begins (b ∷ c ∷ text) h =
    let two = and_parts (is_digit b && not (eqb b digit_zero)) (are_digits (c ∷ text)) h in
    let first = and_parts (is_digit b) (not (eqb b digit_zero)) two.0 in
    record { first = b; rest = c ∷ text; parts = refl; digit = first.0 }

number-begins : (z : ℤ) → Begins (number_text z)
unfolding number_text
number-begins (pos n) =
    let d = whole-begins (decimal_text n) (whole-of-decimal n) in
    let bounds = digit-bounds d.first d.digit in
    record { first = d.first; rest = d.rest; parts = d.parts; other = λ e. omega arith }
number-begins (negsuc n) = record { first = minus; rest = decimal_text (suc n); parts = refl; other = λ e. omega arith }

signed-of-number : (z : ℤ) → signed_number (number_text z) ≡ Some z
unfolding number_text signed_number negative_number whole_number
signed-of-number (pos n) =
    let whole = whole-of-decimal n in
    let d = whole-begins (decimal_text n) whole in
    let bounds = digit-bounds d.first d.digit in
    let no_minus : eqb d.first minus ≡ false = ne_eqb d.first minus (λ e. omega arith) in
    let of-whole : whole_number (decimal_text n) ≡ Some (pos n) = rw (whole, value-of-decimal n) in
    ap signed_number d.parts ∙ rw no_minus (ap whole_number (sym d.parts) ∙ of-whole)
signed-of-number (negsuc n) =
    rw (whole-of-decimal (suc n), value-of-decimal (suc n), ne_eqb (suc n) 0 (λ e. omega arith))

-- a minus before a number above 0
negative-text : (n : ℕ) → (n ≡ 0 → ⊥) → number_text (neg_ℤ (pos n)) ≡ minus ∷ decimal_text n
unfolding number_text
negative-text zero other = absurd (other refl)
negative-text (suc n) other = refl

number-of-whole : (text : List ℕ) (z : ℤ) → whole_number text ≡ Some z → number_text z ≡ text
unfolding number_text whole_number
number-of-whole text z h =
    let is = cond_some (is_whole text) (pos (place_value text)) z h in
    ap number_text (sym is.1) ∙ decimal-of-value text is.0

number-of-negative : (text : List ℕ) (z : ℤ) → negative_number text ≡ Some z → number_text z ≡ minus ∷ text
unfolding negative_number
number-of-negative text z h =
    let value = place_value text in
    let is = cond_some (is_whole text && not (eqb value 0)) (neg_ℤ (pos value)) z h in
    let two = and_parts (is_whole text) (not (eqb value 0)) is.0 in
    ap number_text (sym is.1)
    ∙ negative-text value (eqb-false value 0 (not-true (eqb value 0) two.1))
    ∙ ap (λ (t : List ℕ). minus ∷ t) (decimal-of-value text two.0)

number-of-signed : (text : List ℕ) (z : ℤ) → signed_number text ≡ Some z → number_text z ≡ text
unfolding signed_number
number-of-signed [] z h = absurd (none-some z h)
number-of-signed (b ∷ text) z h = by-minus (ℕ_discrete b minus)
  where
    by-minus : Dec (b ≡ minus) → number_text z ≡ b ∷ text
    by-minus (yes e) =
        number-of-negative text z (rw (eq-eqb b minus e) at h) ∙ ap (λ (c : ℕ). c ∷ text) (sym e)
    by-minus (no e) = number-of-whole (b ∷ text) z (rw (ne_eqb b minus e) at h)

-- ---- blanks before it

after-replicate : (k : ℕ) (text : List ℕ) → Begins text → after_blanks (replicate k blank ++ text) ≡ text
unfolding after_blanks
after-replicate zero text b = rw (b.parts, ne_eqb b.first blank b.other)
after-replicate (suc k) text b = after-replicate k text b

after-le : (text : List ℕ) → length (after_blanks text) ≤ length text
unfolding after_blanks
after-le [] = le_refl 0
after-le (b ∷ text) = by-blank (ℕ_discrete b blank) (after-le text)
  where
    by-blank : Dec (b ≡ blank) → length (after_blanks text) ≤ length text → length (after_blanks (b ∷ text)) ≤ suc (length text)
    by-blank (yes e) h = rw (eq-eqb b blank e) (omega arith)
    by-blank (no e) h = rw (ne_eqb b blank e) (omega arith)

after-split : (text : List ℕ) → right_justified (length text) (after_blanks text) ≡ text
unfolding after_blanks right_justified
after-split [] = refl
after-split (b ∷ text) = by-blank (ℕ_discrete b blank) (after-split text)
  where
    by-blank : Dec (b ≡ blank) → right_justified (length text) (after_blanks text) ≡ text
        → right_justified (suc (length text)) (after_blanks (b ∷ text)) ≡ b ∷ text
    by-blank (yes e) h =
        let one_more : suc (length text) - length (after_blanks text) ≡ suc (length text - length (after_blanks text)) = omega (arith, after-le text) in
        rw (eq-eqb b blank e, one_more) (ap (λ (t : List ℕ). blank ∷ t) h ∙ ap (λ (c : ℕ). c ∷ text) (sym e))
    by-blank (no e) h =
        let none_left : suc (length text) - suc (length text) ≡ 0 = omega arith in
        rw (ne_eqb b blank e, none_left)

-- ---- the theorems

pub read-of-text : (w : ℕ) (z : ℤ) → column_number (column_text w z) ≡ Some z
unfolding column_number column_text right_justified
read-of-text w z =
    ap signed_number (after-replicate (w - length (number_text z)) (number_text z) (number-begins z)) ∙ signed-of-number z

pub length-of-text : (w : ℕ) (z : ℤ) → fits_column w z ≡ true → length (column_text w z) ≡ w
unfolding fits_column column_text right_justified
length-of-text w z h =
    let fits = leb-true (length (number_text z)) w h in
    simp (length-append, length-replicate) (omega arith)

pub text-of-read : (text : List ℕ) (z : ℤ) → column_number text ≡ Some z
    → (fits_column (length text) z ≡ true) × (column_text (length text) z ≡ text)
unfolding column_number fits_column column_text
text-of-read text z h =
    let same : number_text z ≡ after_blanks text = number-of-signed (after_blanks text) z h in
    (rw same (le-leb _ _ (after-le text)), rw same (after-split text))

pub number-unique : (w : ℕ) (y z : ℤ) → column_text w y ≡ column_text w z → y ≡ z
number-unique w y z h = same_Some y z (sym (read-of-text w y) ∙ ap column_number h ∙ read-of-text w z)

pub text-unique : (s t : List ℕ) (z : ℤ) → length s ≡ length t → column_number s ≡ Some z → column_number t ≡ Some z → s ≡ t
text-unique s t z l g h =
    sym (text-of-read s z g).1 ∙ ap (λ (w : ℕ). column_text w z) l ∙ (text-of-read t z h).1
