-- What the reading of a column rests on: the blanks before a text, the form of its digits, and the value of the digits that are read so far.
use mathlib.Core.Bool.{Bool, true, false, not, ◌&&◌}
use mathlib.Core.List.{List, [], ◌∷◌}
use mathlib.Core.Path.{◌≡◌, refl, ap, ◌∙◌}
use Prim.Native.Nat.{ℕ, ◌+◌, ◌-◌, ◌*◌, ◌^◌, ◌≤◌, ◌<◌}
use native.Mathlib.Nat.{mul-le-mul_right, pow-suc, pow-le-pow_right}
use native.Mathlib.Numerals.{one-add}
use native.Mathlib.Omega.{arith}
use lib.Dec.{eqb}
use lib.ListN.{length, get_or, take, drop, length-drop, length-take}
use lib.Seq.{take_all}
use Rattle.std.specs.List.{prefix_len}
use Rattle.std.proofs.lemmas.Bool.{and_from, and_parts}
use Rattle.std.proofs.lemmas.List.{take_more}
use Rattle.std.proofs.lemmas.List.Elements.{All-take}
use Rattle.std.proofs.lemmas.List.Sums.{AllPass-from_list_all, list_all-from_AllPass}
use Rattle.columns.specs.Text.{blank, digit_zero}
use Rattle.columns.specs.Column.{is_digit, are_digits, is_whole, place_value, after_blanks}
use Rattle.columns.specs.Calls.{widest_read}
use Rattle.columns.proofs.Decimal.{digit-bounds, value-snoc}

-- the part from there to the end
pub part_to_end : (text : List ℕ) (at : ℕ) → take (length text - at) (drop at text) ≡ drop at text
part_to_end text at = take_all (length text - at) (drop at text) (simp length-drop (omega arith))

-- what is left after the blanks begins at the first byte that is none
pub after_blanks_drop : (text : List ℕ) → after_blanks text ≡ drop (prefix_len (λ b. eqb b blank) text) text
unfolding after_blanks
after_blanks_drop [] = refl
after_blanks_drop (b ∷ text) = by-blank (eqb b blank) refl (after_blanks_drop text)
  where
    by-blank :
        (t : Bool) → eqb b blank ≡ t → after_blanks text ≡ drop (prefix_len (λ c. eqb c blank) text) text →
        after_blanks (b ∷ text) ≡ drop (prefix_len (λ c. eqb c blank) (b ∷ text)) (b ∷ text)
    by-blank true e same = rw (e, one-add) same
    by-blank false e same = rw e

pub digits_of_whole : (text : List ℕ) → is_whole text ≡ true → are_digits text ≡ true
unfolding is_whole
digits_of_whole [] h = refl
digits_of_whole (b ∷ []) h = rw h
digits_of_whole (b ∷ c ∷ text) h =
    let two = and_parts (is_digit b && not (eqb b digit_zero)) (are_digits (c ∷ text)) h in
    and_from _ _ (and_parts (is_digit b) (not (eqb b digit_zero)) two.0).0 two.1

-- ---- the value of the first digits

value-lt : (text : List ℕ) → are_digits text ≡ true → place_value text < 10 ^ length text
unfolding place_value
value-lt [] h = omega arith
value-lt (b ∷ text) h =
    let two = and_parts (is_digit b) (are_digits text) h in
    let digit = digit-bounds b two.0 in
    let nine : (b - digit_zero) * 10 ^ length text ≤ 9 * 10 ^ length text = mul-le-mul_right (10 ^ length text) (omega arith) in
    rw (pow-suc 10 (length text)) (omega (arith, value-lt text two.1))

-- one digit more
pub place_value_more :
    (text : List ℕ) (i : ℕ) → i < length text →
    place_value (take (i + 1) text) ≡ place_value (take i text) * 10 + (get_or text i 0 - digit_zero)
place_value_more text i h = ap place_value (take_more text i 0 h) ∙ value-snoc (take i text) (get_or text i 0)

module _ (text : List ℕ) (digits : are_digits text ≡ true) where
  pub digit_at : (i : ℕ) → i < length text → (digit_zero ≤ get_or text i 0) × (get_or text i 0 < digit_zero + 10)
  digit_at i h = digit-bounds (get_or text i 0) (AllPass-from_list_all is_digit text digits i 0 h)

  -- so the value of the widest column that is read is a number of 64 bits, also with a sign
  pub place_value_small : (i : ℕ) → length text ≤ widest_read → place_value (take i text) < 10 ^ widest_read
  place_value_small i few =
      let front = All-take (λ b. is_digit b ≡ true) i text (AllPass-from_list_all is_digit text digits) in
      let all : are_digits (take i text) ≡ true = list_all-from_AllPass is_digit (take i text) front in
      let short : length (take i text) ≤ widest_read = simp length-take (omega arith) in
      let places : 10 ^ length (take i text) ≤ 10 ^ widest_read = pow-le-pow_right (omega arith) short in
      omega (arith, value-lt (take i text) all)
