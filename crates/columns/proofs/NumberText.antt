-- The text of a number by its sign and magnitude, and that it is the one that std's formatting of it gives.
use mathlib.Core.List.{List, ◌∷◌}
use mathlib.Core.Path.{◌≡◌, refl, ap}
use Prim.Native.Nat.{ℕ, suc, ◌^◌, ◌≤◌, ◌<◌}
use native.Mathlib.Omega.{arith}
use lib.IntN.{ℤ, pos, negsuc, nat_abs}
use lib.ListN.{length}
use lib.Signed.{mag}
use Rattle.std.specs.Fmt.{decimal, signed_decimal}
use Rattle.std.proofs.Common.{◌<ℤ◌, ◌≤ℤ◌, rules}
use Rattle.std.proofs.lemmas.Fmt.{AppendsLastDigit, decimal_from_appends, length-decimal-le_succ}
use Rattle.std.proofs.lemmas.Int.{ints}
use Rattle.columns.specs.Text.{minus}
use Rattle.columns.specs.Column.{decimal_within, decimal_text, number_text}

pub number_text_negative : (z : ℤ) → z <ℤ pos 0 → number_text z ≡ minus ∷ decimal_text (nat_abs z)
unfolding number_text
number_text_negative (pos n) h = absurd (omega (arith, ints))
number_text_negative (negsuc n) h = refl

pub number_text_positive : (z : ℤ) → pos 0 ≤ℤ z → number_text z ≡ decimal_text (nat_abs z)
unfolding number_text
number_text_positive (pos n) h = refl
number_text_positive (negsuc n) h = absurd (omega (arith, ints))

pub number_text_digits_le : (z : ℤ) → length (decimal_text (nat_abs z)) ≤ length (number_text z)
unfolding number_text
number_text_digits_le (pos n) = omega arith
number_text_digits_le (negsuc n) = omega arith

-- ---- std's formatting of a number

appends : AppendsLastDigit decimal_within
unfolding decimal_within
appends = search rules

decimal_is : (n : ℕ) → n < 2 ^ 64 → decimal_text n ≡ decimal n
unfolding decimal_text
decimal_is n h = decimal_from_appends decimal_within appends (suc n) n h (omega (arith, length-decimal-le_succ n h))

-- what is written of a number of 64 bits is what std writes of it
pub number_text_is : (z : ℤ) → mag z < 2 ^ 63 → number_text z ≡ signed_decimal z
unfolding number_text
number_text_is (pos n) h = decimal_is n (omega arith)
number_text_is (negsuc n) h = ap (λ (t : List ℕ). minus ∷ t) (decimal_is (suc n) (omega arith))
