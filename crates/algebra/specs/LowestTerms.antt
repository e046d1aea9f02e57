-- A fraction in lowest terms, as a printed table shows it: the equal one with the least denominator.
use Rattle.std.specs.Prelude.{Bool, cond, ℕ, zero, suc, ◌*◌, ◌/◌, ◌%◌, eqb}
use Rattle.std.proofs.Common.{arith}
use Rattle.algebra.specs.Fraction.{Fraction}

-- the least number that passes, where one of 0..n does
unfoldable pub least : (ℕ → Bool) → ℕ → ℕ
least passes zero = 0
least passes (suc n) = cond (passes 0) 0 (suc (least (λ k. passes (suc k)) n))

-- an equal fraction has the denominator k + 1: its numerator, num × (k + 1) / den, is whole
abbrev pub is_whole_over : Fraction → ℕ → Bool
is_whole_over p k = eqb (p.num * suc k % p.den) 0

-- the least denominator of an equal fraction; the fraction's own denominator is among them, so that none above it is looked at
unfoldable pub least_denominator : Fraction → ℕ
least_denominator p = suc (least (is_whole_over p) p.den)

unfoldable pub lowest_terms : Fraction → Fraction
unfolding least_denominator
lowest_terms p = record { num = p.num * least_denominator p / p.den; den = least_denominator p; den_pos = omega arith }
