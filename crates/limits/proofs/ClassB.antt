-- Class B's limit from class A's: three halves of it, in lowest terms again.
use mathlib.Core.Path.{◌≡◌}
use mathlib.Core.Bool.{Bool, true, false, cond, ◌&&◌}
use Prim.Native.Nat.{ℕ, ◌*◌, ◌/◌, ◌%◌, ◌≤◌}
use native.Mathlib.Omega.{arith}
use lib.Dec.{eqb, eqb→eq}
use Rattle.algebra.specs.Fraction.{Fraction, whole, times, divide}
use Rattle.algebra.specs.LowestTerms.{least, least_denominator, lowest_terms}
use Rattle.algebra.proofs.Computed.{both-pass}
use Rattle.fractions.specs.declared.Ratio.{Ratio}
use Rattle.fractions.specs.Parts.{ratio, parts}
use Rattle.classes.specs.declared.Class.TheVariants.{A, B}
use Rattle.limits.specs.Limit.{has_limit, own_figures, over_order, figure_in, class_a_limit, limit_of, listed_limit}
use Rattle.limits.proofs.Limits.{limited-passes}

-- what three times the numerator and twice the denominator of a fraction in lowest terms have in common
abbrev pub common : Fraction → ℕ
common p = cond (eqb (p.num % 2) 0) 2 1 * cond (eqb (p.den % 3) 0) 3 1

pub common-range : (p : Fraction) → (1 ≤ common p) × (common p ≤ 6)
common-range p = go (eqb (p.num % 2) 0) (eqb (p.den % 3) 0)
  where
    go : (even three : Bool) → (1 ≤ cond even 2 1 * cond three 3 1) × (cond even 2 1 * cond three 3 1 ≤ 6)
    go true true = (omega arith, omega arith)
    go true false = (omega arith, omega arith)
    go false true = (omega arith, omega arith)
    go false false = (omega arith, omega arith)

-- three halves of it, with that cancelled
abbrev pub cancelled : Fraction → Ratio
cancelled p = ratio (3 * p.num / common p) (2 * p.den / common p)

-- class B's listed limit is class A's, so cancelled
pub listed_limit-class-B : (order : ℕ) → has_limit order ≡ true → cancelled (listed_limit A order) ≡ parts (listed_limit B order)
unfolding limit_of class_a_limit figure_in own_figures over_order whole times divide lowest_terms least_denominator least
listed_limit-class-B order has-limit =
    let is_num : ℕ → Bool = λ h. eqb (cancelled (listed_limit A h)).numerator (listed_limit B h).num in
    let is_den : ℕ → Bool = λ h. eqb (cancelled (listed_limit A h)).denominator (listed_limit B h).den in
    let passed = both-pass (is_num order) (is_den order) (limited-passes order has-limit (λ h. is_num h && is_den h) tt) in
    let num-is = eqb→eq _ _ passed.0 in
    let den-is = eqb→eq _ _ passed.1 in
    λ i. ratio (num-is i) (den-is i)
