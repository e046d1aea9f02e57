-- Class B at K is class A at three halves of K, at every order: "150 % of class A at every order", and "both tests remain".
use mathlib.Core.Path.{◌≡◌}
use Prim.Native.Nat.{ℕ, ◌*◌}
use native.Mathlib.Omega.{arith}
use Rattle.algebra.specs.Fraction.{times, divide}
use Rattle.records.specs.declared.Observation.{Observation}
use Rattle.fractions.proofs.Parts.{parts_same}
use Rattle.classes.specs.declared.Class.TheVariants.{A, B}
use Rattle.limits.specs.Limit.{limit_of}
use Rattle.limit_tests.specs.Limit.{limit_in_units, peak_limit_in_units}
use Rattle.verdict.specs.Call.{verdict_in}
use Rattle.verdict.proofs.Limits.{combined-same}

pub verdict_in-class-B : (o : Observation) (order k : ℕ) → verdict_in B o order (2 * k) ≡ verdict_in A o order (3 * k)
unfolding verdict_in limit_in_units peak_limit_in_units limit_of times divide
verdict_in-class-B o order k =
    combined-same _ _ _ _ _ _ order
    (parts_same (limit_in_units B order (2 * k)) (limit_in_units A order (3 * k)) (omega arith))
    (parts_same (peak_limit_in_units B order (2 * k)) (peak_limit_in_units A order (3 * k)) (omega arith))
