-- kifsang_limit in figures: the limits of both classes in lowest terms, and the order of the refusals. The two lent numbers are 77 and 78 before the call.
use mathlib.Core.Path.{refl}
use mathlib.Core.List.{[], ◌∷◌}
use Prim.Native.Nat.{ℕ}
use Rattle.algebra.specs.Fraction.{whole, times, divide}
use Rattle.algebra.specs.LowestTerms.{least, least_denominator, lowest_terms}
use Rattle.classes.specs.Letters.{letter_of, is_class, class_with}
use Rattle.limits.specs.Limit.{own_figures, figure_in, class_a_limit, limit_of, over_order}
use Rattle.limits.specs.Call.{limit_refusal}
use Rattle.exported_limits.specs.LimitCall.{limit_numerator_exit, limit_denominator_exit}
use Rattle.worked_numbers.proofs.Tables.{Alike}

-- the refusal, and what stands in the two lent numbers, 77 and 78 before the call
limit_for : ℕ → ℕ → ℕ × (ℕ × ℕ)
limit_for order letter = (limit_refusal order letter, (limit_numerator_exit order letter 77, limit_denominator_exit order letter 78))

limits-worked :
    Alike
    ((limit_for 2 65, (0, (1080, 1))) ∷
    (limit_for 12 65, (0, (460, 3))) ∷
    (limit_for 39 65, (0, (750, 13))) ∷
    (limit_for 40 65, (0, (46, 1))) ∷
    (limit_for 2 66, (0, (1620, 1))) ∷
    (limit_for 12 66, (0, (230, 1))) ∷
    (limit_for 39 66, (0, (1125, 13))) ∷
    (limit_for 40 66, (0, (69, 1))) ∷
    -- 6 before 15
    (limit_for 1 65, (6, (77, 78))) ∷
    (limit_for 41 67, (6, (77, 78))) ∷
    (limit_for 40 64, (15, (77, 78))) ∷
    (limit_for 40 67, (15, (77, 78))) ∷
    (limit_for 40 97, (15, (77, 78))) ∷
    (limit_for 40 98, (15, (77, 78))) ∷
    [])
unfolding Alike limit_for limit_refusal limit_numerator_exit limit_denominator_exit lowest_terms least_denominator least is_class class_with letter_of limit_of class_a_limit figure_in own_figures over_order whole times divide
limits-worked = refl
