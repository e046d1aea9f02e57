-- In class A the call for a limit answers document 01's limit in lowest terms, and refuses with 6 alone.
use mathlib.Core.Path.{◌≡◌, refl}
use mathlib.Core.List.{[], ◌∷◌}
use Prim.Native.Nat.{ℕ}
use Rattle.algebra.specs.Fraction.{whole}
use Rattle.algebra.specs.LowestTerms.{lowest_terms}
use Rattle.refusals.specs.Answers.{first_fault, unless_refused}
use Rattle.fractions.specs.Parts.{parts}
use Rattle.classes.specs.declared.Class.TheVariants.{A}
use Rattle.classes.specs.Letters.{letter_of, is_class, class_with}
use Rattle.limits.specs.Limit.{class_a_limit, limit_of}
use Rattle.limits.specs.Call.{limited_order_check, limit_refusal, limit_answer}

pub limit_answer-class-A :
    (order : ℕ) →
    let refusal = first_fault (limited_order_check order ∷ []) in
    limit_answer order (letter_of A)
    ≡ record { refusal = refusal; limit = parts (unless_refused refusal (lowest_terms (class_a_limit order)) (whole 0)) }
unfolding limit_answer limit_refusal limit_of is_class class_with letter_of
limit_answer-class-A order = refl
