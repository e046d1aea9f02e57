-- In class A the call answers what document 01 defines, verdicts and refusals, for every record, order and K.
use mathlib.Core.Path.{◌≡◌, refl}
use Prim.Native.Nat.{ℕ}
use Rattle.records.specs.declared.Observation.{Observation}
use Rattle.classes.specs.declared.Class.TheVariants.{A}
use Rattle.classes.specs.Letters.{letter_of, is_class, class_with}
use Rattle.limits.specs.Limit.{limit_of}
use Rattle.limit_tests.specs.Limit.{limit_in_units, peak_limit_in_units}
use Rattle.verdict.specs.Question.{asked}
use Rattle.verdict.specs.Call.{verdict_in, verdict_refusal, verdict_answer}
use Rattle.verdict.specs.ClassA.{answer01}

pub verdict_answer-class-A : (o : Observation) (order scale : ℕ) → verdict_answer o (asked order (letter_of A) scale) ≡ answer01 o order scale
unfolding verdict_answer verdict_refusal verdict_in limit_in_units peak_limit_in_units limit_of answer01 is_class class_with letter_of
verdict_answer-class-A o order scale = refl
