-- What the call `order_verdict` answers (document 01, "Class A verdicts" and the refusal table's row "verdict"; document 02, card 1).
use Rattle.std.specs.Prelude.{Bool, cond, not, ◌&&◌, ◌||◌, List, [], ◌∷◌, ℕ, eqb, Result, Ok, Err}
use Rattle.algebra.specs.Fraction.{Fraction}
use Rattle.refusals.specs.Numbers.{no_refusal, no_window, scale_out_of_range}
use Rattle.refusals.specs.Answers.{first_fault, unless_refused, number_of}
use Rattle.refusals.specs.declared.Refusal.{Refusal}
use Rattle.records.specs.declared.Observation.{Observation}
use Rattle.records.specs.Soundness.{sound_first}
use Rattle.records.specs.Average.{average_of, peak_of}
use Rattle.fractions.specs.declared.Ratio.{Ratio}
use Rattle.fractions.specs.Parts.{parts}
use Rattle.classes.specs.declared.Class.{Class}
use Rattle.limits.specs.Call.{limited_order_check, class_check}
use Rattle.limit_tests.specs.Limit.{limit_in_units, peak_limit_in_units}
use Rattle.limit_tests.specs.Tests.{is_within, is_over}
use Rattle.verdict.specs.declared.Question.{Question}
use Rattle.verdict.specs.declared.Verdict.{Verdict}
use Rattle.verdict.specs.declared.Verdict.TheVariants.{Within, Close, Over}
use Rattle.verdict.specs.Question.{class_asked, is_scale}

-- "over if either test is, within if both are, else close", each case with the order
unfoldable pub combined : Ratio → Ratio → Ratio → Ratio → ℕ → Verdict
combined average limit peak peak_limit order =
    cond (is_over average limit || is_over peak peak_limit) (Over order)
    (cond (is_within average limit && is_within peak peak_limit) (Within order) (Close order))

-- an average "against the limit", a peak "against 150 % of it", in a class
abbrev pub judged : Class → Fraction → Fraction → ℕ → ℕ → Verdict
judged class average peak order scale =
    combined
    (parts average)
    (parts (limit_in_units class order scale))
    (parts peak)
    (parts (peak_limit_in_units class order scale))
    order

-- the average (sum/n) and the peak of the order in a record
unfoldable pub verdict_in : Class → Observation → ℕ → ℕ → Verdict
verdict_in class o order scale = judged class (average_of o order) (peak_of o order) order scale

-- the verdict of what is asked, in the class that is asked
abbrev pub verdict_of : Observation → Question → Verdict
verdict_of o q = verdict_in (class_asked q) o q.order q.scale

-- 10 no window yet; 6 order outside 2..40; 15 class letter other than A or B, "tested after the order and before K"; 11 K outside 1..2^28
abbrev pub question_checks : ℕ → Question → List (Bool × ℕ)
question_checks windows q =
    (eqb windows 0, no_window) ∷
    limited_order_check q.order ∷
    class_check q.letter ∷
    (not (is_scale q.scale), scale_out_of_range) ∷
    []

-- 7 record not sound comes before these
abbrev pub verdict_checks : Observation → Question → List (Bool × ℕ)
verdict_checks o q = sound_first o (question_checks o.windows q)

unfoldable pub verdict_refusal : Observation → Question → ℕ
verdict_refusal o q = first_fault (verdict_checks o q)

-- what document 01 has the call answer: a verdict, or the number of a refusal
pub data VerdictAnswer : Type 0 where
  Given : Verdict → VerdictAnswer
  Refused : ℕ → VerdictAnswer

-- "a refused verdict: the number alone"
unfoldable pub verdict_answer : Observation → Question → VerdictAnswer
verdict_answer o q = unless_refused (verdict_refusal o q) (Given (verdict_of o q)) (Refused (verdict_refusal o q))

-- what a result of the code answers
abbrev pub verdict_answer_of : Result Verdict Refusal → VerdictAnswer
verdict_answer_of (Ok verdict) = Given verdict
verdict_answer_of (Err refusal) = Refused (number_of refusal)

-- document 01's number of an answer: that of the refusal, 0 for a verdict
unfoldable pub refusal_number : VerdictAnswer → ℕ
refusal_number (Given v) = no_refusal
refusal_number (Refused n) = n

-- the order that a verdict carries
unfoldable pub order_number : Verdict → ℕ
order_number (Within h) = h
order_number (Close h) = h
order_number (Over h) = h
