-- Document 01's verdict, which knows one class and no letter ("Class A verdicts" and the refusal table's row "verdict").
use Rattle.std.specs.Prelude.{Bool, not, List, [], ◌∷◌, ℕ, eqb}
use Rattle.algebra.specs.Fraction.{Fraction}
use Rattle.refusals.specs.Numbers.{no_window, order_out_of_range, scale_out_of_range}
use Rattle.refusals.specs.Answers.{first_fault, unless_refused}
use Rattle.records.specs.declared.Observation.{Observation}
use Rattle.records.specs.Soundness.{sound_first}
use Rattle.records.specs.Average.{average_of, peak_of}
use Rattle.fractions.specs.Parts.{parts}
use Rattle.limits.specs.Limit.{has_limit, class_a_limit, three_halves}
use Rattle.limit_tests.specs.Limit.{in_units}
use Rattle.verdict.specs.declared.Verdict.{Verdict}
use Rattle.verdict.specs.Question.{is_scale}
use Rattle.verdict.specs.Call.{VerdictAnswer, Given, Refused, combined}

-- "The limit in units is the m_a figure × K / 1000"
abbrev pub limit01 : ℕ → ℕ → Fraction
limit01 order scale = in_units scale (class_a_limit order)

module _ (o : Observation) (order scale : ℕ) where
  -- "the average (sum/n) against the limit, the peak against 150 % of it"
  abbrev pub verdict01 : Verdict
  verdict01 =
      combined
      (parts (average_of o order))
      (parts (limit01 order scale))
      (parts (peak_of o order))
      (parts (three_halves (limit01 order scale)))
      order

  -- "7 record not sound; 10 no window yet; 6 order outside 2..40; 11 K outside 1..2^28"
  abbrev pub checks01 : List (Bool × ℕ)
  checks01 =
      sound_first o (
      (eqb o.windows 0, no_window) ∷
      (not (has_limit order), order_out_of_range) ∷
      (not (is_scale scale), scale_out_of_range) ∷
      [])

  unfoldable pub answer01 : VerdictAnswer
  answer01 = unless_refused (first_fault checks01) (Given verdict01) (Refused (first_fault checks01))
