-- The verdict from what the code holds: the sum over the count of windows, the peak, and the listed limits.
use mathlib.Core.Path.{◌≡◌, ap}
use Prim.Native.Nat.{◌-◌, ◌*◌, max}
use native.Mathlib.Omega.{arith}
use lib.ListN.{get_or}
use Rattle.algebra.specs.Fraction.{whole, divide}
use Rattle.refusals.specs.Numbers.{no_refusal}
use Rattle.records.specs.declared.Observation.{Observation}
use Rattle.records.specs.Average.{average_of, peak_of}
use Rattle.fractions.specs.declared.Ratio.{Ratio}
use Rattle.fractions.specs.Parts.{ratio, parts}
use Rattle.classes.specs.declared.Class.{Class}
use Rattle.limit_tests.specs.Limit.{listed_in_units, listed_peak_in_units}
use Rattle.verdict.specs.declared.Question.{Question}
use Rattle.verdict.specs.Question.{class_asked}
use Rattle.verdict.specs.Call.{Given, combined, verdict_in, verdict_refusal, verdict_answer}
use Rattle.verdict.proofs.Limits.{combined-listed}
use Rattle.verdict.proofs.Verdicts.{accepted, accepted-given}

pub given-held :
    (o : Observation) (q : Question) (class : Class) (limit peak_limit : Ratio) →
    verdict_refusal o q ≡ no_refusal → class ≡ class_asked q →
    limit ≡ parts (listed_in_units class q.order q.scale) → peak_limit ≡ parts (listed_peak_in_units class q.order q.scale) →
    Given (combined (ratio (get_or o.sum (q.order - 1) 0) o.windows) limit (ratio (get_or o.peak (q.order - 1) 0) 1) peak_limit q.order)
    ≡ verdict_answer o q
unfolding verdict_in average_of peak_of whole divide
given-held o q class limit peak_limit passed is-class is-limit is-peak-limit =
    let known = accepted o q passed in
    let count : max o.windows 1 * 1 ≡ o.windows = omega (arith, known.some-window) in
    rw (accepted-given o q passed, ← is-class, is-limit, is-peak-limit, count)
    (ap Given (combined-listed class q.order q.scale known.has-limit _ _))
