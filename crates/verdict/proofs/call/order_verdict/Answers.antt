-- `verdict::call::order_verdict` meets its contract: past its checks the verdict is that of the average, the peak and the listed limits.
use mathlib.Core.Path.{◌≡◌}
use Rattle.std.proofs.Common.{rules}
use Rattle.refusals.specs.Numbers.{no_refusal}
use Rattle.verdict.specs.Question.{class_asked}
use Rattle.verdict.specs.Call.{verdict_refusal}
use Rattle.verdict.proofs.Held.{given-held}
use Rattle.verdict.proofs.call.order_verdict.Goals as goal

pub returns-clause-value : goal.returns-clause-value
unfolding verdict_refusal
returns-clause-value c =
    let o = c.args.observation.now in
    let q = c.args.question in
    let passed : verdict_refusal o q ≡ no_refusal = search rules in
    let named : c.in_ok-class.class ≡ class_asked q = search rules in
    rw (c.combined.ensures, c.from.ensures)
    (given-held o q _ _ _ passed named c.limit_in_units-limit.ensures c.peak_limit_in_units-peak_limit.ensures)
