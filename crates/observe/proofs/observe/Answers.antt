use Rattle.std.proofs.Common.{◌≡◌, sym, ap, ◌∙◌, ◌+◌, arith}
use Rattle.std.proofs.lemmas.Result.{err_from_is_err_and}
use Rattle.observation.specs.Calls.{RecordAnswer}
use Rattle.observe.specs.Calls.{calls_after}
use Rattle.observe.proofs.Turns.{refused-answer, begins-by, row-refused, row-added, accepted-answer}
use Rattle.observe.proofs.observe.Goals as goal

pub returns-in_err-observation : goal.returns-in_err-observation
unfolding calls_after
returns-in_err-observation c =
    let a = c.args in
    let p = err_from_is_err_and c.from_residual.result c.from_residual.ensures.1 in
    rw (p.1, p.2)
    (refused-answer a.kind a.setup a.recording.now a.start _ 0 a.windows (omega arith) (ap (λ (r : RecordAnswer). r.refusal) (sym c.in_err-observation.ensures)))

pub loop-i-init : goal.loop-i-init
unfolding calls_after
loop-i-init c = sym c.in_ok-observation.ensures

pub overflow_mul-i : goal.overflow_mul-i
overflow_mul-i c = let a = c.args in
    omega (arith, begins-by a.kind a.setup a.recording.now a.start c.loop-i.i c.loop-i.observation c.loop-i.invariant)

pub overflow_add-start : goal.overflow_add-start
overflow_add-start c = let a = c.args in
    omega (arith, begins-by a.kind a.setup a.recording.now a.start c.loop-i.i c.loop-i.observation c.loop-i.invariant)

pub returns-in_err-row : goal.returns-in_err-row
returns-in_err-row c =
    let a = c.args in
    let i = c.loop-i.i in
    let p = err_from_is_err_and c.from_residual-in_err-row.result c.from_residual-in_err-row.ensures.1 in
    rw (p.1, p.2)
    (refused-answer a.kind a.setup a.recording.now a.start _ (i + 1) a.windows (omega arith)
    (row-refused a.kind a.setup a.recording.now a.start i c.loop-i.observation c.loop-i.invariant _ c.in_err-row.ensures))

pub returns-in_err-observation-2 : goal.returns-in_err-observation-2
returns-in_err-observation-2 c =
    let a = c.args in
    let i = c.loop-i.i in
    let p = err_from_is_err_and c.from_residual-in_err-observation-2.result c.from_residual-in_err-observation-2.ensures.1 in
    let added = row-added a.kind a.setup a.recording.now a.start i c.loop-i.observation c.loop-i.invariant c.in_ok-row.row c.in_ok-row.ensures in
    rw (p.1, p.2)
    (refused-answer a.kind a.setup a.recording.now a.start _ (i + 1) a.windows (omega arith)
    (ap (λ (r : RecordAnswer). r.refusal) (added ∙ sym c.in_err-observation-2.ensures)))

pub loop-i-preserved : goal.loop-i-preserved
loop-i-preserved c =
    let a = c.args in
    let i = c.loop-i.i in
    let added = row-added a.kind a.setup a.recording.now a.start i c.loop-i.observation c.loop-i.invariant c.in_ok-row.row c.in_ok-row.ensures in
    added ∙ sym c.in_ok-observation-2.ensures

pub returns : goal.returns
returns c =
    let a = c.args in
    let all : c.loop-i.i ≡ a.windows = omega arith in
    accepted-answer a.kind a.setup a.recording.now a.start c.loop-i.i c.loop-i.observation c.loop-i.invariant a.windows all
