-- `recordings::blocks::read_window` meets its contract.
use Rattle.std.proofs.Common.{refl, ◌∙◌, arith}
use Rattle.std.proofs.lemmas.Result.{err_from_is_err_and}
use Rattle.refusals.proofs.Results.{number_is_positive}
use Rattle.recordings.proofs.BlockLaws.{block_refusal-none}
use Rattle.recordings.proofs.BlockSamples.{lines_read, samples_read, stops_at_line, goes_on}
use Rattle.recordings.proofs.blocks.read_window.Goals as goal

pub returns-in_err-read_samples-clause-value : goal.returns-in_err-read_samples-clause-value
returns-in_err-read_samples-clause-value c =
    let p = err_from_is_err_and c.from_residual.result c.from_residual.ensures.1 in
    let first = lines_read c.args.block.now c.min.result _ _ _ c.min.ensures c.in_err-read_samples.ensures in
    rw (p.1, p.2) (stops_at_line c.args.block.now _ first (λ e. omega (arith, number_is_positive c.in_err-read_samples.field-0.0, e)))

pub returns-in_err-read_samples-clause-samples_after : goal.returns-in_err-read_samples-clause-samples_after
returns-in_err-read_samples-clause-samples_after c accepted =
    let first = lines_read c.args.block.now c.min.result _ _ _ c.min.ensures c.in_err-read_samples.ensures in
    absurd (omega (arith, number_is_positive c.in_err-read_samples.field-0.0, first, (block_refusal-none c.args.block.now accepted).0))

pub returns-clause-value : goal.returns-clause-value
returns-clause-value c =
    let first = lines_read c.args.block.now c.min.result _ _ _ c.min.ensures c.in_ok-read_samples.ensures in
    c.refuse_if.ensures ∙ goes_on c.args.block.now _ first refl

pub returns-clause-samples_after : goal.returns-clause-samples_after
returns-clause-samples_after c accepted =
    let passed = block_refusal-none c.args.block.now accepted in
    samples_read c.args.block.now c.min.result _ _ _ c.min.ensures c.in_ok-read_samples.ensures refl passed.1 c.requires
