-- `recordings::blocks::fill_lines` meets its contract.
use Rattle.std.proofs.Common.{sym, ◌∙◌}
use Rattle.recordings.proofs.WindowLines.{spectrum_refusal-window, spectrum_exit-window}
use Rattle.recordings.proofs.BlockSamples.{samples_accepted}
use Rattle.recordings.proofs.blocks.fill_lines.Goals as goal

pub returns-clause-value : goal.returns-clause-value
returns-clause-value c =
    let accepted = sym c.in_ok-read_window.ensures.value in
    let samples = c.in_ok-read_window.ensures.samples_after accepted in
    let window = samples_accepted c.args.block.now accepted in
    c.spectrum.ensures.value ∙ rw samples (spectrum_refusal-window _ c.args.lines.now window.0 c.requires window.1) ∙ sym accepted

pub returns-clause-lines_after : goal.returns-clause-lines_after
returns-clause-lines_after c accepted =
    let samples = c.in_ok-read_window.ensures.samples_after accepted in
    let window = samples_accepted c.args.block.now accepted in
    c.spectrum.ensures.lines_after ∙ rw samples (spectrum_exit-window _ c.args.lines.now window.0 c.requires window.1)
