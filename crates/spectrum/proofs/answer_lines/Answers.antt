-- What a call that is not refused lends, and the lines that it leaves.
use mathlib.Core.Path.{sym, ◌∙◌}
use Rattle.refusals.proofs.Answers.{unless_refused-accepted}
use Rattle.spectrum.specs.Prepared.{window_exit}
use Rattle.spectrum.proofs.AcceptedLines.{folded-fits, lines-of-window}
use Rattle.spectrum.proofs.answer_lines.Goals as goal

pub invariant_of-window : goal.invariant_of-window
invariant_of-window c = let a = c.args in
    record { small = folded-fits a.recording.now a.start a.wrong_count c.in_ok-fold_window.ensures.value _ _ c.fold_window.ensures.list_after; one_turn = c.fill_wave.ensures }

pub returns-clause-lines_after : goal.returns-clause-lines_after
unfolding window_exit
returns-clause-lines_after c = let a = c.args in
    let passed = c.in_ok-fold_window.ensures.value in
    lines-of-window a.recording.now a.start a.wrong_count passed _ _ c.fold_window.ensures.list_after _ _ _ c.fill_lines.ensures
    ∙ sym (unless_refused-accepted _ _ _ (sym passed))
