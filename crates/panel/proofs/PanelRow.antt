-- Card 6: the panel's row is the very row that the big buffer gives. For every window and setup, with buffers of 13 and of 512 lines, the panel's call is accepted just where `spectrum` and then
-- `group_row` for the harmonic group are, and answers then what they do.
use mathlib.Core.Bool.{false, not}
use mathlib.Core.List.{List}
use mathlib.Core.Path.{◌≡◌, refl, ap}
use Prim.Native.Nat.{ℕ}
use borrow.Author.Tests.{eq-eqb}
use lib.Dec.{eqb}
use lib.IntN.{ℤ}
use lib.ListN.{length}
use Rattle.refusals.specs.Numbers.{no_refusal, unknown_system, unknown_edition}
use Rattle.refusals.proofs.Answers.{no-faults}
use Rattle.rows.specs.declared.Setup.{Setup}
use Rattle.spectral_lines.specs.Line.{line_count}
use Rattle.windows.specs.Window.{window_at}
use Rattle.windows.specs.Checks.{window_refusal}
use Rattle.spectrum.specs.Spectrum.{spectrum_refusal, spectrum_exit}
use Rattle.windows.proofs.Accepted.{window-again}
use Rattle.kinds.specs.declared.Kind.TheVariants.{HarmonicGroup}
use Rattle.groups.specs.Group.{group_row_checks, group_row_refusal, group_row_answer, window_row}
use Rattle.panel.specs.Panel.{panel_line_count, panel_refusal, panel_answer}
use Rattle.groups.proofs.GroupSum.{window_row-accepted}
use Rattle.panel.proofs.PanelLines.{panel-accepted}

module _ (setup : Setup) (recording : List ℤ) (start : ℕ) (small big : List ℕ) (long : length big ≡ line_count) where
  right-count : not (eqb (length big) line_count) ≡ false
  right-count = ap not (eq-eqb (length big) line_count long)

  -- where the panel's call is accepted
  module _ (passed : panel_refusal setup recording start small ≡ no_refusal) where
    pub spectrum-too : spectrum_refusal recording start big ≡ no_refusal
    unfolding spectrum_refusal window_refusal
    spectrum-too = window-again recording start (not (eqb (length small) panel_line_count)) (not (eqb (length big) line_count)) (panel-accepted setup recording start small passed).window-passed right-count

    pub same_row : group_row_answer HarmonicGroup setup (spectrum_exit recording start big) ≡ panel_answer setup recording start small
    unfolding spectrum_exit group_row_answer panel_answer window_row
    same_row =
        let call = panel-accepted setup recording start small passed in
        rw (spectrum-too, passed, window_row-accepted setup (window_at recording start) call.known-setup call.in-range.samples)

  -- where the other two are
  module _ (room : length small ≡ panel_line_count) (taken : spectrum_refusal recording start big ≡ no_refusal)
      (known : group_row_refusal setup (spectrum_exit recording start big) ≡ no_refusal) where
    pub panel-too : panel_refusal setup recording start small ≡ no_refusal
    unfolding panel_refusal spectrum_refusal group_row_refusal window_refusal
    panel-too =
        let no-fault = no-faults (group_row_checks setup (spectrum_exit recording start big)) refl known in
        rw (no-fault unknown_system, no-fault unknown_edition)
        (window-again recording start (not (eqb (length big) line_count)) (not (eqb (length small) panel_line_count)) taken (ap not (eq-eqb (length small) panel_line_count room)))
