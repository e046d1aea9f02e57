-- kifsang_spectrum and then a call for the lines that it left: what neither refused tells of the window and of the values. The same of kifsang_panel_row.
use mathlib.Core.Path.{◌≡◌}
use mathlib.Core.List.{List, [], ◌∷◌}
use Prim.Native.Nat.{ℕ}
use native.Mathlib.Omega.{arith}
use borrow.Author.Tests.{eq-eqb}
use lib.IntN.{ℤ}
use lib.ListN.{length}
use Rattle.refusals.specs.Numbers.{no_refusal}
use Rattle.refusals.specs.Answers.{first_fault}
use Rattle.spectral_lines.specs.Line.{line_count, lines_of}
use Rattle.windows.specs.Window.{window_at}
use Rattle.spectrum.specs.Spectrum.{spectrum_refusal, spectrum_exit}
use Rattle.kinds.specs.declared.Kind.TheVariants.{HarmonicGroup}
use Rattle.groups.specs.Group.{group_refusal, group_values}
use Rattle.panel.specs.Panel.{panel_refusal}
use Rattle.groups.proofs.GroupSum.{accepted, accepted-value, window_row-accepted}
use Rattle.panel.proofs.PanelLines.{PanelAccepted, panel-accepted}
use Rattle.panel.proofs.PanelRow.{spectrum-too}
use Rattle.rows.specs.Orders.{order_count}
use Rattle.rows.specs.declared.Setup.{Setup}
use Rattle.rows.proofs.Orders.{order-bounds}
use Rattle.accuracy.specs.Distance.{GroupsNear}
use Rattle.accuracy.proofs.AcceptedWindows.{window-in-range, lines_left}
use Rattle.accuracy.specs.WorkedRows.{Worked}
use Rattle.accuracy.proofs.GroupDistance.{groups-near}
use Rattle.accuracy.proofs.WorkedRows.{worked-near}
use Rattle.kind_numbers.specs.Kinds.{kinds, is_kind, kind_with, kind_check}
use Rattle.exported_windows.specs.GroupCalls.{group_call_refusal, group_call_exit, row_call_refusal, row_call_exit}
use Rattle.exported_lines.specs.PanelCall.{panel_call_refusal, panel_call_values_exit}
use Rattle.exported_records.specs.RecordCalls.{lent_row}
use Rattle.exported_answers.specs.OwnChecks.{word_count_check}
use Rattle.exported_answers.proofs.Handed.{own-first-none}
use Rattle.exported_accuracy.specs.Claim.{CalledGroup, CalledRow, CalledPanel}

pub called-group :
    (recording : List ℤ) (start : ℕ) (buffer : List ℕ) (number : ℕ) (setup : Setup) (order before : ℕ) →
    CalledGroup recording start buffer number setup order before
unfolding group_call_refusal group_call_exit GroupsNear
called-group recording start buffer number setup order before taken asked =
    let window = window_at recording start in
    let lines = lines_of window in
    let left = lines_left recording start buffer taken in
    let passed : group_refusal setup order lines ≡ no_refusal = own-first-none (first_fault (kind_check number ∷ [])) _ (rw left at asked) in
    let call = accepted setup order lines passed in
    let bounds = order-bounds order call.known-order in
    let in-range = window-in-range recording start buffer taken in
    let near = groups-near (kind_with number) setup window call.known-setup in-range order (omega arith) bounds.1 in
    let value = accepted-value (kind_with number) setup order lines passed in
    rw (asked, left, ← value) near.value-near

pub called-row :
    (recording : List ℤ) (start : ℕ) (buffer : List ℕ) (number : ℕ) (setup : Setup) (before : List ℕ) →
    CalledRow recording start buffer number setup before
unfolding row_call_refusal row_call_exit
called-row recording start buffer number setup before taken asked =
    record { in-range = window-in-range recording start buffer taken; values = rw (asked, lines_left recording start buffer taken) }

module _ (recording : List ℤ) (start : ℕ) (setup : Setup) (lines before : List ℕ)
    (asked : panel_call_refusal setup recording start lines before ≡ no_refusal) where
  passed : panel_refusal setup recording start lines ≡ no_refusal
  unfolding panel_call_refusal
  passed = own-first-none (first_fault (word_count_check order_count before ∷ [])) _ asked

  call : PanelAccepted setup recording start lines
  call = panel-accepted setup recording start lines passed

  panel-values : panel_call_values_exit setup recording start lines before ≡ group_values HarmonicGroup setup (lines_of (window_at recording start))
  unfolding panel_call_values_exit
  panel-values = rw asked

  panel-worked : Worked HarmonicGroup (lent_row setup (panel_call_values_exit setup recording start lines before)) (window_at recording start)
  panel-worked = record { in-range = call.in-range; values = panel-values }

  module _ (all values : List ℕ) (whole : length all ≡ line_count) (count : length values ≡ order_count) where
    taken : spectrum_refusal recording start all ≡ no_refusal
    taken = spectrum-too setup recording start lines all whole passed

    row-taken : row_call_refusal 1 setup (spectrum_exit recording start all) values ≡ no_refusal
    unfolding row_call_refusal is_kind kinds
    row-taken =
        rw (
          eq-eqb (length values) order_count count,
          lines_left recording start all taken,
          window_row-accepted setup (window_at recording start) call.known-setup call.in-range.samples,
        )

    same-values : panel_call_values_exit setup recording start lines before ≡ row_call_exit 1 setup (spectrum_exit recording start all) values
    unfolding row_call_exit kind_with kinds
    same-values = rw (row-taken, lines_left recording start all taken) panel-values

pub called-panel :
    (recording : List ℤ) (start : ℕ) (setup : Setup) (lines before : List ℕ) →
    CalledPanel recording start setup lines before
called-panel recording start setup lines before asked =
    let worked = panel-worked recording start setup lines before asked in
    record {
      worked = worked;
      near = worked-near HarmonicGroup _ _ worked (call recording start setup lines before asked).known-setup;
      same_row = λ all values whole count. (
        taken recording start setup lines before asked all values whole count,
        row-taken recording start setup lines before asked all values whole count,
        same-values recording start setup lines before asked all values whole count,
      );
    }
