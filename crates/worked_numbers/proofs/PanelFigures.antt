-- The panel's row of the pulse in figures, as kifsang_panel_row leaves it at each system and under each edition, with 13 zeros in the buffer of lines.
use mathlib.Core.Bool.{true}
use mathlib.Core.List.{List, ◌∷◌}
use mathlib.Core.Path.{◌≡◌, refl, ap, ap₂, ◌∙◌}
use Prim.Native.Nat.{ℕ, suc, ◌+◌}
use native.Mathlib.Omega.{arith}
use lib.ListN.{replicate}
use Rattle.algebra.specs.Largest.{largest}
use Rattle.algebra.specs.Lists.{tabulate}
use Rattle.std.specs.List.{list_any}
use Rattle.algebra.specs.Weighted.{sum_over}
use Rattle.algebra.proofs.Lists.{tabulate-first, tabulate-same}
use Rattle.square_root.specs.Root.{root_of}
use Rattle.refusals.specs.Answers.{Answer}
use Rattle.rows.specs.Editions.{is_edition}
use Rattle.rows.specs.Setups.{setup_of, is_setup}
use Rattle.rows.specs.Systems.{is_system}
use Rattle.rows.proofs.Orders.{order-of-place}
use Rattle.windows.specs.Window.{window_at, out_of_range}
use Rattle.spectral_lines.specs.Line.{lines_of}
use Rattle.kinds.specs.declared.Kind.TheVariants.{HarmonicGroup}
use Rattle.kinds.specs.Kinds.{span_of, grouped_as}
use Rattle.spans.specs.Spans.{weights_in, weights_of, weighted_sum}
use Rattle.groups.specs.Group.{value_over, group_values}
use Rattle.panel.specs.Panel.{panel_refusal}
use Rattle.groups.proofs.GroupEditions.{weights_of-above}
use Rattle.exported_lines.specs.PanelCall.{panel_call_refusal, panel_call_lines_exit, panel_call_values_exit}
use Rattle.worked_numbers.specs.Cases.{pulse}
use Rattle.worked_numbers.proofs.Worked.{pulse-group}

-- the row that the library's definition has
pulse-row :
    (system edition first value : ℕ) → is_setup (setup_of system edition) ≡ true →
    value_over (weights_of HarmonicGroup (setup_of system edition) 1) (λ k. 4000000) ≡ first →
    ((order : ℕ) → value_over (weights_in (span_of HarmonicGroup system order)) (λ k. 4000000) ≡ value) →
    group_values HarmonicGroup (setup_of system edition) (lines_of pulse) ≡ first ∷ replicate 39 value
unfolding group_values
pulse-row system edition first value known at_first alike =
    let setup = setup_of system edition in
    tabulate-first 39 _
    ∙ ap₂ ◌∷◌
    (ap (λ (a : Answer). a.value) (pulse-group HarmonicGroup setup 1 first known at_first (order-of-place 0 (omega arith))))
    (tabulate-same 39 _ value (λ i below.
    let order = suc i + 1 in
    ap (λ (a : Answer). a.value)
    (pulse-group HarmonicGroup setup order value known
    (rw (weights_of-above HarmonicGroup system edition order (λ e. omega arith)) (alike order))
    (order-of-place (suc i) (omega arith)))))

-- the call
abbrev Called : ℕ → ℕ → List ℕ → Type 0
Called system edition row =
    let setup = setup_of system edition in
    (panel_call_refusal setup pulse 0 (replicate 13 8) (replicate 40 7) ≡ 0) ×
    (panel_call_lines_exit setup pulse 0 (replicate 13 8) (replicate 40 7) ≡ replicate 13 0) ×
    (panel_call_values_exit setup pulse 0 (replicate 13 8) (replicate 40 7) ≡ row)

pub panel-of-pulse :
    Called 10 0 (replicate 40 8944) × Called 12 0 (replicate 40 9797) × Called 10 1 (2828 ∷ replicate 39 8944) × Called 12 1 (2828 ∷ replicate 39 9797)
unfolding pulse panel_call_refusal panel_call_lines_exit panel_call_values_exit panel_refusal is_setup is_system is_edition window_at out_of_range value_over root_of largest span_of grouped_as weights_in weighted_sum sum_over tabulate
panel-of-pulse = (
  (refl, refl, pulse-row 10 0 8944 8944 refl refl (λ order. refl)),
  (refl, refl, pulse-row 12 0 9797 9797 refl refl (λ order. refl)),
  (refl, refl, pulse-row 10 1 2828 8944 refl refl (λ order. refl)),
  (refl, refl, pulse-row 12 1 2828 9797 refl refl (λ order. refl)),
)
