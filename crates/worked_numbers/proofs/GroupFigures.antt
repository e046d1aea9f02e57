-- The 7 units of demand 3 in figures, at each system and under each edition: of any lines, of every group value, and of what the exported calls leave of every kind.
-- The claim names its number, and a weaker one would be proved as well; here it is refused.
use mathlib.Core.Path.{◌≡◌, refl}
use mathlib.Core.List.{List}
use Prim.Native.Nat.{ℕ, ◌+◌, ◌-◌, ◌*◌, ◌≤◌}
use native.Mathlib.Omega.{arith}
use lib.IntN.{ℤ}
use lib.ListN.{length, get_or}
use Rattle.algebra.specs.Fraction.{Fraction, whole, square}
use Rattle.windows.specs.Window.{window_at, InRange}
use Rattle.spectral_lines.specs.Line.{line_of, lines_of}
use Rattle.spectrum.specs.Spectrum.{spectrum_refusal, spectrum_exit}
use Rattle.kinds.specs.declared.Kind.{Kind}
use Rattle.kinds.specs.declared.Kind.TheVariants.{HarmonicGroup, Component, HarmonicSubgroup, InterharmonicGroup, InterharmonicCentredSubgroup}
use Rattle.spans.specs.Spans.{Weighted, total_twice_weight}
use Rattle.groups.specs.Group.{value_over, group_answer, group_values}
use Rattle.rows.specs.declared.Setup.{Setup}
use Rattle.groups.specs.Exact.{exact_over, exact_group}
use Rattle.verdict.specs.Question.{asked}
use Rattle.accuracy.specs.Distance.{WeightsNear, GroupsNear}
use Rattle.accuracy.proofs.Demand3.{demand3}
use Rattle.kind_numbers.specs.Kinds.{kinds, kind_with}
use Rattle.exported_windows.specs.GroupCalls.{group_call_refusal, group_call_exit, row_call_refusal, row_call_exit}
use Rattle.exported_lines.specs.PanelCall.{panel_call_refusal, panel_call_values_exit}
use Rattle.exported_accuracy.proofs.ExportedDemand3.{exported-demand3}
use Rattle.worked_numbers.proofs.EachSetup.{EachSetup, each-setup}

-- the numbers of the kinds in the exported calls
kind-numbers :
    (kind_with 0 ≡ Component) × (kind_with 1 ≡ HarmonicGroup) × (kind_with 2 ≡ HarmonicSubgroup) × (kind_with 3 ≡ InterharmonicGroup) ×
    (kind_with 4 ≡ InterharmonicCentredSubgroup)
unfolding kind_with kinds
kind-numbers = (refl, refl, refl, refl, refl)

-- R less 7 (not below 0), squared, is at most G, and G is at most R plus 7, squared
abbrev Within7 : ℕ → Fraction → Type 0
Within7 r g = ((r - 7) * (r - 7) * g.den ≤ g.num) × (g.num ≤ (r + 7) * (r + 7) * g.den)

-- any lines, whose weights add up to at most 12
weights-within-7 :
    (xs : List Weighted) (window : List ℤ) →
    total_twice_weight xs ≤ 24 →
    InRange window →
    Within7 (value_over xs (line_of window)) (exact_over xs window)
unfolding WeightsNear whole square
weights-within-7 xs window total in-range =
    let near = demand3.weights xs window total in-range in
    (omega (arith, near.not-far-below), omega (arith, near.not-far-above))

-- every group
abbrev GroupWithin7 : Kind → ℕ → List ℤ → Setup → Type 0
GroupWithin7 kind order window setup =
    let answer = group_answer kind setup order (lines_of window) in
    (answer.refusal ≡ 0) × Within7 answer.value (exact_group kind setup order window)

within-7 :
    (kind : Kind) (order : ℕ) (window : List ℤ) → 1 ≤ order → order ≤ 40 → InRange window → EachSetup (GroupWithin7 kind order window)
unfolding GroupsNear whole square
within-7 kind order window least most in-range =
    each-setup (GroupWithin7 kind order window) λ setup known.
    let group = demand3.groups kind setup window known in-range order least most in
    let near = group.value-near in
    (group.answered, (omega (arith, near.not-far-below), omega (arith, near.not-far-above)))

-- the group of a kind, by its number, that the exported calls leave for a recording, neither refused
called-within-7 :
    (recording : List ℤ) (start : ℕ) (buffer : List ℕ) (number : ℕ) (setup : Setup) (order before : ℕ) →
    spectrum_refusal recording start buffer ≡ 0 →
    group_call_refusal number setup order (spectrum_exit recording start buffer) ≡ 0 →
    Within7
    (group_call_exit number setup order (spectrum_exit recording start buffer) before)
    (exact_group (kind_with number) setup order (window_at recording start))
unfolding whole square
called-within-7 recording start buffer number setup order before taken asked =
    let near = exported-demand3.groups recording start buffer number setup order before taken asked in
    (omega (arith, near.not-far-below), omega (arith, near.not-far-above))

-- the row of a kind that they leave holds the values of the lines of the window, which is in range
called-row-worked :
    (recording : List ℤ) (start : ℕ) (buffer : List ℕ) (number : ℕ) (setup : Setup) (before : List ℕ) →
    spectrum_refusal recording start buffer ≡ 0 →
    row_call_refusal number setup (spectrum_exit recording start buffer) before ≡ 0 →
    InRange (window_at recording start) ×
    (row_call_exit number setup (spectrum_exit recording start buffer) before ≡
    group_values (kind_with number) setup (lines_of (window_at recording start)))
called-row-worked recording start buffer number setup before taken asked =
    let worked = exported-demand3.rows recording start buffer number setup before taken asked in
    (worked.in-range, worked.values)

-- the values that kifsang_panel_row leaves are these too, each at most 7 units from the exact group
called-panel-worked :
    (recording : List ℤ) (start : ℕ) (setup : Setup) (lines before : List ℕ) →
    panel_call_refusal setup recording start lines before ≡ 0 →
    (panel_call_values_exit setup recording start lines before ≡ group_values HarmonicGroup setup (lines_of (window_at recording start))) ×
    ((order : ℕ) → 1 ≤ order → order ≤ 40 →
    Within7 (get_or (panel_call_values_exit setup recording start lines before) (order - 1) 0) (exact_group HarmonicGroup setup order (window_at recording start)))
unfolding whole square
called-panel-worked recording start setup lines before asked =
    let panel = exported-demand3.panels recording start setup lines before asked in (
      panel.worked.values,
      λ order least most.
          let near = panel.near order least most in
          (omega (arith, near.not-far-below), omega (arith, near.not-far-above)),
    )

-- and those of kifsang_spectrum, with 512 lines, and kifsang_row, with 40 values, of kind 1
called-panel-is-row :
    (recording : List ℤ) (start : ℕ) (setup : Setup) (lines before all values : List ℕ) →
    panel_call_refusal setup recording start lines before ≡ 0 →
    length all ≡ 512 →
    length values ≡ 40 →
    (spectrum_refusal recording start all ≡ 0) ×
    (row_call_refusal 1 setup (spectrum_exit recording start all) values ≡ 0) ×
    (panel_call_values_exit setup recording start lines before ≡ row_call_exit 1 setup (spectrum_exit recording start all) values)
called-panel-is-row recording start setup lines before all values asked whole count =
    (exported-demand3.panels recording start setup lines before asked).same_row all values whole count
