-- A window that begins later: each call for windows answers and leaves what it does at start 0 for the recording
-- without the samples before the start, however many they are. In figures: lines, a panel's row and a record of windows
-- behind 2,048 and 4,173 samples that are out of range.
use mathlib.Core.List.{List, [], ◌∷◌, ◌++◌}
use mathlib.Core.Path.{◌≡◌, refl, ap, ◌∙◌}
use Prim.Native.Nat.{ℕ, zero, suc, ◌+◌, ◌-◌, ◌*◌}
use native.Mathlib.Nat.{zero-add}
use native.Mathlib.Omega.{arith}
use lib.IntN.{ℤ, pos}
use lib.ListN.{length, drop, replicate, length-drop}
use lib.Seq.{drop-drop}
use Rattle.algebra.proofs.Lists.{tabulate-eq}
use Rattle.rows.specs.Setups.{setup_of}
use Rattle.rows.specs.declared.Setup.{Setup}
use Rattle.windows.specs.Window.{window_length, window_at}
use Rattle.spectrum.specs.Spectrum.{spectrum_refusal, spectrum_exit}
use Rattle.spectral_lines.specs.Calls.{lines_from_refusal, lines_from_exit}
use Rattle.spectral_lines.proofs.Pulse.{two_samples, pair-exit}
use Rattle.kinds.specs.declared.Kind.{Kind}
use Rattle.kinds.specs.declared.Kind.TheVariants.{HarmonicGroup}
use Rattle.groups.specs.Group.{window_row}
use Rattle.panel.specs.Panel.{panel_refusal, panel_answer, panel_exit}
use Rattle.observe.specs.Observe.{window_rows, observe_checks, observe_refusal, observe_answer}
use Rattle.observe.proofs.Worked.{alike, pulse_then_silence, pulse-observed}
use Rattle.exported_lines.specs.PanelCall.{panel_call_refusal, panel_call_lines_exit, panel_call_values_exit}
use Rattle.exported_observe.specs.ObserveCall.{observe_call_refusal, observe_call_exit}
use Rattle.worked_numbers.specs.Cases.{pulse}
use Rattle.worked_numbers.proofs.PanelFigures.{panel-of-pulse}

module _ (recording : List ℤ) (start : ℕ) where
  -- the recording from the start on
  abbrev rest : List ℤ
  rest = drop start recording

  -- the window that begins n samples after the start, and how many samples are left there
  window_at-later : (n : ℕ) → window_at recording (start + n) ≡ window_at rest n
  unfolding window_at
  window_at-later n = rw (drop-drop n start recording)

  left-later : (n : ℕ) → length recording - (start + n) ≡ length rest - n
  left-later n = rw (length-drop start recording) (omega arith)

  window_at-start : window_at recording start ≡ window_at rest 0
  unfolding window_at
  window_at-start = refl

  left-start : length recording - start ≡ length rest - 0
  left-start = rw (length-drop start recording) (omega arith)

  -- ---- lines

  pub spectrum-from-start :
      (buffer : List ℕ) →
      (spectrum_refusal recording start buffer ≡ spectrum_refusal rest 0 buffer) × (spectrum_exit recording start buffer ≡ spectrum_exit rest 0 buffer)
  unfolding spectrum_refusal spectrum_exit
  spectrum-from-start buffer = rw (window_at-start, left-start) (refl, refl)

  pub lines-from-start :
      (first : ℕ) (buffer : List ℕ) →
      (lines_from_refusal recording start first buffer ≡ lines_from_refusal rest 0 first buffer) ×
      (lines_from_exit recording start first buffer ≡ lines_from_exit rest 0 first buffer)
  unfolding lines_from_refusal lines_from_exit
  lines-from-start first buffer = rw (window_at-start, left-start) (refl, refl)

  -- ---- the panel's row

  pub panel-from-start :
      (setup : Setup) (lines : List ℕ) →
      (panel_answer setup recording start lines ≡ panel_answer setup rest 0 lines) × (panel_exit setup recording start lines ≡ panel_exit setup rest 0 lines)
  unfolding panel_answer panel_exit panel_refusal
  panel-from-start setup lines = rw (window_at-start, left-start) (refl, refl)

  pub panel-call-from-start :
      (setup : Setup) (lines values : List ℕ) →
      (panel_call_refusal setup recording start lines values ≡ panel_call_refusal setup rest 0 lines values) ×
      (panel_call_lines_exit setup recording start lines values ≡ panel_call_lines_exit setup rest 0 lines values) ×
      (panel_call_values_exit setup recording start lines values ≡ panel_call_values_exit setup rest 0 lines values)
  unfolding panel_call_refusal panel_call_lines_exit panel_call_values_exit panel_refusal
  panel-call-from-start setup lines values = rw (window_at-start, left-start) (refl, refl, refl)

  -- ---- windows back to back

  observe_checks-from-start : (setup : Setup) (count : ℕ) → observe_checks setup recording start count ≡ observe_checks setup rest 0 count
  unfolding observe_checks
  observe_checks-from-start setup zero = refl
  observe_checks-from-start setup (suc i) =
      rw (
        observe_checks-from-start setup i,
        zero-add (window_length * i),
        window_at-later (window_length * i),
        left-later (window_length * i),
      )

  window_rows-from-start :
      (kind : Kind) (setup : Setup) (count : ℕ) → window_rows kind setup recording start count ≡ window_rows kind setup rest 0 count
  unfolding window_rows
  window_rows-from-start kind setup count =
      tabulate-eq count _ _ (λ i inside. rw (zero-add (window_length * i)) (ap (window_row kind setup) (window_at-later (window_length * i))))

  pub observe-from-start :
      (kind : Kind) (setup : Setup) (count : ℕ) → observe_answer kind setup recording start count ≡ observe_answer kind setup rest 0 count
  unfolding observe_answer observe_refusal
  observe-from-start kind setup count = rw (observe_checks-from-start setup count, window_rows-from-start kind setup count)

  pub observe-call-from-start :
      (kind : ℕ) (setup : Setup) (count : ℕ) (words : List ℕ) →
      (observe_call_refusal kind setup recording start count words ≡ observe_call_refusal kind setup rest 0 count words) ×
      (observe_call_exit kind setup recording start count words ≡ observe_call_exit kind setup rest 0 count words)
  unfolding observe_call_refusal observe_call_exit observe_refusal
  observe-call-from-start kind setup count words =
      rw (observe_checks-from-start setup count, window_rows-from-start _ setup count) (refl, refl)

-- ---- in figures

-- samples out of range, which are not to be looked at
abbrev loud : ℕ → List ℤ
loud count = replicate count (pos 131072)

abbrev pair_later : List ℤ
pair_later = loud 2048 ++ two_samples (pos 1000) (pos 1000)

lines-later : lines_from_exit pair_later 2048 1022 (7 ∷ 7 ∷ []) ≡ 1369 ∷ 324 ∷ []
lines-later = (lines-from-start pair_later 2048 1022 (7 ∷ 7 ∷ [])).1 ∙ pair-exit

abbrev pulse_later : List ℤ
pulse_later = loud 4173 ++ pulse

panel-later :
    (panel_call_refusal (setup_of 10 0) pulse_later 4173 (replicate 13 8) (replicate 40 7) ≡ 0) ×
    (panel_call_values_exit (setup_of 10 0) pulse_later 4173 (replicate 13 8) (replicate 40 7) ≡ replicate 40 8944)
panel-later =
    let same = panel-call-from-start pulse_later 4173 (setup_of 10 0) (replicate 13 8) (replicate 40 7) in
    let worked = panel-of-pulse.0 in
    (same.0 ∙ worked.0, same.2 ∙ worked.2)

abbrev windows_later : List ℤ
windows_later = loud 4173 ++ pulse_then_silence

observed-later :
    observe_answer HarmonicGroup (setup_of 10 0) windows_later 4173 2 ≡ record { refusal = 0; observation = alike 10 2 7828 16772 8944 }
observed-later = observe-from-start windows_later 4173 HarmonicGroup (setup_of 10 0) 2 ∙ pulse-observed.0
