-- Observations worked in figures: each refusal and each pair of neighbours in their order with the whole answer,
-- the edges of a window's checks, and the record after document 01's pulse and a silent window.
use mathlib.Core.List.{List, [], ◌∷◌, ◌++◌, map}
use mathlib.Core.Path.{◌≡◌, refl}
use Prim.Native.Nat.{ℕ, ◌-◌, ◌^◌}
use lib.IntN.{ℤ, pos}
use lib.ListN.{replicate}
use Rattle.algebra.specs.Largest.{largest}
use Rattle.algebra.specs.Lists.{tabulate}
use Rattle.algebra.specs.Rounding.{nearest}
use Rattle.algebra.specs.Weighted.{sum_over}
use Rattle.square_root.specs.Root.{root_of}
use Rattle.refusals.specs.Answers.{first_fault}
use Rattle.rows.specs.declared.Row.{Row}
use Rattle.rows.specs.Orders.{is_order}
use Rattle.rows.specs.Systems.{is_system}
use Rattle.rows.specs.Editions.{is_edition}
use Rattle.rows.specs.Setups.{setup_of, is_setup, same_setup}
use Rattle.rows.specs.declared.Setup.{Setup}
use Rattle.rows.specs.Rows.{first_values}
use Rattle.windows.specs.Window.{window_at, out_of_range}
use Rattle.spectral_lines.specs.Line.{lines_of}
use Rattle.spectral_lines.proofs.Pulse.{pulse, pulse-lines, silence, silence-lines}
use Rattle.kinds.specs.declared.Kind.{Kind}
use Rattle.kinds.specs.declared.Kind.TheVariants.{HarmonicGroup, HarmonicSubgroup}
use Rattle.kinds.specs.Kinds.{span_of, grouped_as}
use Rattle.spans.specs.Spans.{weights_in, weighted_sum}
use Rattle.groups.specs.Group.{group_refusal, value_over, group_value, group_answer, group_values, window_row}
use Rattle.records.specs.declared.Observation.{Observation}
use Rattle.books.specs.Book.{smoothed_next, book_step}
use Rattle.books.specs.Smoothing.{smoothed_value}
use Rattle.latest_rows.specs.Latest.{with_latest}
use Rattle.records.specs.Soundness.{none_above, all_zero, is_sound}
use Rattle.observation.specs.Calls.{empty_record, book_at, next_book, with_row, row_checks, add_row_refusal, add_row_answer}
use Rattle.observation.specs.RecordAfter.{record_after}
use Rattle.records.proofs.WorkedRecords.{worked_record, keeping}
use Rattle.observe.specs.Observe.{window_rows, add_window_checks, observe_checks, observe_refusal, observe_answer}

-- a record under edition 2 whose orders are alike, and whose first row alone is not zeros and has the peak
abbrev pub alike : ℕ → ℕ → ℕ → ℕ → ℕ → Observation
alike system windows smoothed sum peak =
    keeping (replicate 40 peak ++ replicate 560 0)
    (worked_record (setup_of system 0) windows (replicate 40 smoothed) (replicate 40 sum) (replicate 40 peak))

-- ---- refusals

-- a setup, a recording, a start, a count of windows, and the refusal
pub record Case : Type 0 where
  pub setup : Setup
  pub recording : List ℤ
  pub start : ℕ
  pub count : ℕ
  pub refusal : ℕ

abbrev case : ℕ → ℕ → List ℤ → ℕ → ℕ → ℕ → Case
case system edition recording start count refusal =
    record { setup = setup_of system edition; recording = recording; start = start; count = count; refusal = refusal }

abbrev quiet : ℕ → List ℤ
quiet n = replicate n (pos 0)

abbrev loud : ℕ → List ℤ
loud n = replicate n (pos 131072)

abbrev taken : List Case
taken =
    -- no window
    case 10 0 [] 0 0 0 ∷
    case 12 1 (loud 1) (2 ^ 64 - 1) 0 0 ∷
    -- the samples before the start and after the last window are not looked at
    case 12 0 (loud 1 ++ quiet 4096 ++ loud 1) 1 2 0 ∷
    []

abbrev refused : List Case
refused =
    -- each fault, in the first window and in the second
    case 11 0 (quiet 2048) 0 0 1 ∷
    case 10 2 (quiet 2048) 0 0 19 ∷
    case 10 0 (quiet 2047) 0 1 2 ∷
    case 10 0 (quiet 4095) 0 2 2 ∷
    case 10 0 (quiet 4096) (2 ^ 64 - 1) 1 2 ∷
    case 12 0 (loud 2048) 0 1 3 ∷
    case 12 0 (quiet 4095 ++ loud 1) 0 2 3 ∷
    -- two faults: 1 before 19, 19 before 2, 2 before 3 in a window, 3 in a window before 2 in the next
    case 11 2 [] 0 0 1 ∷
    case 10 2 [] 0 1 19 ∷
    case 11 0 [] 0 1 1 ∷
    case 10 1 (loud 2047) 0 1 2 ∷
    case 10 0 (quiet 2047 ++ loud 1) 0 2 3 ∷
    []

taken-worked :
    map (λ c. observe_refusal c.setup c.recording c.start c.count) taken ≡ map (λ c. c.refusal) taken
unfolding observe_refusal observe_checks is_system is_edition window_at out_of_range
taken-worked = refl

refused-worked :
    map (λ c. observe_answer HarmonicGroup c.setup c.recording c.start c.count) refused ≡
    map (λ c. record { refusal = c.refusal; observation = alike 10 0 0 0 0 }) refused
unfolding observe_answer observe_refusal observe_checks is_system is_edition window_at out_of_range empty_record
refused-worked = refl

-- the last window that is taken, and the one after it; 2 and 3 come before 9
edges-worked :
    map first_fault
    (add_window_checks (quiet 2048) 0 44999 ∷
    add_window_checks (quiet 2048) 0 45000 ∷
    add_window_checks (loud 2048) 0 45000 ∷
    add_window_checks (quiet 2047) 0 45000 ∷
    [])
    ≡ 0 ∷ 9 ∷ 3 ∷ 2 ∷ []
unfolding window_at out_of_range
edges-worked = refl

-- ---- the pulse

abbrev row_of : ℕ → ℕ → List ℕ → Row
row_of system edition values = record { setup = setup_of system edition; values = values }

-- the values of lines that are alike: under A1 order 1 has its component alone
abbrev under_a1 : List ℕ
under_a1 = 2828 ∷ replicate 39 9797

flat-values :
    (group_values HarmonicGroup (setup_of 10 0) (replicate 512 4000000) ≡ replicate 40 8944)
    × (group_values HarmonicGroup (setup_of 10 0) (replicate 512 0) ≡ replicate 40 0)
    × (group_values HarmonicSubgroup (setup_of 12 0) (replicate 512 4000000) ≡ replicate 40 4898)
    × (group_values HarmonicGroup (setup_of 12 1) (replicate 512 4000000) ≡ under_a1)
unfolding group_values group_answer group_refusal is_system is_edition is_order group_value value_over span_of grouped_as weights_in tabulate weighted_sum sum_over root_of largest
flat-values = (refl, refl, refl, refl)

-- the row of a window, from its lines
row-of :
    (kind : Kind) (setup : Setup) (window : List ℤ) (lines values : List ℕ) → lines_of window ≡ lines →
    group_values kind setup lines ≡ values → window_row kind setup window ≡ record { setup = setup; values = values }
unfolding window_row
row-of kind setup window lines values e f = rw (e, f)

pulse-row : window_row HarmonicGroup (setup_of 10 0) pulse ≡ row_of 10 0 (replicate 40 8944)
unfolding lines_of
pulse-row = row-of HarmonicGroup _ pulse _ _ (pulse-lines 0 512) flat-values.0

silence-row : window_row HarmonicGroup (setup_of 10 0) silence ≡ row_of 10 0 (replicate 40 0)
unfolding lines_of
silence-row = row-of HarmonicGroup _ silence _ _ (silence-lines 0 512) flat-values.1

subgroup-row : window_row HarmonicSubgroup (setup_of 12 0) pulse ≡ row_of 12 0 (replicate 40 4898)
unfolding lines_of
subgroup-row = row-of HarmonicSubgroup _ pulse _ _ (pulse-lines 0 512) flat-values.2

a1-row : window_row HarmonicGroup (setup_of 12 1) pulse ≡ row_of 12 1 under_a1
unfolding lines_of
a1-row = row-of HarmonicGroup _ pulse _ _ (pulse-lines 0 512) flat-values.3

-- the second window begins where the first ends
abbrev pub pulse_then_silence : List ℤ
pulse_then_silence = pulse ++ silence

windows-of : (window_at pulse_then_silence 0 ≡ pulse) × (window_at pulse_then_silence 2048 ≡ silence)
unfolding window_at pulse silence
windows-of = (refl, refl)

rows-of-two :
    window_rows HarmonicGroup (setup_of 10 0) pulse_then_silence 0 2
    ≡ row_of 10 0 (replicate 40 8944) ∷ row_of 10 0 (replicate 40 0) ∷ []
unfolding window_rows tabulate
rows-of-two = rw (windows-of.0, windows-of.1, pulse-row, silence-row)

rows-of-one :
    (window_rows HarmonicSubgroup (setup_of 12 0) pulse_then_silence 0 1 ≡ row_of 12 0 (replicate 40 4898) ∷ [])
    × (window_rows HarmonicGroup (setup_of 12 1) pulse_then_silence 0 1 ≡ row_of 12 1 under_a1 ∷ [])
unfolding window_rows tabulate
rows-of-one = rw (windows-of.0, subgroup-row, a1-row) (refl, refl)

-- under A1, after one row
abbrev record_under_a1 : Observation
record_under_a1 = keeping (under_a1 ++ replicate 560 0) (worked_record (setup_of 12 1) 1 under_a1 under_a1 under_a1)

records-of :
    (record_after (empty_record (setup_of 10 0)) (row_of 10 0 (replicate 40 8944) ∷ row_of 10 0 (replicate 40 0) ∷ []) ≡ alike 10 2 7828 16772 8944)
    × (record_after (empty_record (setup_of 12 0)) (row_of 12 0 (replicate 40 4898) ∷ []) ≡ alike 12 1 4898 4898 4898)
    × (record_after (empty_record (setup_of 12 1)) (row_of 12 1 under_a1 ∷ []) ≡ record_under_a1)
unfolding record_after add_row_answer add_row_refusal row_checks same_setup is_sound is_setup is_system is_edition none_above all_zero empty_record with_row with_latest first_values tabulate next_book book_at book_step smoothed_next smoothed_value nearest
records-of = (refl, refl, refl)

passed :
    (observe_refusal (setup_of 10 0) pulse_then_silence 0 2 ≡ 0)
    × (observe_refusal (setup_of 12 0) pulse_then_silence 0 1 ≡ 0)
    × (observe_refusal (setup_of 12 1) pulse_then_silence 0 1 ≡ 0)
unfolding observe_refusal observe_checks is_system is_edition window_at out_of_range pulse silence
passed = (refl, refl, refl)

-- document 01's pulse, 8944 in its harmonic groups, then 7828 as the silent window is smoothed in; 4898 in the subgroups of one window;
-- and under A1 2828 in the harmonic group of order 1
pub pulse-observed :
    (observe_answer HarmonicGroup (setup_of 10 0) pulse_then_silence 0 2
    ≡ record { refusal = 0; observation = alike 10 2 7828 16772 8944 })
    × (observe_answer HarmonicSubgroup (setup_of 12 0) pulse_then_silence 0 1
    ≡ record { refusal = 0; observation = alike 12 1 4898 4898 4898 })
    × (observe_answer HarmonicGroup (setup_of 12 1) pulse_then_silence 0 1
    ≡ record { refusal = 0; observation = record_under_a1 })
unfolding observe_answer
pulse-observed = (
  rw (passed.0, rows-of-two, records-of.0),
  rw (passed.1, rows-of-one.0, records-of.1),
  rw (passed.2, rows-of-one.1, records-of.2),
)
