-- The hypotheses of card 14 for the exported calls can be met: the pulse and no signal, in harmonic groups (kind 1) of order 1 at
-- 12 cycles, and words that hold a record with one window.
use mathlib.Core.Path.{◌≡◌, refl, sym, ◌∙◌}
use mathlib.Core.List.{List, ◌∷◌}
use Prim.Native.Nat.{ℕ}
use native.Mathlib.Omega.{arith}
use lib.Dec.{lit<}
use lib.IntN.{pos}
use lib.ListN.{replicate}
use Rattle.algebra.specs.Lists.{tabulate}
use Rattle.std.specs.List.{list_any}
use Rattle.algebra.specs.Rounding.{nearest, rounded_up}
use Rattle.refusals.specs.Numbers.{no_refusal}
use Rattle.rows.specs.Orders.{is_order}
use Rattle.rows.specs.Systems.{is_system}
use Rattle.rows.specs.Editions.{is_edition}
use Rattle.rows.specs.Setups.{is_setup, same_setup}
use Rattle.kinds.specs.declared.Kind.TheVariants.{HarmonicGroup}
use Rattle.groups.proofs.GroupSum.{accepted-value, group_refusal-of-place}
use Rattle.books.specs.Smoothing.{smoothed_value}
use Rattle.records.specs.Soundness.{is_sound, none_above, all_zero}
use Rattle.observation.specs.Calls.{row_checks, add_row_refusal}
use Rattle.glitch.specs.Windows.{lines_left}
use Rattle.glitch.specs.Claim.{Apart, row_of}
use Rattle.glitch.proofs.Groups.{answered}
use Rattle.glitch.proofs.Smoothed.{smoothed-after, row-value}
use Rattle.glitch.proofs.Worked.{Two, window, silence, pulse, at12, group_of, worked-values, alike, size}
use Rattle.kind_numbers.specs.Kinds.{kinds, is_kind, kind_with}
use Rattle.exported_windows.specs.GroupCalls.{group_call_refusal, group_call_exit, row_call_refusal, row_call_exit}
use Rattle.lists.specs.LentWords.{words_from}
use Rattle.record_words.specs.Halves.{unpacked}
use Rattle.record_words.specs.Parts.{parts_from}
use Rattle.record_words.specs.Words.{of_parts, record_of}
use Rattle.exported_records.specs.RecordCalls.{add_row_call_refusal, add_row_call_exit}
use Rattle.exported_accuracy.specs.Claim.{smoothed_word}
use Rattle.exported_accuracy.specs.Glitch.{CalledSmoothedApart}
use Rattle.exported_accuracy.proofs.ExportedGlitch.{row_count, row-left, smoothed-words, exported-glitch}

-- kifsang_group_value is not refused, and leaves 9797 of the pulse and 0 of no signal, whatever was there before
group-not-refused : (w : Two) → group_call_refusal 1 at12 1 (lines_left (window w)) ≡ no_refusal
unfolding group_call_refusal is_kind kinds is_setup is_system is_edition is_order
group-not-refused w = answered (window w) at12 1 refl refl

group-left : (w : Two) (before : ℕ) → group_call_exit 1 at12 1 (lines_left (window w)) before ≡ group_of w
unfolding group_call_exit kind_with kinds is_setup is_system is_edition is_order
group-left w before =
    rw (group-not-refused w)
    (sym (accepted-value HarmonicGroup at12 1 (lines_left (window w)) (answered (window w) at12 1 refl refl)))

groups-left : (before : ℕ) →
    (group_call_exit 1 at12 1 (lines_left (window pulse)) before ≡ 9797) × (group_call_exit 1 at12 1 (lines_left (window silence)) before ≡ 0)
groups-left before = (group-left pulse before ∙ worked-values.1, group-left silence before ∙ worked-values.0)

-- they are at most 10 × 1000 + 14 apart
groups-apart : (before : ℕ) →
    Apart 10014 (group_call_exit 1 at12 1 (lines_left (window pulse)) before) (group_call_exit 1 at12 1 (lines_left (window silence)) before)
groups-apart before =
    rw (size (pos 1000) (pos 0) (pos 0)) at
    (exported-glitch.groups (window pulse) (window silence) 0 1 at12 1 before (alike (pos 1000) (pos 0) (pos 0)) (group-not-refused pulse) (group-not-refused silence))

-- the words of a row, and those of a record with one window of no signal
abbrev row_words : List ℕ
row_words = replicate 40 77

abbrev record_held : List ℕ
record_held = 12 ∷ 0 ∷ 1 ∷ replicate 420 0

row-not-refused : (w : Two) → row_call_refusal 1 at12 (lines_left (window w)) row_words ≡ no_refusal
unfolding row_call_refusal is_kind kinds is_setup is_system is_edition is_order
row-not-refused w =
    sym (group_refusal-of-place at12 0 (lines_left (window w)) (omega arith)) ∙ answered (window w) at12 1 refl refl

abbrev row_left : Two → List ℕ
row_left w = row_call_exit 1 at12 (lines_left (window w)) row_words

-- kifsang_add_row is not refused
row-added : (w : Two) → add_row_call_refusal record_held at12 (row_left w) ≡ no_refusal
unfolding add_row_call_refusal add_row_refusal row_checks same_setup is_system is_edition is_setup is_sound none_above all_zero record_of of_parts parts_from words_from unpacked tabulate
row-added w = rw (row_count 1 at12 (lines_left (window w)) row_words (row-not-refused w))

-- it leaves 1223 after the pulse and 0 after no signal
word-left : (w : Two) → smoothed_word (add_row_call_exit record_held at12 (row_left w)) 1 ≡ smoothed_value (group_of w) 0
unfolding add_row_call_exit kind_with kinds is_setup is_system is_edition record_of of_parts parts_from words_from tabulate
word-left w =
    rw (
      row-added w,
      smoothed-words record_held at12 (row_left w) 1 (omega arith) (omega arith),
      ← row-left 1 at12 (lines_left (window w)) row_words (row-not-refused w),
    )
    (smoothed-after (record_of record_held) (row_of HarmonicGroup at12 (window w)).row (lit< tt) 1 (omega arith) (omega arith)
    ∙ rw (row-value HarmonicGroup at12 refl (window w) 1 (omega arith) (omega arith)))

words_left :
    (smoothed_word (add_row_call_exit record_held at12 (row_left pulse)) 1 ≡ 1223)
    × (smoothed_word (add_row_call_exit record_held at12 (row_left silence)) 1 ≡ 0)
unfolding smoothed_value nearest
words_left = (word-left pulse ∙ rw worked-values.1, word-left silence ∙ rw worked-values.0)

-- and smoothed values that are at most 1,250 apart
smoothed-apart : CalledSmoothedApart record_held at12 (row_left pulse) (row_left silence) 1250
unfolding rounded_up record_of of_parts parts_from words_from tabulate
smoothed-apart =
    rw (size (pos 1000) (pos 0) (pos 0)) at
    (exported-glitch.smoothed (window pulse) (window silence) 0 1 at12 row_words record_held
    (alike (pos 1000) (pos 0) (pos 0)) (row-not-refused pulse) (row-not-refused silence) (omega arith))
