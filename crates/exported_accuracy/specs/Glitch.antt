-- What one bad sample can do to what the exported calls leave in the caller's buffers (document 02, card 14).
use Rattle.std.specs.Prelude.{◌≡◌, List, ℕ, ◌<◌}
use Rattle.refusals.specs.Numbers.{no_refusal}
use Rattle.rows.specs.declared.Setup.{Setup}
use Rattle.accuracy.specs.Distance.{EveryOrder}
use Rattle.glitch.specs.Windows.{AcceptedWindow, samples_of, lines_left, AlikeBut, glitch_size}
use Rattle.glitch.specs.Claim.{group_shift, smoothed_shift, Apart}
use Rattle.exported_windows.specs.GroupCalls.{group_call_refusal, group_call_exit, row_call_refusal, row_call_exit}
use Rattle.record_words.specs.Words.{record_of}
use Rattle.exported_records.specs.RecordCalls.{add_row_call_refusal, add_row_call_exit}
use Rattle.exported_accuracy.specs.Claim.{smoothed_word}

-- kifsang_add_row of either row to the same words: both calls are refused, with the same number, or neither; the smoothed values
-- that they leave differ by at most so many units
pub record CalledSmoothedApart (words : List ℕ) (setup : Setup) (one other : List ℕ) (most : ℕ) : Type 0 where
  pub same-refusal : add_row_call_refusal words setup one ≡ add_row_call_refusal words setup other
  pub values : EveryOrder (λ order.
      Apart most (smoothed_word (add_row_call_exit words setup one) order) (smoothed_word (add_row_call_exit words setup other) order))

-- kifsang_spectrum of two windows that are alike but for the sample at a place, and then the same calls for the lines of each
module _ (one other : AcceptedWindow) (place number : ℕ) (setup : Setup) where
  -- kifsang_group_value, neither call refused
  abbrev pub CalledGroupsBounded : ℕ → ℕ → Type 0
  CalledGroupsBounded order before =
      AlikeBut place (samples_of one) (samples_of other) →
      group_call_refusal number setup order (lines_left one) ≡ no_refusal →
      group_call_refusal number setup order (lines_left other) ≡ no_refusal →
      Apart (group_shift (glitch_size place (samples_of one) (samples_of other)))
      (group_call_exit number setup order (lines_left one) before)
      (group_call_exit number setup order (lines_left other) before)

  -- kifsang_row, neither call refused, and kifsang_add_row, to words that hold a record with at least one window
  abbrev pub CalledSmoothedBounded : List ℕ → List ℕ → Type 0
  CalledSmoothedBounded before words =
      AlikeBut place (samples_of one) (samples_of other) →
      row_call_refusal number setup (lines_left one) before ≡ no_refusal →
      row_call_refusal number setup (lines_left other) before ≡ no_refusal →
      0 < (record_of words).windows →
      CalledSmoothedApart words setup
      (row_call_exit number setup (lines_left one) before)
      (row_call_exit number setup (lines_left other) before)
      (smoothed_shift (glitch_size place (samples_of one) (samples_of other)))

-- Card 14 for the exported calls.
pub record ExportedGlitchHolds : Type 0 where
  pub groups :
      (one other : AcceptedWindow) (place number : ℕ) (setup : Setup) (order before : ℕ) →
      CalledGroupsBounded one other place number setup order before
  pub smoothed :
      (one other : AcceptedWindow) (place number : ℕ) (setup : Setup) (before words : List ℕ) →
      CalledSmoothedBounded one other place number setup before words
