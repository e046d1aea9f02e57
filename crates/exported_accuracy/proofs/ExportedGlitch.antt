-- Card 14 for the exported calls: what they leave is what the library's calls answer.
use mathlib.Core.Path.{◌≡◌, sym, ◌∙◌}
use mathlib.Core.Bool.{true}
use mathlib.Core.List.{List, [], ◌∷◌}
use Prim.Native.Nat.{ℕ, ◌-◌, ◌<◌}
use native.Mathlib.Omega.{arith}
use lib.ListN.{length}
use Rattle.algebra.proofs.Lists.{length-tabulate}
use Rattle.refusals.specs.Numbers.{no_refusal}
use Rattle.refusals.specs.Answers.{first_fault}
use Rattle.refusals.proofs.Answers.{unless_refused-related}
use Rattle.rows.specs.Orders.{order_count}
use Rattle.rows.specs.Setups.{is_setup}
use Rattle.rows.specs.declared.Row.{Row}
use Rattle.rows.specs.declared.Setup.{Setup}
use Rattle.rows.proofs.Orders.{order-bounds}
use Rattle.groups.specs.Group.{group_refusal, group_values, group_row_refusal, group_row_answer}
use Rattle.groups.proofs.GroupSum.{accepted, accepted-value, group_refusal-of-place}
use Rattle.observation.specs.Calls.{next_book, with_row, add_row_refusal, add_row_answer}
use Rattle.observation.proofs.SoundRecord.{add_row_answer-accepted}
use Rattle.accuracy.specs.Distance.{EveryOrder}
use Rattle.glitch.specs.Windows.{AcceptedWindow, samples_of, lines_left, glitch_size}
use Rattle.glitch.specs.Claim.{smoothed_shift, Apart, GroupsBounded, row_of, smoothed_in, SmoothedApart, SmoothedBounded}
use Rattle.glitch.proofs.Glitch.{glitch}
use Rattle.exported_answers.specs.OwnChecks.{word_count_check}
use Rattle.exported_answers.proofs.Handed.{own-first-none}
use Rattle.kind_numbers.specs.Kinds.{kind_with, kind_check}
use Rattle.exported_windows.specs.GroupCalls.{group_call_refusal, group_call_exit, row_call_refusal, row_call_exit}
use Rattle.record_words.specs.Words.{record_words, words_of, record_of}
use Rattle.record_words.proofs.Words.{smoothed-word}
use Rattle.exported_records.specs.RecordCalls.{lent_row, add_row_call_refusal, add_row_call_exit}
use Rattle.exported_accuracy.specs.Claim.{smoothed_word}
use Rattle.exported_accuracy.specs.Glitch.{CalledSmoothedApart, CalledGroupsBounded, ExportedGlitchHolds}

called-groups-bounded :
    (one other : AcceptedWindow) (place number : ℕ) (setup : Setup) (order before : ℕ) →
    CalledGroupsBounded one other place number setup order before
unfolding group_call_refusal group_call_exit GroupsBounded
called-groups-bounded one other place number setup order before alike first second =
    let kind = kind_with number in
    let own = first_fault (kind_check number ∷ []) in
    let first-passed = own-first-none own (group_refusal setup order (lines_left one)) first in
    let second-passed = own-first-none own (group_refusal setup order (lines_left other)) second in
    let call = accepted setup order (lines_left one) first-passed in
    let bounds = order-bounds order call.known-order in
    rw (
      first,
      second,
      ← accepted-value kind setup order (lines_left one) first-passed,
      ← accepted-value kind setup order (lines_left other) second-passed,
    )
    (glitch.groups kind setup one other place call.known-setup alike order (omega arith) bounds.1).values

-- ---- a row, and the words after it

module _ (number : ℕ) (setup : Setup) (lines before : List ℕ) (passed : row_call_refusal number setup lines before ≡ no_refusal) where
  row-passed : group_row_refusal setup lines ≡ no_refusal
  unfolding row_call_refusal
  row-passed = own-first-none (first_fault (kind_check number ∷ word_count_check order_count before ∷ [])) (group_row_refusal setup lines) passed

  row-known : is_setup setup ≡ true
  row-known = (accepted setup 1 lines (group_refusal-of-place setup 0 lines (omega arith) ∙ row-passed)).known-setup

  -- the row that is left is the one that the library answers
  pub row-left : (group_row_answer (kind_with number) setup lines).row ≡ lent_row setup (row_call_exit number setup lines before)
  unfolding row_call_exit group_row_answer
  row-left = rw (passed, row-passed)

  pub row_count : length (row_call_exit number setup lines before) ≡ order_count
  unfolding row_call_exit group_values
  row_count = rw passed (length-tabulate order_count _)

-- a row that is added, and the smoothed values in the words of the record with it
module _ (words : List ℕ) (setup : Setup) (values : List ℕ) where
  abbrev row : Row
  row = lent_row setup values

  record-added : add_row_call_refusal words setup values ≡ no_refusal → (add_row_answer (record_of words) row).observation ≡ with_row (record_of words) row
  unfolding add_row_call_refusal
  record-added added =
      let own = first_fault (word_count_check record_words words ∷ word_count_check order_count values ∷ []) in
      add_row_answer-accepted (record_of words) row (own-first-none own (add_row_refusal (record_of words) row) added)

  pub smoothed-words :
      EveryOrder (λ order. smoothed_word (words_of (with_row (record_of words) row)) order ≡ smoothed_in (with_row (record_of words) row) order)
  unfolding with_row
  smoothed-words order positive le =
      smoothed-word (with_row (record_of words) row) (order - 1)
      (omega (arith, length-tabulate order_count (λ i. (next_book (record_of words) row i).smoothed)))

module _
    (one other : AcceptedWindow) (place number : ℕ) (setup : Setup) (before words : List ℕ)
    (first : row_call_refusal number setup (lines_left one) before ≡ no_refusal)
    (second : row_call_refusal number setup (lines_left other) before ≡ no_refusal)
    -- what is known of the library's calls
    (moved :
    SmoothedApart (record_of words) (row_of (kind_with number) setup one) (row_of (kind_with number) setup other)
    (smoothed_shift (glitch_size place (samples_of one) (samples_of other))))
  where
    abbrev d : ℕ
    d = glitch_size place (samples_of one) (samples_of other)

    abbrev one_row : List ℕ
    one_row = row_call_exit number setup (lines_left one) before

    abbrev other_row : List ℕ
    other_row = row_call_exit number setup (lines_left other) before

    same-refusals : add_row_call_refusal words setup one_row ≡ add_row_call_refusal words setup other_row
    unfolding add_row_call_refusal add_row_answer
    same-refusals =
        rw (
          row_count number setup (lines_left one) before first,
          row_count number setup (lines_left other) before second,
          ← row-left number setup (lines_left one) before first,
          ← row-left number setup (lines_left other) before second,
          moved.same-refusal,
        )

    called-smoothed-apart : CalledSmoothedApart words setup one_row other_row (smoothed_shift d)
    unfolding add_row_call_exit
    called-smoothed-apart = record {
      same-refusal = same-refusals;
      values = λ order positive le.
          unless_refused-related (λ after also-after. Apart (smoothed_shift d) (smoothed_word after order) (smoothed_word also-after order))
          (add_row_call_refusal words setup one_row) (add_row_call_refusal words setup other_row) _ _ words
          same-refusals
          (λ added.
          rw (
            smoothed-words words setup one_row order positive le,
            smoothed-words words setup other_row order positive le,
            ← record-added words setup one_row added,
            ← record-added words setup other_row (sym same-refusals ∙ added),
            ← row-left number setup (lines_left one) before first,
            ← row-left number setup (lines_left other) before second,
          )
          (moved.values order positive le))
          (record { one-le = omega arith; other-le = omega arith });
    }

pub exported-glitch : ExportedGlitchHolds
unfolding SmoothedBounded
exported-glitch = record {
  groups = called-groups-bounded;
  smoothed = λ one other place number setup before words alike first second.
      let kind = kind_with number in
      -- the library's calls, where the record holds a window
      let moved :
      (held : 0 < (record_of words).windows) →
      SmoothedApart (record_of words) (row_of kind setup one) (row_of kind setup other)
      (smoothed_shift (glitch_size place (samples_of one) (samples_of other))) =
      λ held.
      glitch.smoothed kind setup one other place (record_of words)
      (row-known number setup (lines_left one) before first) alike (omega (arith, held)) in
      λ held. called-smoothed-apart one other place number setup before words first second (moved held);
}
