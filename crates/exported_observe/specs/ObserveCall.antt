-- What the call that takes a recording's windows answers: the fold of document 01's "The observation record" over them, after the call's own checks. The record goes out as words.
use Rattle.std.specs.Prelude.{List, [], ◌∷◌, ℕ, ℤ}
use Rattle.refusals.specs.Answers.{unless_refused}
use Rattle.rows.specs.declared.Setup.{Setup}
use Rattle.observation.specs.Calls.{empty_record}
use Rattle.observation.specs.RecordAfter.{record_after}
use Rattle.observe.specs.Observe.{window_rows, observe_refusal}
use Rattle.exported_answers.specs.OwnChecks.{own_first, word_count_check}
use Rattle.record_words.specs.Words.{record_words, words_of}
use Rattle.kind_numbers.specs.Kinds.{kind_with, kind_check}

-- 101; 102; then 1 and 19, and for each window in turn 2, 3 and 9
unfoldable pub observe_call_refusal : ℕ → Setup → List ℤ → ℕ → ℕ → List ℕ → ℕ
observe_call_refusal kind setup recording start windows words =
    own_first (kind_check kind ∷ word_count_check record_words words ∷ []) (observe_refusal setup recording start windows)

-- the words at exit: those of the record after the windows' rows; on a refusal what they were
unfoldable pub observe_call_exit : ℕ → Setup → List ℤ → ℕ → ℕ → List ℕ → List ℕ
observe_call_exit kind setup recording start windows words =
    unless_refused
    (observe_call_refusal kind setup recording start windows words)
    (words_of (record_after (empty_record setup) (window_rows (kind_with kind) setup recording start windows)))
    words
