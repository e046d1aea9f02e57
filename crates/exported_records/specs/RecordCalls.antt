-- What the calls of the observation record answer: document 01, "The observation record", after the calls' own checks. The record goes in and out as words.
use Rattle.std.specs.Prelude.{List, [], ◌∷◌, ℕ}
use Rattle.refusals.specs.Answers.{unless_refused}
use Rattle.rows.specs.Orders.{order_count}
use Rattle.rows.specs.declared.Row.{Row}
use Rattle.rows.specs.declared.Setup.{Setup}
use Rattle.observation.specs.Calls.{empty_record, fresh_refusal, with_row, add_row_refusal}
use Rattle.exported_answers.specs.OwnChecks.{own_first, word_count_check}
use Rattle.record_words.specs.Words.{record_words, record_of, words_of}

-- 102; then the row "fresh record"
unfoldable pub fresh_call_refusal : Setup → List ℕ → ℕ
fresh_call_refusal setup words = own_first (word_count_check record_words words ∷ []) (fresh_refusal setup)

-- the words at exit; on a refusal what they were
unfoldable pub fresh_call_exit : Setup → List ℕ → List ℕ
fresh_call_exit setup words =
    unless_refused (fresh_call_refusal setup words) (words_of (empty_record setup)) words

-- a row as the caller lends it
abbrev pub lent_row : Setup → List ℕ → Row
lent_row setup values = record { setup = setup; values = values }

-- 102 for the record and for the row; then the row "add row"
unfoldable pub add_row_call_refusal : List ℕ → Setup → List ℕ → ℕ
add_row_call_refusal words setup values =
    own_first
    (word_count_check record_words words ∷ word_count_check order_count values ∷ [])
    (add_row_refusal (record_of words) (lent_row setup values))

unfoldable pub add_row_call_exit : List ℕ → Setup → List ℕ → List ℕ
add_row_call_exit words setup values =
    unless_refused
    (add_row_call_refusal words setup values)
    (words_of (with_row (record_of words) (lent_row setup values)))
    words
