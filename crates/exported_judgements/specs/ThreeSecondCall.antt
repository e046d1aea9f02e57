-- What the call for the three-second value of an order answers: document 02, card 8, after the call's own check. The record goes in as words.
use Rattle.std.specs.Prelude.{List, [], ◌∷◌, ℕ}
use Rattle.refusals.specs.Answers.{unless_refused}
use Rattle.three_seconds.specs.ThreeSecond.{three_second_in, three_second_refusal}
use Rattle.exported_answers.specs.OwnChecks.{own_first, word_count_check}
use Rattle.record_words.specs.Words.{record_words, record_of}

-- 102; then 7, 6 and 20
unfoldable pub three_second_call_refusal : List ℕ → ℕ → ℕ
three_second_call_refusal words order =
    own_first (word_count_check record_words words ∷ []) (three_second_refusal (record_of words) order)

-- the value at exit; on a refusal what it was
unfoldable pub three_second_call_exit : List ℕ → ℕ → ℕ → ℕ
three_second_call_exit words order value =
    unless_refused (three_second_call_refusal words order) (three_second_in (record_of words) order) value
