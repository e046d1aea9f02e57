-- What the call for the verdict of an order in a class answers: document 01, "Class A verdicts", and document 02, card 1, after the call's own check. The record goes in as words.
use Rattle.std.specs.Prelude.{List, [], ◌∷◌, ℕ}
use Rattle.refusals.specs.Answers.{unless_refused}
use Rattle.verdict.specs.declared.Question.{Question}
use Rattle.verdict.specs.declared.Verdict.{Verdict}
use Rattle.verdict.specs.declared.Verdict.TheVariants.{Within, Close, Over}
use Rattle.verdict.specs.Call.{verdict_of, verdict_refusal}
use Rattle.exported_answers.specs.OwnChecks.{own_first, word_count_check}
use Rattle.record_words.specs.Words.{record_words, record_of}

-- the number of each of document 01's three cases, the caller knows the order; 0 is none, so that a variable that was zeroed and that no call wrote says nothing
unfoldable pub verdict_number : Verdict → ℕ
verdict_number (Within order) = 1
verdict_number (Close order) = 2
verdict_number (Over order) = 3

-- 102; then the row "verdict"
unfoldable pub verdict_call_refusal : List ℕ → Question → ℕ
verdict_call_refusal words q =
    own_first (word_count_check record_words words ∷ []) (verdict_refusal (record_of words) q)

-- the verdict's number at exit; on a refusal what it was
unfoldable pub verdict_call_exit : List ℕ → Question → ℕ → ℕ
verdict_call_exit words q verdict =
    unless_refused
    (verdict_call_refusal words q)
    (verdict_number (verdict_of (record_of words) q))
    verdict
