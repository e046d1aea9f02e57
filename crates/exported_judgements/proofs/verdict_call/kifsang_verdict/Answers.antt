-- `exported_judgements::verdict_call::kifsang_verdict` meets its contract: what the inner function says of the record in the library's numbers holds of the one that the words hold.
use mathlib.Core.Path.{◌≡◌, ◌∙◌}
use mathlib.Core.Bool.{false}
use mathlib.Core.List.{[], ◌∷◌}
use Rattle.refusals.specs.Numbers.{unsound_record}
use Rattle.refusals.specs.Answers.{first_fault}
use Rattle.records.specs.declared.Observation.{Observation}
use Rattle.records.specs.Soundness.{is_sound}
use Rattle.verdict.specs.declared.Question.{Question}
use Rattle.verdict.specs.Question.{asked}
use Rattle.verdict.specs.Call.{verdict_of, verdict_refusal}
use Rattle.record_words.specs.Words.{record_words}
use Rattle.record_words.proofs.Handed.{same_number, same_left}
use Rattle.exported_answers.specs.OwnChecks.{word_count_check}
use Rattle.exported_answers.proofs.Handed.{handed_over}
use Rattle.exported_judgements.specs.VerdictCall.{verdict_number, verdict_call_refusal, verdict_call_exit}
use Rattle.exported_judgements.proofs.verdict_call.kifsang_verdict.Goals as goal

unsound : (q : Question) (o : Observation) → is_sound o ≡ false → verdict_refusal o q ≡ unsound_record
unfolding verdict_refusal
unsound q o e = rw e

pub returns-clause-value : goal.returns-clause-value
unfolding verdict_call_refusal
returns-clause-value c = let a = c.args in
    let q = asked a.order a.letter a.scale in
    let own = first_fault (word_count_check record_words a.words.now ∷ []) in
    c.hand_over.ensures.value ∙ (c.order_verdict.ensures.refusal
    ∙ same_number own (λ o. verdict_refusal o q) (λ o. verdict_number (verdict_of o q)) a.verdict.now (unsound q) a.words.now)

pub returns-clause-verdict_after : goal.returns-clause-verdict_after
unfolding verdict_call_refusal verdict_call_exit
returns-clause-verdict_after c = let a = c.args in
    let q = asked a.order a.letter a.scale in
    let own = first_fault (word_count_check record_words a.words.now ∷ []) in
    c.hand_over.ensures.value_after
    ∙ (handed_over c.order_verdict.result _ _ _ c.order_verdict.ensures.refusal c.order_verdict.ensures.accepted
    ∙ same_left own (λ o. verdict_refusal o q) (λ o. verdict_number (verdict_of o q)) a.verdict.now (unsound q) a.words.now)
