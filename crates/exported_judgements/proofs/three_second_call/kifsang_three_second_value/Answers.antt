-- `exported_judgements::three_second_call::kifsang_three_second_value` meets its contract: what the inner function says of the record in the library's numbers holds of the one that the words hold.
use mathlib.Core.Path.{◌≡◌, ◌∙◌}
use mathlib.Core.Bool.{false}
use mathlib.Core.List.{[], ◌∷◌}
use Prim.Native.Nat.{ℕ}
use Rattle.refusals.specs.Numbers.{unsound_record}
use Rattle.refusals.specs.Answers.{first_fault}
use Rattle.records.specs.declared.Observation.{Observation}
use Rattle.records.specs.Soundness.{is_sound}
use Rattle.three_seconds.specs.ThreeSecond.{three_second_in, three_second_refusal}
use Rattle.record_words.specs.Words.{record_words}
use Rattle.record_words.proofs.Handed.{same_number, same_left}
use Rattle.exported_answers.specs.OwnChecks.{word_count_check}
use Rattle.exported_answers.proofs.Handed.{handed_over}
use Rattle.exported_judgements.specs.ThreeSecondCall.{three_second_call_refusal, three_second_call_exit}
use Rattle.exported_judgements.proofs.three_second_call.kifsang_three_second_value.Goals as goal

unsound : (order : ℕ) (o : Observation) → is_sound o ≡ false → three_second_refusal o order ≡ unsound_record
unfolding three_second_refusal
unsound order o e = rw e

pub returns-clause-value : goal.returns-clause-value
unfolding three_second_call_refusal
returns-clause-value c = let a = c.args in
    let own = first_fault (word_count_check record_words a.words.now ∷ []) in
    c.hand_over.ensures.value ∙ (c.three_second_value.ensures.refusal
    ∙ same_number own (λ o. three_second_refusal o a.order) (λ o. three_second_in o a.order) a.value.now (unsound a.order) a.words.now)

pub returns-clause-value_after : goal.returns-clause-value_after
unfolding three_second_call_refusal three_second_call_exit
returns-clause-value_after c = let a = c.args in
    let own = first_fault (word_count_check record_words a.words.now ∷ []) in
    c.hand_over.ensures.value_after
    ∙ (handed_over c.three_second_value.result _ _ _ c.three_second_value.ensures.refusal c.three_second_value.ensures.accepted
    ∙ same_left own (λ o. three_second_refusal o a.order) (λ o. three_second_in o a.order) a.value.now (unsound a.order) a.words.now)
