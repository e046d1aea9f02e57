-- `exported_records::kifsang_add_row` meets its contract: what the inner function says of the record in the library's numbers holds of the one that the words hold.
use mathlib.Core.Path.{◌≡◌, ◌∙◌}
use mathlib.Core.Bool.{false}
use mathlib.Core.List.{[], ◌∷◌}
use Rattle.refusals.specs.Numbers.{unsound_record}
use Rattle.refusals.specs.Answers.{first_fault}
use Rattle.rows.specs.Orders.{order_count}
use Rattle.rows.specs.Setups.{setup_of}
use Rattle.rows.specs.declared.Row.{Row}
use Rattle.records.specs.declared.Observation.{Observation}
use Rattle.records.specs.Soundness.{is_sound}
use Rattle.observation.specs.Calls.{with_row, add_row_refusal}
use Rattle.record_words.specs.Words.{record_words, words_of}
use Rattle.record_words.proofs.Handed.{handed_record, same_number, same_left}
use Rattle.exported_answers.specs.OwnChecks.{word_count_check}
use Rattle.exported_records.specs.RecordCalls.{lent_row, add_row_call_refusal, add_row_call_exit}
use Rattle.exported_records.proofs.kifsang_add_row.Goals as goal

unsound : (row : Row) (o : Observation) → is_sound o ≡ false → add_row_refusal o row ≡ unsound_record
unfolding add_row_refusal
unsound row o e = rw e

pub returns-clause-value : goal.returns-clause-value
unfolding add_row_call_refusal
returns-clause-value c = let a = c.args in
    let row = lent_row (setup_of a.system a.edition) a.values.now in
    let own = first_fault (word_count_check record_words a.words.now ∷ word_count_check order_count a.values.now ∷ []) in
    c.hand_over_record.ensures.value ∙ (c.add_row.ensures.refusal
    ∙ same_number own (λ o. add_row_refusal o row) (λ o. words_of (with_row o row)) a.words.now (unsound row) a.words.now)

pub returns-clause-words_after : goal.returns-clause-words_after
unfolding add_row_call_refusal add_row_call_exit
returns-clause-words_after c = let a = c.args in
    let row = lent_row (setup_of a.system a.edition) a.values.now in
    let own = first_fault (word_count_check record_words a.words.now ∷ word_count_check order_count a.values.now ∷ []) in
    c.hand_over_record.ensures.words_after
    ∙ (handed_record c.add_row.result _ _ _ c.add_row.ensures.refusal c.add_row.ensures.accepted c.add_row.ensures.room
    ∙ same_left own (λ o. add_row_refusal o row) (λ o. words_of (with_row o row)) a.words.now (unsound row) a.words.now)
