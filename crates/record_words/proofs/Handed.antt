-- What an exported call leaves of a record, from what its inner function answers.
use mathlib.Core.Path.{◌≡◌, refl, sym, ◌∙◌}
use mathlib.Core.Bool.{Bool, true, false, cond}
use mathlib.Core.List.{List}
use Prim.Native.Nat.{ℕ}
use lib.Dec.{eqb}
use lib.ListN.{length}
use Rattle.std.specs.Prelude.{Result, Ok, Err, IfOk, OnOk}
use Rattle.refusals.specs.Numbers.{no_refusal, unsound_record}
use Rattle.refusals.specs.Answers.{unless_refused}
use Rattle.refusals.proofs.Answers.{unless_refused-accepted}
use Rattle.records.specs.declared.Observation.{Observation}
use Rattle.exported_answers.specs.declared.CallRefusal.{CallRefusal}
use Rattle.exported_answers.specs.CallRefusals.{call_refusal_of}
use Rattle.exported_answers.proofs.Handed.{refused_call_is_no_acceptance}
use Rattle.records.specs.Soundness.{is_sound}
use Rattle.record_words.specs.Words.{record_words, record_of, record_read, words_of, words_left}
use Rattle.record_words.proofs.Words.{words_with-whole, record_read-same}

-- the words of the record where nothing is refused, for which there is room then, and else what was there
pub handed_record :
    (result : Result Observation CallRefusal) (refusal : ℕ) (accepted : Observation) (before : List ℕ) →
    call_refusal_of result ≡ refusal → IfOk result (λ o. o ≡ accepted) → OnOk result (length before ≡ record_words) →
    words_left result before ≡ unless_refused refusal (words_of accepted) before
handed_record (Ok o) refusal accepted before e same room =
    rw same (words_with-whole accepted before room ∙ sym (unless_refused-accepted refusal (words_of accepted) before (sym e)))
handed_record (Err r) refusal accepted before e same room = rw (← e, refused_call_is_no_acceptance r)

-- a call about the record that some words hold, which refuses one that is not sound: the library's numbers make no difference to what is answered and left
module _
    {A : Type 0} (own : ℕ) (refusal : Observation → ℕ) (accepted : Observation → A) (before : A)
    (unsound : (o : Observation) → is_sound o ≡ false → refusal o ≡ unsound_record) (words : List ℕ) where
  pub same_number : unless_refused own (refusal (record_read words)) own ≡ unless_refused own (refusal (record_of words)) own
  same_number =
      record_read-same (λ o. unless_refused own (refusal o) own) (unless_refused own unsound_record own) (λ o e. rw (unsound o e)) words

  pub same_left :
      unless_refused (unless_refused own (refusal (record_read words)) own) (accepted (record_read words)) before
      ≡ unless_refused (unless_refused own (refusal (record_of words)) own) (accepted (record_of words)) before
  same_left =
      record_read-same (λ o. unless_refused (unless_refused own (refusal o) own) (accepted o) before) before
      (λ o e. rw (unsound o e) (refused (accepted o) (eqb own no_refusal) refl)) words
    where
      refused : (a : A) (passed : Bool) → eqb own no_refusal ≡ passed → unless_refused (cond passed unsound_record own) a before ≡ before
      refused a true e = refl
      refused a false e = rw e
