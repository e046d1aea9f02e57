-- What an exported call leaves, from what its inner function answers.
use mathlib.Core.Path.{◌≡◌, refl, sym, ◌∙◌}
use mathlib.Core.Bool.{Bool, true, false, cond, not, true≢false}
use mathlib.Core.List.{List}
use Prim.Native.Nat.{ℕ, zero, suc, ◌<◌}
use native.Mathlib.Omega.{arith}
use lib.Dec.{eqb}
use lib.ListN.{length}
use borrow.Author.Tests.{eqb-true, eqb-false, ne_eqb, not-false}
use Rattle.std.specs.Prelude.{Result, Ok, Err, IfOk, OnOk}
use Rattle.std.specs.Result.{result_unwrap_or}
use Rattle.refusals.specs.Numbers.{no_refusal}
use Rattle.refusals.specs.Answers.{unless_refused}
use Rattle.refusals.proofs.Answers.{no-fault, unless_refused-accepted}
use Rattle.refusals.proofs.Results.{number_is_positive}
use Rattle.exported_answers.specs.declared.CallRefusal.{CallRefusal}
use Rattle.exported_answers.specs.declared.CallRefusal.TheVariants.{UnknownKind, WrongWordCount, Library, Numbered}
use Rattle.exported_answers.specs.OwnChecks.{wrong_word_count, IsOther}
use Rattle.lists.proofs.LentWords.{words_from-whole}
use Rattle.exported_answers.specs.CallRefusals.{call_number_of, call_refusal_of, values_left}

-- ---- the call's own checks

-- where neither they nor the row of document 01's table refuse, the row does not
pub own-first-none : (own row : ℕ) → unless_refused own row own ≡ no_refusal → row ≡ no_refusal
own-first-none own row = by-test (eqb own no_refusal) refl
  where
    by-test : (none : Bool) → eqb own no_refusal ≡ none → cond none row own ≡ no_refusal → row ≡ no_refusal
    by-test true e passed = passed
    by-test false e passed = absurd (eqb-false own no_refusal e passed)

-- where the check of a count of words passes, there are so many
pub count-passed :
    (count rest : ℕ) (words : List ℕ) →
    cond (not (eqb (length words) count)) wrong_word_count rest ≡ no_refusal →
    (length words ≡ count) × (rest ≡ no_refusal)
count-passed count rest words e =
    let passed = no-fault (not (eqb (length words) count)) wrong_word_count rest (omega arith) e in
    (eqb-true (length words) count (not-false _ passed.0), passed.1)

-- ---- the inner function's answer

-- a number that is another is not that of none
other_is_positive : (n : ℕ) → IsOther n → 0 < n
other_is_positive zero other = absurd (true≢false other)
other_is_positive (suc n) other = omega arith

-- a refusal's number is not that of none
pub call_number_is_positive : (refusal : CallRefusal) → 0 < call_number_of refusal
call_number_is_positive UnknownKind = omega arith
call_number_is_positive WrongWordCount = omega arith
call_number_is_positive (Library refusal) = number_is_positive refusal
call_number_is_positive (Numbered other) = other_is_positive other.number other.other

pub refused_call_is_no_acceptance : (refusal : CallRefusal) → eqb (call_number_of refusal) no_refusal ≡ false
refused_call_is_no_acceptance refusal =
    let positive : 0 < call_number_of refusal = call_number_is_positive refusal in
    ne_eqb (call_number_of refusal) no_refusal (λ e. omega (arith, e))

-- what is handed over of it is the definitions': the value where nothing is refused, and else what was there
pub handed_over : {A : Type 0} (result : Result A CallRefusal) (refusal : ℕ) (accepted before : A) →
    call_refusal_of result ≡ refusal → IfOk result (λ value. value ≡ accepted) →
    result_unwrap_or result before ≡ unless_refused refusal accepted before
handed_over (Ok value) refusal accepted before e v = v ∙ sym (unless_refused-accepted refusal accepted before (sym e))
handed_over (Err r) refusal accepted before e v = rw (← e, refused_call_is_no_acceptance r)

-- and the values of a row, for as many of which there is room where nothing is refused
pub handed_over_row : (result : Result (List ℕ) CallRefusal) (refusal count : ℕ) (accepted before : List ℕ) →
    call_refusal_of result ≡ refusal → IfOk result (λ row. row ≡ accepted) →
    length accepted ≡ count → OnOk result (length before ≡ count) →
    values_left result before ≡ unless_refused refusal accepted before
handed_over_row (Ok row) refusal count accepted before e same whole room =
    rw same (words_from-whole accepted (length before) (whole ∙ sym room) ∙ sym (unless_refused-accepted refusal accepted before (sym e)))
handed_over_row (Err r) refusal count accepted before e same whole room = rw (← e, refused_call_is_no_acceptance r)

-- ---- the number of a call whose own checks come first, and then the library's

module _ (own row : ℕ) where
  -- an own check finds a fault
  pub own_fault_first : (refusal : CallRefusal) → call_number_of refusal ≡ own → call_number_of refusal ≡ unless_refused own row own
  own_fault_first refusal e = rw (← e, refused_call_is_no_acceptance refusal)

  -- none does, so that the library's answer decides
  pub library_next : (refusal : ℕ) → no_refusal ≡ own → refusal ≡ row → refusal ≡ unless_refused own row own
  library_next refusal passed e = rw (← passed) e

-- of two own checks in turn: the first finds its fault, or it does not and the other decides
module _ (fault : Bool) (number rest : ℕ) where
  pub first_of_two : (row : ℕ) (refusal : CallRefusal) → call_number_of refusal ≡ cond fault number no_refusal →
      call_number_of refusal ≡ unless_refused (cond fault number rest) row (cond fault number rest)
  first_of_two row refusal = by-fault fault
    where
      by-fault : (there : Bool) → call_number_of refusal ≡ cond there number no_refusal →
          call_number_of refusal ≡ unless_refused (cond there number rest) row (cond there number rest)
      by-fault true e = own_fault_first number row refusal e
      by-fault false e = let positive : 0 < call_number_of refusal = call_number_is_positive refusal in absurd (omega arith)

  pub second_of_two : 0 < number → no_refusal ≡ cond fault number no_refusal → cond fault number rest ≡ rest
  second_of_two positive = by-fault fault
    where
      by-fault : (there : Bool) → no_refusal ≡ cond there number no_refusal → cond there number rest ≡ rest
      by-fault true e = absurd (omega arith)
      by-fault false e = refl
