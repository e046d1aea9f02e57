-- What a result of the code tells of the number and the value that the documents give it.
use mathlib.Core.Path.{◌≡◌, sym, ap, ◌∙◌}
use Prim.Native.Nat.{ℕ, ◌<◌}
use native.Mathlib.Omega.{arith}
use lib.Dec.{eqb}
use borrow.Author.Tests.{ne_eqb}
use mathlib.Core.Bool.{false}
use Rattle.std.specs.Prelude.{Result, Ok, Err, IfOk}
use Rattle.refusals.specs.Numbers.{no_refusal}
use Rattle.refusals.specs.Answers.{Answer, answer, answer_of, number_of, refusal_of}
use Rattle.refusals.specs.declared.Refusal.{Refusal}
use Rattle.refusals.specs.declared.Refusal.TheVariants.{UnknownSystem, ShortWindow, SampleOutOfRange, WrongLineCount, LineTooLarge, OrderOutOfRange, UnsoundRecord, OtherSetup, RecordFull, NoWindow, ScaleOutOfRange, NoFundamental, NotAColumn, WrongBufferLength, UnknownClass, UnknownEdition, TooFewWindows}
use Rattle.refusals.proofs.Answers.{unless_refused-accepted}

-- a refusal's number is not that of none
pub number_is_positive : (refusal : Refusal) → 0 < number_of refusal
number_is_positive UnknownSystem = omega arith
number_is_positive ShortWindow = omega arith
number_is_positive SampleOutOfRange = omega arith
number_is_positive WrongLineCount = omega arith
number_is_positive LineTooLarge = omega arith
number_is_positive OrderOutOfRange = omega arith
number_is_positive UnsoundRecord = omega arith
number_is_positive OtherSetup = omega arith
number_is_positive RecordFull = omega arith
number_is_positive NoWindow = omega arith
number_is_positive ScaleOutOfRange = omega arith
number_is_positive NoFundamental = omega arith
number_is_positive NotAColumn = omega arith
number_is_positive WrongBufferLength = omega arith
number_is_positive UnknownClass = omega arith
number_is_positive UnknownEdition = omega arith
number_is_positive TooFewWindows = omega arith

pub refused_is_no_acceptance : (refusal : Refusal) → eqb (number_of refusal) no_refusal ≡ false
refused_is_no_acceptance refusal =
    let positive : 0 < number_of refusal = number_is_positive refusal in
    ne_eqb (number_of refusal) no_refusal (λ e. omega (arith, e))

-- where an answer is the documents', so is the refusal's number, and the value where nothing is refused
pub answered : (result : Result ℕ Refusal) (refusal accepted : ℕ) → answer_of result ≡ answer refusal accepted
    → (refusal_of result ≡ refusal) × IfOk result (λ value. value ≡ accepted)
answered (Ok value) refusal accepted e =
    let none : refusal ≡ no_refusal = sym (ap (λ (a : Answer). a.refusal) e) in
    (sym none, ap (λ (a : Answer). a.value) e ∙ unless_refused-accepted refusal accepted 0 none)
answered (Err r) refusal accepted e = (ap (λ (a : Answer). a.refusal) e, tt)
