-- How a row of document 01's refusal table decides, what a call then answers, and what a `Result` of the code stands for.
use Rattle.std.specs.Prelude.{Bool, cond, List, [], ◌∷◌, ℕ, eqb, Result, Ok, Err}
use Rattle.refusals.specs.Numbers.{no_refusal, unknown_system, short_window, sample_out_of_range, wrong_line_count, line_too_large, order_out_of_range, unsound_record, other_setup, record_full, no_window, scale_out_of_range, no_fundamental, not_a_column, wrong_buffer_length, unknown_class, unknown_edition, too_few_windows}
use Rattle.refusals.specs.declared.Refusal.{Refusal}
use Rattle.refusals.specs.declared.Refusal.TheVariants.{UnknownSystem, ShortWindow, SampleOutOfRange, WrongLineCount, LineTooLarge, OrderOutOfRange, UnsoundRecord, OtherSetup, RecordFull, NoWindow, ScaleOutOfRange, NoFundamental, NotAColumn, WrongBufferLength, UnknownClass, UnknownEdition, TooFewWindows}

-- "First match in each row wins": of a row of checks, each a test for a fault with its number, the number of the first fault that is there
abbrev pub first_fault : List (Bool × ℕ) → ℕ
first_fault [] = no_refusal
first_fault (check ∷ checks) = cond check.0 check.1 (first_fault checks)

-- what stands on success, and what stands where the call is refused
abbrev pub unless_refused {ℓ} : {A : Type ℓ} → ℕ → A → A → A
unless_refused refusal accepted unchanged = cond (eqb refusal no_refusal) accepted unchanged

-- what document 01 has a call answer: a refusal's number, or that of none, and a value
pub record Answer : Type 0 where
  pub refusal : ℕ
  pub value : ℕ

-- "A refusal gives its number with 0 as value"
abbrev pub answer : ℕ → ℕ → Answer
answer refusal accepted = record { refusal = refusal; value = unless_refused refusal accepted 0 }

-- the number of a refusal of the code
abbrev pub number_of : Refusal → ℕ
number_of UnknownSystem = unknown_system
number_of ShortWindow = short_window
number_of SampleOutOfRange = sample_out_of_range
number_of WrongLineCount = wrong_line_count
number_of LineTooLarge = line_too_large
number_of OrderOutOfRange = order_out_of_range
number_of UnsoundRecord = unsound_record
number_of OtherSetup = other_setup
number_of RecordFull = record_full
number_of NoWindow = no_window
number_of ScaleOutOfRange = scale_out_of_range
number_of NoFundamental = no_fundamental
number_of NotAColumn = not_a_column
number_of WrongBufferLength = wrong_buffer_length
number_of UnknownClass = unknown_class
number_of UnknownEdition = unknown_edition
number_of TooFewWindows = too_few_windows

-- the number that a result of the code gives: that of the refusal, or that of none
abbrev pub refusal_of : {A : Type 0} → Result A Refusal → ℕ
refusal_of (Ok value) = no_refusal
refusal_of (Err refusal) = number_of refusal

-- what a result of the code answers: the value, or the refusal's number with 0
abbrev pub answer_of : Result ℕ Refusal → Answer
answer_of (Ok value) = record { refusal = no_refusal; value = value }
answer_of (Err refusal) = record { refusal = number_of refusal; value = 0 }
