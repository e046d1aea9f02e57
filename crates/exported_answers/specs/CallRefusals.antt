-- What a result of an exported call's inner function stands for: the number that the caller receives, and the values that are left.
use Rattle.std.specs.Prelude.{List, ℕ, length, Result, Ok, Err}
use Rattle.refusals.specs.Numbers.{no_refusal}
use Rattle.refusals.specs.Answers.{number_of}
use Rattle.lists.specs.LentWords.{words_from}
use Rattle.exported_answers.specs.declared.CallRefusal.{CallRefusal}
use Rattle.exported_answers.specs.declared.CallRefusal.TheVariants.{UnknownKind, WrongWordCount, Library, Numbered}
use Rattle.exported_answers.specs.OwnChecks.{unknown_kind, wrong_word_count}

-- the number of a refusal
abbrev pub call_number_of : CallRefusal → ℕ
call_number_of UnknownKind = unknown_kind
call_number_of WrongWordCount = wrong_word_count
call_number_of (Library refusal) = number_of refusal
call_number_of (Numbered other) = other.number

-- the number that a result gives: that of the refusal, or that of none
abbrev pub call_refusal_of : {A : Type 0} → Result A CallRefusal → ℕ
call_refusal_of (Ok accepted) = no_refusal
call_refusal_of (Err refusal) = call_number_of refusal

-- what a lent row of values holds after a call for a row: the row's values, as many as it holds, or what was there
abbrev pub values_left : Result (List ℕ) CallRefusal → List ℕ → List ℕ
values_left (Ok row) values = words_from 0 (length values) row
values_left (Err refusal) values = values
