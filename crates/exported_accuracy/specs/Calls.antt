-- The exported calls on a record's words, as a caller makes them one after the other, and the list of document 01 ("The list") that they go on with.
use Rattle.std.specs.Prelude.{cond, ◌&&◌, List, [], ◌∷◌, ◌++◌, ℕ, eqb, leb, ℤ, length, take, drop}
use Rattle.std.proofs.Math.Option.{Option, none, some}
use Rattle.refusals.specs.Numbers.{no_refusal}
use Rattle.rows.specs.Setups.{is_setup}
use Rattle.rows.specs.declared.Setup.{Setup}
use Rattle.rows.specs.Orders.{order_count}
use Rattle.rows.specs.declared.Row.{Row}
use Rattle.verdict.specs.declared.Question.{Question}
use Rattle.accuracy.specs.CallList.{CallList}
use Rattle.accuracy.specs.Claim.{observed_list}
use Rattle.observe.specs.Observe.{observe_refusal}
use Rattle.kind_numbers.specs.Kinds.{is_kind, kind_with}
use Rattle.record_words.specs.Words.{record_words}
use Rattle.exported_records.specs.RecordCalls.{lent_row, fresh_call_exit, add_row_call_exit}
use Rattle.exported_observe.specs.ObserveCall.{observe_call_exit}

-- what is asked of a record's words
pub data Asked : Type 0 where
  -- kifsang_fresh_record with a setup
  fresh_record : Setup → Asked
  -- kifsang_observe with a kind's number, a setup, a recording, the start of its first window and a count of windows
  observe_windows : ℕ → Setup → List ℤ → ℕ → ℕ → Asked
  -- kifsang_add_row with a setup and values
  add_row : Setup → List ℕ → Asked
  -- kifsang_verdict with what is asked
  ask_verdict : Question → Asked
  -- kifsang_three_second_value with an order
  ask_three_second : ℕ → Asked

-- what some words hold at exit, by the contract of each function; a verdict and a three-second value only read them
unfoldable pub left_by : List ℕ → Asked → List ℕ
left_by words (fresh_record setup) = fresh_call_exit setup words
left_by words (observe_windows number setup recording start windows) = observe_call_exit number setup recording start windows words
left_by words (add_row setup values) = add_row_call_exit words setup values
left_by words (ask_verdict q) = words
left_by words (ask_three_second order) = words

-- a call lends so many of the caller's words from the first on, all of them where there are fewer
pub record Call : Type 0 where
  pub lent : ℕ
  pub asked : Asked

-- the caller's words after a call; those that are not lent stay
unfoldable pub words_at_exit : List ℕ → Call → List ℕ
words_at_exit words call = left_by (take call.lent words) call.asked ++ drop call.lent words

-- each call gets the words that the call before left
unfoldable pub words_after : List ℕ → List Call → List ℕ
words_after words [] = words
words_after words (call ∷ calls) = words_after (words_at_exit words call) calls

-- one add row call more; before the first fresh record or observation there is no list
unfoldable pub with_call : Option CallList → Row → Option CallList
with_call none row = none
with_call (some list) row = some (record { setup = list.setup; rows = list.rows ++ (row ∷ []) })

-- "A fresh record begins another list": one that is not refused. An observation begins with one too, and goes on with the rows of its windows. Values that are not 40 are no row.
unfoldable pub list_asked : Option CallList → Asked → Option CallList
list_asked begun (fresh_record setup) = cond (is_setup setup) (some (record { setup = setup; rows = [] })) begun
list_asked begun (observe_windows number setup recording start windows) =
    cond (is_kind number && eqb (observe_refusal setup recording start windows) no_refusal)
    (some (observed_list (kind_with number) setup recording start windows))
    begun
list_asked begun (add_row setup values) =
    cond (eqb (length values) order_count) (with_call begun (lent_row setup values)) begun
list_asked begun (ask_verdict q) = begun
list_asked begun (ask_three_second order) = begun

-- a call that lends fewer than 423 words is refused before it looks at the record
unfoldable pub list_at_exit : Option CallList → Call → Option CallList
list_at_exit begun call = cond (leb record_words call.lent) (list_asked begun call.asked) begun

-- the list that the calls have come to; none before the first fresh record or observation
unfoldable pub list_after : Option CallList → List Call → Option CallList
list_after begun [] = begun
list_after begun (call ∷ calls) = list_after (list_at_exit begun call) calls
