-- What each exported call does to the caller's words and to the list of document 01 that the calls have come to, and that they come to every list of rows of 40 values.
-- Demand 3 is claimed of the list that the calls have come to: where a call ended it, less would be claimed, and proved as well; here that is refused.
use mathlib.Core.Path.{◌≡◌, refl, sym, ap, ◌∙◌}
use mathlib.Core.Bool.{true}
use mathlib.Core.List.{List, [], ◌∷◌, ◌++◌, map, append-nil, append_assoc}
use mathlib.Core.Option.{Option, none, some}
use Prim.Native.Nat.{ℕ, ◌≤◌}
use native.Mathlib.Omega.{arith}
use borrow.Author.Tests.{le-leb, lt-leb, eq-eqb, ne_eqb}
use lib.Dec.{leb}
use lib.IntN.{ℤ}
use lib.ListN.{length, take, drop}
use Rattle.algebra.specs.Weighted.{Everywhere}
use Rattle.rows.specs.Setups.{is_setup}
use Rattle.rows.specs.declared.Row.{Row}
use Rattle.rows.specs.declared.Setup.{Setup}
use Rattle.rows.specs.Orders.{order_count}
use Rattle.verdict.specs.declared.Question.{Question}
use Rattle.accuracy.specs.CallList.{CallList}
use Rattle.accuracy.specs.Claim.{observed_list}
use Rattle.observe.specs.Observe.{observe_refusal}
use Rattle.record_words.specs.Words.{record_words}
use Rattle.kind_numbers.specs.Kinds.{is_kind, kind_with}
use Rattle.exported_observe.specs.ObserveCall.{observe_call_exit}
use Rattle.exported_records.specs.RecordCalls.{fresh_call_exit, add_row_call_exit}
use Rattle.exported_accuracy.specs.Calls.{Asked, fresh_record, observe_windows, add_row, ask_verdict, ask_three_second, left_by, Call, words_at_exit, words_after, with_call, list_asked, list_at_exit, list_after}
use Rattle.worked_numbers.proofs.EachSetup.{EachSetup, each-setup}

-- ---- the words: those that are lent hold what the call leaves, the others stay

module _ (words : List ℕ) (lent : ℕ) where
  abbrev Left : Asked → List ℕ → Type 0
  Left asked front = words_at_exit words (record { lent = lent; asked = asked }) ≡ front ++ drop lent words

  words_left :
      ((setup : Setup) → Left (fresh_record setup) (fresh_call_exit setup (take lent words))) ×
      ((number : ℕ) (setup : Setup) (recording : List ℤ) (start windows : ℕ) →
      Left (observe_windows number setup recording start windows) (observe_call_exit number setup recording start windows (take lent words))) ×
      ((setup : Setup) (values : List ℕ) → Left (add_row setup values) (add_row_call_exit (take lent words) setup values)) ×
      ((q : Question) → Left (ask_verdict q) (take lent words)) ×
      ((order : ℕ) → Left (ask_three_second order) (take lent words))
  unfolding words_at_exit left_by
  words_left = (
    λ setup. refl,
    λ number setup recording start windows. refl,
    λ setup values. refl,
    λ q. refl,
    λ order. refl,
  )

-- each call gets the words that the call before left
words-in-turn : (words : List ℕ) (call : Call) (calls : List Call) → words_after words (call ∷ calls) ≡ words_after (words_at_exit words call) calls
unfolding words_after
words-in-turn words call calls = refl

-- ---- the list, of a call that lends 423 words or more, and of one that lends fewer

module _ (begun : Option CallList) (lent : ℕ) where
  abbrev Goes : Asked → Option CallList → Type 0
  Goes asked list = list_at_exit begun (record { lent = lent; asked = asked }) ≡ list

  few-go-on : (asked : Asked) → lent ≤ 422 → Goes asked begun
  unfolding list_at_exit
  few-go-on asked few = rw (lt-leb record_words lent (omega (arith, few)))

  module _ (enough : 423 ≤ lent) where
    whole-record : leb record_words lent ≡ true
    whole-record = le-leb record_words lent enough

    -- a fresh record begins another list
    abbrev Begins : Setup → Type 0
    Begins setup = Goes (fresh_record setup) (some (record { setup = setup; rows = [] }))

    fresh-known : (setup : Setup) → is_setup setup ≡ true → Begins setup
    unfolding list_at_exit list_asked
    fresh-known setup known = rw (whole-record, known)

    fresh-begins : EachSetup Begins
    fresh-begins = each-setup Begins fresh-known

    -- and so does an observation that is not refused, of any kind
    observation-begins :
        (number : ℕ) (setup : Setup) (recording : List ℤ) (start windows : ℕ) →
        is_kind number ≡ true → observe_refusal setup recording start windows ≡ 0 →
        Goes (observe_windows number setup recording start windows) (some (observed_list (kind_with number) setup recording start windows))
    unfolding list_at_exit list_asked
    observation-begins number setup recording start windows known accepted = rw (whole-record, known, accepted)

    -- values that are not 40 are no row; a verdict and a three-second value change nothing
    others-go-on :
        ((setup : Setup) (values : List ℕ) → ¬ (length values ≡ 40) → Goes (add_row setup values) begun) ×
        ((q : Question) → Goes (ask_verdict q) begun) ×
        ((order : ℕ) → Goes (ask_three_second order) begun)
    unfolding list_at_exit list_asked
    others-go-on = (
      λ setup values other. rw (whole-record, ne_eqb (length values) order_count other),
      λ q. rw whole-record,
      λ order. rw whole-record,
    )

-- a list that has begun goes on with every row of 40 values, whatever its system and its edition
row-goes-on :
    (list : CallList) (lent : ℕ) → 423 ≤ lent → (row : Row) → length row.values ≡ 40 →
    list_at_exit (some list) (record { lent = lent; asked = add_row row.setup row.values }) ≡
    some (record { setup = list.setup; rows = list.rows ++ (row ∷ []) })
unfolding list_at_exit list_asked with_call
row-goes-on list lent enough row forty = rw (le-leb record_words lent enough, eq-eqb (length row.values) order_count forty)

-- ---- calls that come to a list

-- kifsang_add_row with a row
adding : Row → Call
adding row = record { lent = 423; asked = add_row row.setup row.values }

rows-go-on :
    (list : CallList) (rows : List Row) → Everywhere (λ row. length row.values ≡ 40) rows →
    list_after (some list) (map adding rows) ≡ some (record { setup = list.setup; rows = list.rows ++ rows })
unfolding list_after adding
rows-go-on list [] forty = ap (λ (rows : List Row). some (record { setup = list.setup; rows = rows })) (sym (append-nil list.rows))
rows-go-on list (row ∷ rows) forty =
    ap (λ (begun : Option CallList). list_after begun (map adding rows)) (row-goes-on list 423 (omega arith) row forty.0)
    ∙ (rows-go-on (record { setup = list.setup; rows = list.rows ++ (row ∷ []) }) rows forty.1
    ∙ ap (λ (all : List Row). some (record { setup = list.setup; rows = all })) (append_assoc list.rows (row ∷ []) rows))

-- a fresh record and then each row of the list
pub calls_for : CallList → List Call
calls_for list = record { lent = 423; asked = fresh_record list.setup } ∷ map adding list.rows

-- the calls come to any list of a known setup with rows of 40 values, refused ones included
pub every-list :
    (list : CallList) → is_setup list.setup ≡ true → Everywhere (λ row. length row.values ≡ 40) list.rows →
    list_after none (calls_for list) ≡ some list
unfolding calls_for list_after
every-list list known forty =
    ap (λ (begun : Option CallList). list_after begun (map adding list.rows)) (fresh-known none 423 (omega arith) list.setup known)
    ∙ rows-go-on (record { setup = list.setup; rows = [] }) list.rows forty
