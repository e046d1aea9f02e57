-- Worked calls on the words of a record, with each kind of call among them, and each refusal but two: 7 is for the words at the
-- beginning to decide, and 9 takes a list that fills a record, which `worked_numbers` has. They come to a list that meets the
-- hypothesis of demand 3, for every kind, both editions, any two windows in range and any words at the beginning.
-- With 15 rows at the end the list has 16 accepted ones, and so a three-second value, which the last call asks for.
use mathlib.Core.Path.{◌≡◌, refl, ◌∙◌}
use mathlib.Core.Bool.{true}
use mathlib.Core.List.{List, [], ◌∷◌, ◌++◌}
use mathlib.Core.Option.{none, some}
use Prim.Native.Nat.{ℕ, ◌-◌}
use native.Mathlib.Omega.{arith}
use lib.IntN.{ℤ, pos}
use lib.ListN.{length, replicate}
use Rattle.algebra.specs.Lists.{tabulate}
use Rattle.std.specs.List.{list_any}
use Rattle.windows.specs.Window.{window_at, out_of_range, InRange}
use Rattle.spectral_lines.specs.Line.{lines_of}
use Rattle.kinds.specs.declared.Kind.{Kind}
use Rattle.groups.specs.Group.{group_values}
use Rattle.rows.specs.Systems.{is_system}
use Rattle.rows.specs.Editions.{is_edition}
use Rattle.rows.specs.Setups.{setup_of, is_setup}
use Rattle.rows.proofs.Editions.{each-edition}
use Rattle.rows.specs.Orders.{order_count}
use Rattle.accuracy.specs.Distance.{EveryOrder, WithinMargin}
use Rattle.accuracy.specs.CallList.{accepted_rows}
use Rattle.accuracy.specs.WorkedRows.{SampledRows}
use Rattle.accuracy.specs.LatestRows.{exact_three_second, last_rows}
use Rattle.accuracy.proofs.WorkedLists.{worked_row, other_rows, list_of, accepted-count, list-worked, list-holds}
use Rattle.verdict.specs.Question.{asked}
use Rattle.record_words.specs.Words.{record_words}
use Rattle.observe.specs.Observe.{window_rows, observe_checks, observe_refusal}
use Rattle.kind_numbers.specs.Kinds.{is_kind, kinds}
use Rattle.exported_accuracy.specs.Calls.{Asked, fresh_record, observe_windows, add_row, ask_verdict, ask_three_second, Call, words_after, with_call, list_asked, list_at_exit, list_after}
use Rattle.exported_judgements.specs.ThreeSecondCall.{three_second_call_refusal, three_second_call_exit}
use Rattle.exported_accuracy.specs.Claim.{WordsHold}
use Rattle.exported_accuracy.proofs.ExportedDemand3.{exported-demand3}

-- a call that lends all its words
abbrev lending_all : Asked → Call
lending_all call = record { lent = 423; asked = call }

module _ (kind : Kind) (window next : List ℤ) where
  -- with the last row so many times
  calls : ℕ → ℕ → List Call
  calls later edition =
      let own = setup_of 10 edition in
      -- before the first fresh record, and fresh records of no system and of no edition
      lending_all (add_row own (replicate order_count 1)) ∷
      lending_all (fresh_record (setup_of 11 edition)) ∷
      lending_all (fresh_record (setup_of 10 2)) ∷
      -- a list that another fresh record ends
      lending_all (fresh_record (setup_of 12 edition)) ∷
      lending_all (add_row (setup_of 12 edition) (replicate order_count 1)) ∷
      -- an observation, here of no window, begins a list as a fresh record does
      lending_all (observe_windows 1 own [] 0 0) ∷
      -- one of no kind, of no system, of no edition, a short one and one with a sample out of range change nothing
      lending_all (observe_windows 5 (setup_of 12 edition) [] 0 0) ∷
      lending_all (observe_windows 1 (setup_of 11 edition) [] 0 0) ∷
      lending_all (observe_windows 1 (setup_of 12 2) [] 0 0) ∷
      lending_all (observe_windows 1 (setup_of 12 edition) [] 0 1) ∷
      lending_all (observe_windows 1 (setup_of 12 edition) (replicate 2048 (pos 131072)) 0 1) ∷
      -- a verdict before the first window
      lending_all (ask_verdict (asked 3 65 1000000)) ∷
      lending_all (add_row own (group_values kind own (lines_of window))) ∷
      -- rows of another system, of another edition, of no edition and of no system are refused
      lending_all (add_row (setup_of 12 edition) (replicate order_count 1)) ∷
      lending_all (add_row (setup_of 10 (1 - edition)) (replicate order_count 1)) ∷
      lending_all (add_row (setup_of 10 2) (replicate order_count 1)) ∷
      lending_all (add_row (setup_of 11 edition) (replicate order_count 1)) ∷
      -- 39 values, a verdict in each class and of no order, in no class and with no K, a three-second value of no order and
      -- before the fifteenth row, a fresh record of no system and 422 words change nothing
      lending_all (add_row own (replicate 39 1)) ∷
      lending_all (ask_verdict (asked 3 65 1000000)) ∷
      lending_all (ask_verdict (asked 3 66 1000000)) ∷
      lending_all (ask_verdict (asked 1 65 1000000)) ∷
      lending_all (ask_verdict (asked 3 67 1000000)) ∷
      lending_all (ask_verdict (asked 3 65 0)) ∷
      lending_all (ask_three_second 0) ∷
      lending_all (ask_three_second 3) ∷
      lending_all (fresh_record (setup_of 0 edition)) ∷
      record { lent = 422; asked = fresh_record (setup_of 12 edition) } ∷
      -- the rows, and what is then asked
      replicate later (lending_all (add_row own (group_values kind own (lines_of next)))) ++
      lending_all (ask_verdict (asked 3 65 1000000)) ∷
      lending_all (ask_three_second 3) ∷
      []

  calls-come-to :
      (edition : ℕ) → is_edition edition ≡ true →
      (list_after none (calls 1 edition) ≡ some (list_of kind window next 1 edition)) ×
      (list_after none (calls 15 edition) ≡ some (list_of kind window next 15 edition))
  unfolding calls list_after list_at_exit list_asked with_call is_kind kinds observe_refusal observe_checks window_rows window_at out_of_range is_setup is_system is_edition group_values tabulate list_of worked_row other_rows
  calls-come-to =
      each-edition
      (λ edition.
      (list_after none (calls 1 edition) ≡ some (list_of kind window next 1 edition)) ×
      (list_after none (calls 15 edition) ≡ some (list_of kind window next 15 edition)))
      (refl, refl) (refl, refl)

  module _
      (edition : ℕ) (known : is_edition edition ≡ true) (in-range : InRange window) (next-in-range : InRange next)
      (words : List ℕ) (whole : length words ≡ record_words)
    where
      calls-hold : WordsHold kind (list_of kind window next 1 edition) (words_after words (calls 1 edition))
      calls-hold =
          exported-demand3.lists kind words whole (calls 1 edition) _ (calls-come-to edition known).0
          (list-worked kind window next 1 (omega arith) in-range next-in-range edition known)

      -- windows of the last 15 rows
      samples : SampledRows kind (last_rows (list_of kind window next 15 edition))
      samples = (list-holds kind window next 15 (omega arith) in-range next-in-range edition known).1

      -- the three-second value of every order after the 16 rows is not refused, and within 8 units of the exact one
      sixteen-calls-near :
          EveryOrder (λ order.
          (three_second_call_refusal (words_after words (calls 15 edition)) order ≡ 0) ×
          WithinMargin 8 (three_second_call_exit (words_after words (calls 15 edition)) order 0)
          (exact_three_second kind order samples.sampled))
      sixteen-calls-near order positive le =
          let list = list_of kind window next 15 edition in
          let sixteen : length (accepted_rows list) ≡ 16 = accepted-count kind window next 15 (omega arith) edition known in
          let called =
          (exported-demand3.lists kind words whole (calls 15 edition) list (calls-come-to edition known).1
          (list-worked kind window next 15 (omega arith) in-range next-in-range edition known)).three-seconds in (
            called.asked order positive le ∙ rw sixteen,
            called.near kind order positive le (omega (arith, sixteen)) samples 0,
          )
