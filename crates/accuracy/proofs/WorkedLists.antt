-- Worked lists of calls: a row, four that are refused, and another row so many times. They meet the hypotheses of demand 3 for
-- every kind, both editions, any two windows in range and any count of rows up to 45,000.
use mathlib.Core.Path.{◌≡◌, refl, sym, ap, ◌∙◌}
use mathlib.Core.Bool.{true}
use mathlib.Core.List.{List, [], ◌∷◌, ◌++◌, append-nil}
use Prim.Native.Nat.{ℕ, zero, suc, ◌+◌, ◌-◌, ◌≤◌, ◌<◌}
use native.Mathlib.Nat.{add-zero}
use native.Mathlib.Omega.{arith}
use borrow.Author.Tests.{lt-leb}
use lib.IntN.{ℤ}
use lib.ListN.{length, replicate, length-replicate}
use Rattle.algebra.specs.Weighted.{Everywhere}
use Rattle.spectral_lines.specs.Line.{lines_of}
use Rattle.windows.specs.Window.{InRange}
use Rattle.kinds.specs.declared.Kind.{Kind}
use Rattle.groups.specs.Group.{group_values}
use Rattle.rows.specs.Systems.{is_system}
use Rattle.rows.specs.Editions.{is_edition}
use Rattle.rows.specs.Setups.{setup_of, is_setup, same_setup}
use Rattle.rows.specs.declared.Setup.{Setup}
use Rattle.rows.specs.Orders.{order_count}
use Rattle.rows.specs.declared.Row.{Row}
use Rattle.rows.proofs.Editions.{each-edition}
use Rattle.rows.proofs.Setups.{setup-parts, same_setup-self}
use Rattle.records.specs.Soundness.{most_windows}
use Rattle.observation.specs.Calls.{row_checks}
use Rattle.observation.specs.BookCalls.{accepts, accepted_calls}
use Rattle.accuracy.specs.CallList.{CallList, accepted_rows}
use Rattle.accuracy.specs.WorkedRows.{Worked, SampledRows}
use Rattle.accuracy.specs.LatestRows.{last_rows}
use Rattle.accuracy.specs.Claim.{WorkedList, ListHolds}
use Rattle.accuracy.proofs.Demand3.{demand3}
use Rattle.accuracy.proofs.BooksExist.{samples-exist}

-- ---- the rows

unfoldable pub worked_row : Kind → ℕ → List ℤ → Row
worked_row kind edition window =
    record { setup = setup_of 10 edition; values = group_values kind (setup_of 10 edition) (lines_of window) }

pub worked-row : (kind : Kind) (edition : ℕ) (window : List ℤ) → InRange window → Worked kind (worked_row kind edition window) window
unfolding worked_row
worked-row kind edition window in-range = record { in-range = in-range; values = refl }

-- of another system, of the other edition, of no edition and of no system, so that they are refused: 8, 8, 19 and 1
unfoldable pub other_rows : ℕ → List Row
other_rows edition =
    record { setup = setup_of 12 edition; values = replicate order_count 1 } ∷
    record { setup = setup_of 10 (1 - edition); values = replicate order_count 1 } ∷
    record { setup = setup_of 10 2; values = replicate order_count 1 } ∷
    record { setup = setup_of 11 edition; values = replicate order_count 1 } ∷
    []

pub everywhere-replicate : {A : Type 0} (F : A → Type 0) (n : ℕ) (x : A) → F x → Everywhere F (replicate n x)
everywhere-replicate F zero x holds = tt
everywhere-replicate F (suc n) x holds = (holds, everywhere-replicate F n x holds)

-- ---- a row of a known setup again and again, up to 45,000 rows

module _ (setup : Setup) (row : Row) (known : is_setup setup ≡ true) (own : row.setup ≡ setup) where
  own-accepted : (count : ℕ) → count < most_windows → accepts setup count row ≡ true
  unfolding accepts row_checks
  own-accepted count less =
      let parts = setup-parts setup known in
      rw (own, parts.system-known, parts.edition-known, same_setup-self setup, lt-leb most_windows count less)

  -- before other rows
  pub again-then :
      (later count : ℕ) (rest : List Row) → count + later ≤ most_windows →
      accepted_calls (λ r. r) (accepts setup) count (replicate later row ++ rest) ≡
      replicate later row ++ accepted_calls (λ r. r) (accepts setup) (count + later) rest
  unfolding accepted_calls
  again-then zero count rest room = rw (add-zero count)
  again-then (suc later) count rest room =
      let counted : count + 1 + later ≡ count + suc later = omega arith in
      rw (own-accepted count (omega arith))
      (ap (λ (rows : List Row). row ∷ rows)
      (again-then later (count + 1) rest (omega arith)
      ∙ ap (λ (n : ℕ). replicate later row ++ accepted_calls (λ r. r) (accepts setup) n rest) counted))

  -- at the end
  again-accepted :
      (later count : ℕ) → count + later ≤ most_windows →
      accepted_calls (λ r. r) (accepts setup) count (replicate later row) ≡ replicate later row
  unfolding accepted_calls
  again-accepted later count room =
      ap (accepted_calls (λ r. r) (accepts setup) count) (sym (append-nil (replicate later row)))
      ∙ (again-then later count [] room ∙ append-nil (replicate later row))

-- ---- the list

module _ (kind : Kind) (window next : List ℤ) where
  -- a row, four that are refused, and another row so many times
  unfoldable pub list_of : ℕ → ℕ → CallList
  list_of later edition =
      record { setup = setup_of 10 edition; rows = worked_row kind edition window ∷ other_rows edition ++ replicate later (worked_row kind edition next) }

  module _ (later : ℕ) (room : later < most_windows) where
    accepted-rows :
        (edition : ℕ) → is_edition edition ≡ true →
        accepted_rows (list_of later edition) ≡ worked_row kind edition window ∷ replicate later (worked_row kind edition next)
    unfolding accepted_calls accepts row_checks same_setup is_setup is_system is_edition list_of other_rows worked_row
    accepted-rows =
        each-edition
        (λ edition. accepted_rows (list_of later edition) ≡ worked_row kind edition window ∷ replicate later (worked_row kind edition next))
        (again 0 refl) (again 1 refl)
      where
        again :
            (edition : ℕ) → is_setup (setup_of 10 edition) ≡ true →
            worked_row kind edition window ∷
            accepted_calls (λ r. r) (accepts (setup_of 10 edition)) 1 (replicate later (worked_row kind edition next)) ≡
            worked_row kind edition window ∷ replicate later (worked_row kind edition next)
        again edition known =
            ap (λ (rows : List Row). worked_row kind edition window ∷ rows)
            (again-accepted (setup_of 10 edition) (worked_row kind edition next) known refl later 1 (omega arith))

    -- the refused rows are not counted
    pub accepted-count : (edition : ℕ) → is_edition edition ≡ true → length (accepted_rows (list_of later edition)) ≡ suc later
    accepted-count edition known =
        rw (accepted-rows edition known) (ap suc (length-replicate later (worked_row kind edition next)))

    module _ (in-range : InRange window) (next-in-range : InRange next) where
      pub list-worked : (edition : ℕ) → is_edition edition ≡ true → WorkedList kind (list_of later edition)
      unfolding WorkedList list_of
      list-worked edition known =
          rw (accepted-rows edition known) (
            (window, worked-row kind edition window in-range),
            everywhere-replicate (λ row. (w : List ℤ) × Worked kind row w) later (worked_row kind edition next)
                (next, worked-row kind edition next next-in-range),
          )

      -- demand 3 holds of it, and there are windows of its last rows that the exact three-second value is worked from
      pub list-holds :
          (edition : ℕ) → is_edition edition ≡ true →
          ListHolds kind (list_of later edition) × SampledRows kind (last_rows (list_of later edition))
      unfolding is_setup is_system list_of
      list-holds edition known =
          let worked = list-worked edition known in
          (demand3.lists kind (list_of later edition) known worked, samples-exist kind (list_of later edition) worked)
