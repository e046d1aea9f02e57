-- Every list of calls whose accepted rows are worked from samples has an l book and a u book of every order,
-- and windows of its last rows: what demand 3 says of all of them is never empty.
-- The books are fed the reported value less 7 (not below 0), and plus 7.
use mathlib.Core.Path.{◌≡◌, refl, ap, ◌∙◌}
use mathlib.Core.Bool.{true}
use mathlib.Core.List.{List, [], ◌∷◌, map, map-map, map-id}
use Prim.Native.Nat.{ℕ, ◌+◌, ◌-◌, ◌<◌, ◌≤◌}
use lib.IntN.{ℤ}
use Rattle.algebra.specs.Fraction.{whole, Side, lower, upper, RootBound}
use Rattle.algebra.specs.Weighted.{Everywhere}
use Rattle.algebra.proofs.Weighted.{everywhere-drop}
use Rattle.rows.specs.declared.Row.{Row}
use Rattle.rows.specs.declared.Setup.{Setup}
use Rattle.rows.specs.Orders.{order_count}
use Rattle.kinds.specs.declared.Kind.{Kind}
use Rattle.groups.specs.Exact.{exact_group}
use Rattle.observation.specs.BookCalls.{Fed, value_at}
use Rattle.accuracy.specs.Distance.{group_margin, ValueNear}
use Rattle.accuracy.specs.ExactBook.{exact}
use Rattle.accuracy.specs.CallList.{CallList, accepted, accepted_rows, ExactBook}
use Rattle.accuracy.specs.WorkedRows.{Worked, Sampled, SampledRows}
use Rattle.accuracy.specs.LatestRows.{rows_gone, last_rows}
use Rattle.accuracy.specs.Claim.{WorkedList, Feeds}
use Rattle.accuracy.proofs.AcceptedCalls.{accepted-setup, each-accepted-map}
use Rattle.accuracy.proofs.WorkedRows.{worked-near}

-- the reported value less the margin, and plus it
bound : Side → ℕ → ℕ
bound lower value = value - group_margin
bound upper value = value + group_margin

bound-holds :
    (side : Side) (kind : Kind) (setup : Setup) (order : ℕ) (window : List ℤ) (value : ℕ) →
    ValueNear kind setup order window value →
    RootBound side (whole (bound side value)) (exact_group kind setup order window)
unfolding bound
bound-holds lower kind setup order window value near = near.not-far-below
bound-holds upper kind setup order window value near = near.not-far-above

module _ (side : Side) (order : ℕ) where
  -- a call of the book at a row
  call_at : Row → Fed exact
  call_at row = record { row = row; value = whole (bound side (value_at (order - 1) row)) }

  module _ (kind : Kind) (list : CallList) (positive : 0 < order) (le : order ≤ order_count) where
    feeds :
        (count : ℕ) (row : Row) →
        accepted list count row ≡ true →
        (window : List ℤ) × Worked kind row window →
        Feeds side kind order (call_at row)
    unfolding Feeds call_at
    feeds count row taken (window, worked) =
        (window, worked, bound-holds side kind _ order _ _ (worked-near kind row window worked (accepted-setup list count row taken) order positive le))

    pub book-exists : WorkedList kind list → ExactBook list (Feeds side kind order)
    unfolding WorkedList call_at
    book-exists worked =
        record {
          calls = map call_at list.rows;
          same_rows = map-map (λ call. call.row) call_at list.rows ∙ map-id list.rows;
          fed = each-accepted-map call_at (λ call. call.row) _ (Feeds side kind order) (accepted list) feeds 0 list.rows worked;
        }

-- ---- the windows of rows that are worked from samples

module _ (kind : Kind) where
  abbrev FromSamples : Row → Type 0
  FromSamples row = (window : List ℤ) × Worked kind row window

  sampled_of : (rows : List Row) → Everywhere FromSamples rows → List Sampled
  sampled_of [] from = []
  sampled_of (row ∷ rows) from = record { row = row; window = from.0.0 } ∷ sampled_of rows from.1

  sampled_of-rows : (rows : List Row) (from : Everywhere FromSamples rows) → map (λ s. s.row) (sampled_of rows from) ≡ rows
  unfolding sampled_of
  sampled_of-rows [] from = refl
  sampled_of-rows (row ∷ rows) from = ap (λ (rest : List Row). row ∷ rest) (sampled_of-rows rows from.1)

  sampled_of-worked : (rows : List Row) (from : Everywhere FromSamples rows) → Everywhere (λ s. Worked kind s.row s.window) (sampled_of rows from)
  unfolding sampled_of
  sampled_of-worked [] from = tt
  sampled_of-worked (row ∷ rows) from = (from.0.1, sampled_of-worked rows from.1)

  -- of the last rows of a list
  pub samples-exist : (list : CallList) → WorkedList kind list → SampledRows kind (last_rows list)
  unfolding WorkedList
  samples-exist list worked =
      let from = everywhere-drop FromSamples (rows_gone list) (accepted_rows list) worked in
      record {
        sampled = sampled_of (last_rows list) from;
        same_rows = sampled_of-rows (last_rows list) from;
        worked = sampled_of-worked (last_rows list) from;
      }
