-- A row that is worked from samples holds values of 32 bits, and its value of an order is within the group margin of what an exact book of that order is fed.
-- So the exact books of an order are near its reported book.
use mathlib.Core.Path.{◌≡◌}
use mathlib.Core.Bool.{true}
use mathlib.Core.List.{List}
use Prim.Native.Nat.{ℕ, ◌-◌}
use lib.IntN.{ℤ}
use Rattle.algebra.specs.Fraction.{Side, lower, upper, SquareWithin}
use Rattle.algebra.proofs.Fraction.{near-root}
use Rattle.rows.specs.declared.Row.{Row}
use Rattle.rows.specs.declared.Setup.{Setup}
use Rattle.rows.specs.Setups.{is_setup}
use Rattle.rows.specs.Rows.{ValuesFit}
use Rattle.spectral_lines.specs.Line.{lines_of}
use Rattle.kinds.specs.declared.Kind.{Kind}
use Rattle.groups.specs.Exact.{exact_group}
use Rattle.groups.proofs.GroupSum.{group_values-le, group_values-at}
use Rattle.books.specs.Smoothing.{smoothed_margin}
use Rattle.observation.specs.BookCalls.{value_at, AcceptedFit}
use Rattle.accuracy.specs.Distance.{group_margin, EveryOrder, value_of, ValueNear, GroupsNear}
use Rattle.accuracy.specs.CallList.{CallList, accepted, ExactBook, state}
use Rattle.accuracy.specs.WorkedRows.{Worked}
use Rattle.accuracy.specs.Claim.{WorkedList, Feeds, reported_book}
use Rattle.accuracy.proofs.GroupDistance.{groups-near}
use Rattle.accuracy.proofs.AcceptedCalls.{accepted-setup, each-accepted-carry}
use Rattle.accuracy.proofs.Books.{BookNear, margins-kept, exact-book-near}

module _ (kind : Kind) (row : Row) (window : List ℤ) (worked : Worked kind row window) where
  pub worked-fits : ValuesFit row
  unfolding ValuesFit
  worked-fits i = rw worked.values (group_values-le kind row.setup _ i)

  -- the value that the row holds of an order
  pub worked-value : EveryOrder (λ order. value_at (order - 1) row ≡ value_of kind row.setup order window)
  worked-value order positive le = rw worked.values (group_values-at kind row.setup (lines_of window) order positive le)

  -- it is near the exact group, under a known setup
  pub worked-near :
      is_setup row.setup ≡ true →
      EveryOrder (λ order. ValueNear kind row.setup order window (value_at (order - 1) row))
  unfolding GroupsNear
  worked-near known order positive le =
      let near = groups-near kind row.setup window known worked.in-range order positive le in
      rw (worked-value order positive le) near.value-near

-- the accepted rows of a worked list hold values of 32 bits
pub worked-list-fits : (kind : Kind) (list : CallList) → WorkedList kind list → AcceptedFit list.setup 0 list.rows
unfolding WorkedList
worked-list-fits kind list =
    each-accepted-carry (λ row. row) _ ValuesFit (accepted list)
    (λ count row taken worked. worked-fits kind row worked.0 worked.1)
    0 list.rows

-- both sides of the distance
square-within :
    (side : Side) (kind : Kind) (setup : Setup) (order : ℕ) (window : List ℤ) (value : ℕ) →
    ValueNear kind setup order window value →
    SquareWithin side value (exact_group kind setup order window) group_margin
square-within lower kind setup order window value near = near.not-far-above
square-within upper kind setup order window value near = near.not-far-below

-- the exact books of an order are near its reported book
pub order-book-near :
    (side : Side) (kind : Kind) (list : CallList) →
    EveryOrder (λ order.
    (book : ExactBook list (Feeds side kind order)) →
    BookNear side smoothed_margin (reported_book list order) (state list book))
unfolding Feeds
order-book-near side kind list order positive le =
    exact-book-near side group_margin smoothed_margin margins-kept.0 list (value_at (order - 1)) (Feeds side kind order)
    (λ count call taken fed.
    let known = accepted-setup list count call.row taken in
    let near = worked-near kind call.row fed.0 fed.1 known order positive le in
    near-root side _ group_margin _ _ (square-within side kind _ order _ _ near) fed.2)
