-- Demand 3: the distance of every group value, and the one claim about a list of calls.
use mathlib.Core.Path.{◌≡◌}
use mathlib.Core.Bool.{true}
use Prim.Native.Nat.{◌-◌, ◌<◌}
use native.Mathlib.Omega.{arith}
use Rattle.algebra.specs.Fraction.{whole, ◌+ᶠ◌}
use Rattle.rows.specs.Setups.{is_setup}
use Rattle.kinds.specs.declared.Kind.{Kind}
use Rattle.observation.specs.Calls.{book_at}
use Rattle.observation.proofs.RecordBooks.{fresh-record-after-setup, fresh-record-after-books}
use Rattle.verdict.proofs.Verdicts.{accepted}
use Rattle.accuracy.specs.Distance.{EveryOrder}
use Rattle.accuracy.specs.CallList.{CallList, after, reported_from}
use Rattle.accuracy.specs.Claim.{WorkedList, reported_book, ListHolds, Demand3Holds}
use Rattle.accuracy.proofs.GroupDistance.{weights-near, groups-near}
use Rattle.accuracy.proofs.WorkedRows.{worked-list-fits, order-book-near}
use Rattle.accuracy.proofs.Verdicts.{verdict-keeps, given-verdict}
use Rattle.accuracy.proofs.LatestRows.{latest-holds}
use Rattle.accuracy.proofs.ObservedRows.{observed-setup, observed-record, observed-windows, observed-worked}

module _ (kind : Kind) (list : CallList) (known : is_setup list.setup ≡ true) (worked : WorkedList kind list) where
  setup-kept : (after list).setup ≡ list.setup
  unfolding after
  setup-kept = fresh-record-after-setup list.setup list.rows known

  -- the record holds the reported books
  books-kept : EveryOrder (λ order. book_at (after list) (order - 1) ≡ reported_book list order)
  unfolding after reported_from
  books-kept order positive le =
      fresh-record-after-books list.setup list.rows (order - 1) known (omega arith) (worked-list-fits kind list worked)

  list-holds : ListHolds kind list
  unfolding whole ◌+ᶠ◌
  list-holds =
      record {
        same-setup = setup-kept;
        same_books = books-kept;
        smoothed-low = λ order positive le book.
            omega (arith, (order-book-near _ kind list order positive le book).smoothed-near.within);
        smoothed-high = λ order positive le book.
            omega (arith, (order-book-near _ kind list order positive le book).smoothed-near.within);
        latest = latest-holds list known (worked-list-fits kind list worked);
        verdicts = λ q asked.
            let call = accepted (after list) q asked in
            let positive : 0 < q.order = omega arith in
            given-verdict kind list q asked
            (verdict-keeps kind list _ q.order q.scale
            (λ side. order-book-near side kind list q.order positive call.order_le)
            (books-kept q.order positive call.order_le));
      }

pub demand3 : Demand3Holds
demand3 =
    record {
      weights = weights-near;
      groups = groups-near;
      latest = latest-holds;
      lists = list-holds;
      observed = λ kind setup recording start windows accepted.
          let worked = observed-worked kind setup recording start windows accepted in
          record {
            same-record = observed-record kind setup recording start windows accepted;
            windows-held = observed-windows kind setup recording start windows accepted;
            worked = worked;
            holds = list-holds kind _ (observed-setup kind setup recording start windows accepted) worked;
          };
    }
