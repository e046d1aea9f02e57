-- A record while a row is added: the books of the first orders have taken their step, and the others are as they were.
use mathlib.Core.Path.{Path, ◌≡◌, refl, ap}
use mathlib.Core.List.{List}
use Prim.Native.Nat.{ℕ, ◌+◌, ◌*◌, ◌<◌, ◌≤◌}
use native.Mathlib.Omega.{arith}
use lib.ListN.{length, get_or, set}
use Rattle.algebra.specs.Lists.{tabulate}
use Rattle.algebra.proofs.Filling.{Filled, filled_next, filled_more, filled-whole}
use Rattle.refusals.specs.Numbers.{no_refusal}
use Rattle.rows.specs.declared.Row.{Row}
use Rattle.rows.specs.Orders.{order_count}
use Rattle.rows.specs.Rows.{largest_value}
use Rattle.latest_rows.specs.Latest.{with_latest}
use Rattle.records.specs.declared.Observation.{Observation}
use Rattle.records.specs.Soundness.{most_windows}
use Rattle.records.proofs.SoundParts.{sound-parts}
use Rattle.books.specs.Book.{Book, book_step}
use Rattle.books.specs.Smoothing.{reported}
use Rattle.observation.specs.Calls.{book_at, next_book, with_row, add_row_refusal}
use Rattle.observation.proofs.SoundRecord.{accepted-call}

-- each array has 40 places
pub record Long (o : Observation) : Type 0 where
  pub smoothed : length o.smoothed ≡ order_count
  pub sum : length o.sum ≡ order_count
  pub peak : length o.peak ≡ order_count

-- what the step of a book needs
pub record Fit (book : Book reported) : Type 0 where
  pub room : book.count < most_windows
  pub smoothed_in : book.smoothed ≤ largest_value
  pub sum_in : book.sum ≤ most_windows * largest_value

module _ (o : Observation) (row : Row) where
  pub record Stepped (i : ℕ) (now : Observation) : Type 0 where
    pub setup : now.setup ≡ o.setup
    pub windows : now.windows ≡ o.windows
    pub latest : now.latest ≡ o.latest
    pub smoothed : Filled i (λ j. (next_book o row j).smoothed) o.smoothed now.smoothed
    pub sum : Filled i (λ j. (next_book o row j).sum) o.sum now.sum
    pub peak : Filled i (λ j. (next_book o row j).peak) o.peak now.peak

  pub stepped_none : Stepped 0 o
  unfolding tabulate
  stepped_none = record { setup = refl; windows = refl; latest = refl; smoothed = refl; sum = refl; peak = refl }

  module _ (i : ℕ) (now : Observation) (so_far : Stepped i now) where
    -- the next book has not taken its step
    book_next : book_at now i ≡ book_at o i
    unfolding book_at
    book_next =
        rw (so_far.windows, filled_next i _ _ _ so_far.smoothed 0, filled_next i _ _ _ so_far.sum 0, filled_next i _ _ _ so_far.peak 0)

    -- and may take it, where the row is accepted
    pub book_fits : add_row_refusal o row ≡ no_refusal → Fit (book_at now i)
    unfolding book_at
    book_fits accepted =
        let call = accepted-call o row accepted in
        let parts = sound-parts o call.sound in
        let room = call.row-accepted.room in
        let fits : Fit (book_at o i) = record { room = room; smoothed_in = parts.smoothed-le i; sum_in = omega (arith, parts.sum-le i, room) } in
        rw book_next fits

    pub stepped_more :
        (next : Book reported) → Long o → i < order_count → next ≡ book_step reported (book_at now i) (get_or row.values i 0) →
        Stepped (i + 1)
        (record now { smoothed = set now.smoothed i next.smoothed; sum = set now.sum i next.sum; peak = set now.peak i next.peak })
    unfolding next_book
    stepped_more next long inside e =
        let step : next ≡ next_book o row i = rw book_next at e in
        record {
          setup = so_far.setup;
          windows = so_far.windows;
          latest = so_far.latest;
          smoothed = filled_more i _ _ _ so_far.smoothed _ (rw long.smoothed inside) (ap (λ (b : Book reported). b.smoothed) step);
          sum = filled_more i _ _ _ so_far.sum _ (rw long.sum inside) (ap (λ (b : Book reported). b.sum) step);
          peak = filled_more i _ _ _ so_far.peak _ (rw long.peak inside) (ap (λ (b : Book reported). b.peak) step);
        }

  -- all books have, and the row is kept
  pub stepped-all :
      (i : ℕ) (now : Observation) (latest : List ℕ) → i ≡ order_count → Stepped i now → Long o →
      latest ≡ with_latest now.windows row.values now.latest →
      Path Observation (record now { windows = now.windows + 1; latest = latest }) (with_row o row)
  unfolding with_row
  stepped-all i now latest end so_far long kept =
      let all : Stepped order_count now = rw end at so_far in
      rw (
        all.setup,
        filled-whole order_count _ o.smoothed _ all.smoothed long.smoothed,
        filled-whole order_count _ o.sum _ all.sum long.sum,
        filled-whole order_count _ o.peak _ all.peak long.peak,
        kept,
        all.windows,
        all.latest,
      )
