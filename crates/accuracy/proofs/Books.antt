-- How far a reported book may lie from an exact one (document 01, "Exact book"): the induction over a list of calls, once for the l books and the u books.
-- It goes for whatever the reported book reads of a row, and for two margins: each accepted value is within the one of the fraction that the exact book is fed, and smoothing keeps the other.
-- The invariant: equal counts, smoothed values and peaks within the margin kept, sums within it for each window.
use mathlib.Core.Path.{◌≡◌, refl, ap}
use mathlib.Core.Bool.{Bool, true, false, cond}
use mathlib.Core.List.{List, [], ◌∷◌, map}
use Prim.Native.Nat.{ℕ, ◌+◌, ◌*◌, ◌≤◌}
use native.Mathlib.Omega.{arith}
use lib.Dec.{eqb, lit≤}
use Rattle.algebra.specs.Fraction.{Fraction, whole, ◌+ᶠ◌, Side, lower, upper, Near}
use Rattle.algebra.specs.Weighted.{Everywhere}
use Rattle.algebra.proofs.Fraction.{near-weaken, near-mix, near-whole-add, near-whole-maximum}
use Rattle.rows.specs.declared.Row.{Row}
use Rattle.books.specs.Book.{Book, empty_book, smoothed_next, book_step}
use Rattle.books.specs.Smoothing.{new_weight, old_weight, smoothed_value, reported, smoothed_margin}
use Rattle.observation.specs.BookCalls.{accepted_calls, EachAccepted, Fed, book_call, book_after, own_values}
use Rattle.accuracy.specs.Distance.{group_margin}
use Rattle.accuracy.specs.ExactBook.{exact}
use Rattle.accuracy.specs.CallList.{CallList, accepted, reported_from, ExactBook, state}
use Rattle.accuracy.proofs.AcceptedCalls.{each-accepted-carry}

-- smoothing keeps a margin of what is fed within another: their mean by the weights, and a half for the rounding, is not more
abbrev pub MarginKept : ℕ → ℕ → Type 0
MarginKept margin kept =
    2 * (new_weight * margin + old_weight * kept) + (new_weight + old_weight) ≤ 2 * ((new_weight + old_weight) * kept)

-- document 01's margins; 8 units would not be kept within 12, nor 7 within 11
pub margins-kept : MarginKept group_margin smoothed_margin × (¬ MarginKept 8 12) × (¬ MarginKept 7 11)
margins-kept = (lit≤ tt, omega arith, omega arith)

pub record BookNear (side : Side) (kept : ℕ) (book : Book reported) (exact_book : Book exact) : Type 0 where
  pub same_count : exact_book.count ≡ book.count
  pub smoothed-near : Near side (whole book.smoothed) exact_book.smoothed kept
  pub sum_near : Near side (whole book.sum) exact_book.sum (book.count * kept)
  pub peak-near : Near side (whole book.peak) exact_book.peak kept

-- what the reported book reads of a call's row is near the fraction that the exact book is fed
abbrev pub NearFed : Side → ℕ → (Row → ℕ) → Fed exact → Type 0
NearFed side margin read call = Near side (whole (read call.row)) call.value margin

zeros-near : (side : Side) (kept : ℕ) → Near side (whole 0) (whole 0) kept
unfolding whole ◌+ᶠ◌
zeros-near lower kept = record { within = omega arith }
zeros-near upper kept = record { within = omega arith }

module _ (side : Side) (margin kept : ℕ) (keeps : MarginKept margin kept) where
  empty-near : BookNear side kept (empty_book reported) (empty_book exact)
  unfolding empty_book
  empty-near =
      record {
        same_count = refl;
        smoothed-near = zeros-near side kept;
        sum_near = zeros-near side (0 * kept);
        peak-near = zeros-near side kept;
      }

  -- one accepted value
  module _
      (book : Book reported) (exact_book : Book exact) (value : ℕ) (fed : Fraction)
      (near : Near side (whole value) fed margin) (before : BookNear side kept book exact_book)
    where
      smoothed-next-near : Near side (whole (smoothed_next reported book value)) (smoothed_next exact exact_book fed) kept
      unfolding smoothed_next smoothed_value
      smoothed-next-near = rw before.same_count (either (eqb book.count 0))
        where
          either :
              (first : Bool) →
              Near side
              (whole (cond first value (smoothed_value value book.smoothed)))
              (cond first fed (exact.smooth fed exact_book.smoothed))
              kept
          either true = near-weaken (omega arith) near
          either false = near-mix new_weight old_weight value book.smoothed _ keeps near before.smoothed-near

      step-near : BookNear side kept (book_step reported book value) (book_step exact exact_book fed)
      unfolding book_step
      step-near =
          let next = smoothed_next reported book value in
          record {
            same_count = rw before.same_count;
            smoothed-near = smoothed-next-near;
            sum_near = near-weaken (omega arith) (near-whole-add book.sum next before.sum_near smoothed-next-near);
            peak-near = near-whole-maximum book.peak next before.peak-near smoothed-next-near;
          }

  -- a list of calls of an exact book, and the reported book over the same rows
  module _ (taken : ℕ → Row → Bool) (read : Row → ℕ) where
    -- at each call that a book with this count accepts
    abbrev NearCalls : ℕ → List (Fed exact) → Type 0
    NearCalls = EachAccepted (λ call. call.row) (NearFed side margin read) taken

    -- the reported book's call, and the exact one's
    abbrev own_call : Book reported → Fed exact → Book reported
    own_call book call = book_call reported taken book (record { row = call.row; value = read call.row })

    abbrev exact_call : Book exact → Fed exact → Book exact
    exact_call = book_call exact taken

    -- one call, and what is left of the list
    call-near :
        (call : Fed exact) (calls : List (Fed exact)) (book : Book reported) (exact_book : Book exact) →
        BookNear side kept book exact_book →
        NearCalls book.count (call ∷ calls) →
        BookNear side kept (own_call book call) (exact_call exact_book call) × NearCalls (own_call book call).count calls
    unfolding book_call accepted_calls book_step
    call-near call calls book exact_book before near =
        rw (ap (λ count. taken count call.row) before.same_count) (go (taken book.count call.row) near)
      where
        accepted_from : ℕ → List (Fed exact) → List (Fed exact)
        accepted_from = accepted_calls (λ call. call.row) taken

        next : Book reported
        next = book_step reported book (read call.row)

        go :
            (accepts : Bool) →
            Everywhere (NearFed side margin read)
            (cond accepts (call ∷ accepted_from (book.count + 1) calls) (accepted_from book.count calls)) →
            BookNear side kept (cond accepts next book) (cond accepts (book_step exact exact_book call.value) exact_book) ×
            NearCalls (cond accepts next book).count calls
        go true near = (step-near book exact_book _ _ near.0 before, near.1)
        go false near = (before, near)

    calls_near :
        (calls : List (Fed exact)) (book : Book reported) (exact_book : Book exact) →
        BookNear side kept book exact_book →
        NearCalls book.count calls →
        BookNear side kept
        (book_after reported taken book (own_values read (map (λ call. call.row) calls)))
        (book_after exact taken exact_book calls)
    unfolding book_after own_values
    calls_near [] book exact_book before near = before
    calls_near (call ∷ calls) book exact_book before near =
        let next = call-near call calls book exact_book before near in
        calls_near calls _ _ next.0 next.1

  -- the books of a list: an exact one is near the reported one where all that it may be fed at a row that it accepts is near what the reported one reads
  pub exact-book-near :
      (list : CallList) (read : Row → ℕ) (feeds : Fed exact → Type 0) →
      ((count : ℕ) (call : Fed exact) → accepted list count call.row ≡ true → feeds call → NearFed side margin read call) →
      (book : ExactBook list feeds) →
      BookNear side kept (reported_from list read) (state list book)
  unfolding reported_from state empty_book
  exact-book-near list read feeds near book =
      rw book.same_rows at
      (calls_near (accepted list) read book.calls (empty_book reported) (empty_book exact) empty-near
      (each-accepted-carry (λ call. call.row) feeds (NearFed side margin read) (accepted list) near 0 book.calls book.fed))
