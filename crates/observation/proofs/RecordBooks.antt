-- The books of a record: what a row and a list of calls do to the book of each order, and to the record's setup.
-- The record after a list of calls holds, for each order, the reported book fed at the same calls.
use mathlib.Core.Path.{◌≡◌, refl, ◌∙◌, ap}
use mathlib.Core.Bool.{Bool, true, false, cond}
use mathlib.Core.List.{List, [], ◌∷◌}
use Prim.Native.Nat.{ℕ, ◌<◌}
use lib.ListN.{get_or-replicate}
use Rattle.algebra.proofs.Lists.{get_or-tabulate}
use Rattle.rows.specs.Setups.{is_setup}
use Rattle.rows.specs.declared.Setup.{Setup}
use Rattle.rows.specs.Orders.{order_count}
use Rattle.rows.specs.declared.Row.{Row}
use Rattle.records.specs.declared.Observation.{Observation}
use Rattle.books.specs.Book.{Book, empty_book, book_step}
use Rattle.books.specs.Smoothing.{reported}
use Rattle.records.specs.Soundness.{is_sound}
use Rattle.observation.specs.Calls.{empty_record, fresh_answer, book_at, next_book, with_row, add_row_refusal, add_row_answer}
use Rattle.observation.specs.RecordAfter.{record_after}
use Rattle.observation.specs.BookCalls.{accepts, book_call, book_after, own_values, value_at, AcceptedFit}
use Rattle.observation.proofs.SoundRecord.{by-acceptance, answer-sound, empty-record-sound, fresh-of-known}

-- the record with a row added holds the next book of each order
pub book-at-with-row : (o : Observation) (row : Row) (i : ℕ) → i < order_count → book_at (with_row o row) i ≡ next_book o row i
unfolding book_at with_row next_book book_step
book-at-with-row o row i inside =
    rw (
      get_or-tabulate order_count (λ j. (next_book o row j).smoothed) i 0 inside,
      get_or-tabulate order_count (λ j. (next_book o row j).sum) i 0 inside,
      get_or-tabulate order_count (λ j. (next_book o row j).peak) i 0 inside,
    )

-- an empty record holds empty books
pub book-at-empty : (setup : Setup) (i : ℕ) → i < order_count → book_at (empty_record setup) i ≡ empty_book reported
unfolding book_at empty_record empty_book
book-at-empty setup i inside = rw (get_or-replicate {A = ℕ} order_count i 0 0 inside)

-- no call changes the setup
pub answer-setup : (o : Observation) (row : Row) → (add_row_answer o row).observation.setup ≡ o.setup
unfolding add_row_answer with_row
answer-setup o row = either (lib.Dec.eqb (add_row_refusal o row) 0)
  where
    either : (worked : Bool) → (cond worked (with_row o row) o).setup ≡ o.setup
    either true = refl
    either false = refl

pub record-after-setup : (o : Observation) (rows : List Row) → (record_after o rows).setup ≡ o.setup
unfolding record_after
record-after-setup o [] = refl
record-after-setup o (row ∷ rows) = record-after-setup (add_row_answer o row).observation rows ∙ answer-setup o row

-- a call feeds the book of each order the row's own value, or changes nothing where the row is refused
pub book-at-answer :
    (o : Observation) (row : Row) (i : ℕ) → i < order_count → is_sound o ≡ true →
    book_at (add_row_answer o row).observation i
    ≡ book_call reported (accepts o.setup) (book_at o i) (record { row = row; value = value_at i row })
unfolding book_call book_at next_book
book-at-answer o row i inside sound =
    by-acceptance
    (λ after. book_at after i ≡ cond (accepts o.setup o.windows row) (next_book o row i) (book_at o i)) o row sound
    (λ e. rw e (book-at-with-row o row i inside))
    (λ e. rw e)

-- the books after a list of calls, from any sound record
pub book-at-record-after :
    (o : Observation) (rows : List Row) (i : ℕ) → i < order_count → is_sound o ≡ true → AcceptedFit o.setup o.windows rows →
    book_at (record_after o rows) i ≡ book_after reported (accepts o.setup) (book_at o i) (own_values (value_at i) rows)
unfolding record_after book_after own_values
book-at-record-after o [] i inside sound fits = refl
book-at-record-after o (row ∷ rows) i inside sound fits =
    let after = (add_row_answer o row).observation in
    let kept = answer-sound o row rows sound fits in
    book-at-record-after after rows i inside kept.0 kept.1 ∙
    rw (answer-setup o row, book-at-answer o row i inside sound)

-- "The first gets a fresh record of system 10 or 12": the record after the list has its setup, and the reported book of each order
pub fresh-record-after-setup :
    (setup : Setup) (rows : List Row) → is_setup setup ≡ true →
    (record_after (fresh_answer setup).observation rows).setup ≡ setup
unfolding empty_record
fresh-record-after-setup setup rows known =
    record-after-setup (fresh_answer setup).observation rows ∙ ap (λ (o : Observation). o.setup) (fresh-of-known setup known)

pub fresh-record-after-books :
    (setup : Setup) (rows : List Row) (i : ℕ) → is_setup setup ≡ true → i < order_count → AcceptedFit setup 0 rows →
    book_at (record_after (fresh_answer setup).observation rows) i
    ≡ book_after reported (accepts setup) (empty_book reported) (own_values (value_at i) rows)
unfolding empty_record
fresh-record-after-books setup rows i known inside fits =
    rw (fresh-of-known setup known)
    (book-at-record-after (empty_record setup) rows i inside (empty-record-sound setup known) fits ∙
    ap (λ (book : Book reported). book_after reported (accepts setup) book (own_values (value_at i) rows)) (book-at-empty setup i inside))
