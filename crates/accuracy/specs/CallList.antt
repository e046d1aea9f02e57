-- The list of document 01 ("The list"), the record after it, and the books that are fed at its calls ("Exact book").
use Rattle.std.specs.Prelude.{◌≡◌, Bool, List, map, ℕ}
use Rattle.rows.specs.declared.Row.{Row}
use Rattle.rows.specs.declared.Setup.{Setup}
use Rattle.records.specs.declared.Observation.{Observation}
use Rattle.books.specs.Book.{Book, empty_book}
use Rattle.books.specs.Smoothing.{reported}
use Rattle.observation.specs.Calls.{fresh_answer}
use Rattle.observation.specs.RecordAfter.{record_after}
use Rattle.observation.specs.BookCalls.{accepts, accepted_calls, EachAccepted, Fed, book_after, own_values}
use Rattle.accuracy.specs.ExactBook.{exact}

-- "any list of add row calls, refused ones included"
pub record CallList : Type 0 where
  -- "The first gets a fresh record": its setup
  pub setup : Setup
  -- the rows that add row is called with
  pub rows : List Row

module _ (list : CallList) where
  -- the record after the calls: "each later one the record that the call before returned"
  unfoldable pub after : Observation
  after = record_after (fresh_answer list.setup).observation list.rows

  -- the rows that a book of the list accepts at a count: "read with the book's system and count", and its edition (document 02, card 7)
  abbrev pub accepted : ℕ → Row → Bool
  accepted = accepts list.setup

  -- these rows of the list, in turn
  abbrev pub accepted_rows : List Row
  accepted_rows = accepted_calls (λ row. row) accepted 0 list.rows

  -- a reported book, by what it reads of a row: "fed the row's own value and rounding"
  unfoldable pub reported_from : (Row → ℕ) → Book reported
  reported_from read = book_after reported accepted (empty_book reported) (own_values read list.rows)

  -- an exact book, by what it may be fed at a row that it accepts
  pub record ExactBook (feeds : Fed exact → Type 0) : Type 0 where
    pub calls : List (Fed exact)
    pub same_rows : map (λ call. call.row) calls ≡ list.rows
    pub fed : EachAccepted (λ call. call.row) feeds accepted 0 calls

  -- the state of an exact book after the calls
  unfoldable pub state : {feeds : Fed exact → Type 0} → ExactBook feeds → Book exact
  state book = book_after exact accepted (empty_book exact) book.calls
