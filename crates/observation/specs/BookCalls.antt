-- A book over a list of add row calls (document 01, "Exact book"): it is fed the row of each call and, for a row that it accepts, a value.
-- What a book accepts is a test of its count and of a row.
use Rattle.std.specs.Prelude.{Bool, cond, List, [], ◌∷◌, map, ℕ, ◌+◌, eqb, get_or}
use Rattle.algebra.specs.Weighted.{Everywhere}
use Rattle.refusals.specs.Numbers.{no_refusal}
use Rattle.refusals.specs.Answers.{first_fault}
use Rattle.rows.specs.declared.Row.{Row}
use Rattle.rows.specs.declared.Setup.{Setup}
use Rattle.books.specs.Book.{Numbers, Book, book_step}
use Rattle.books.specs.Smoothing.{reported}
use Rattle.rows.specs.Rows.{ValuesFit}
use Rattle.observation.specs.Calls.{row_checks}

-- a row that a book with this setup and count accepts: the refusal table's "add row" doesn't turn it away
unfoldable pub accepts : Setup → ℕ → Row → Bool
accepts setup count row = eqb (first_fault (row_checks setup count row.setup)) no_refusal

-- the calls of a list whose rows a book with this count accepts, in turn
module _ {A : Type 0} (row_of : A → Row) (taken : ℕ → Row → Bool) where
  unfoldable pub accepted_calls : ℕ → List A → List A
  accepted_calls count [] = []
  accepted_calls count (call ∷ calls) =
      cond (taken count (row_of call)) (call ∷ accepted_calls (count + 1) calls) (accepted_calls count calls)

-- each call of a list whose row a book with this count accepts meets a condition
module _ {A : Type 0} (row_of : A → Row) (condition : A → Type 0) (taken : ℕ → Row → Bool) where
  abbrev pub EachAccepted : ℕ → List A → Type 0
  EachAccepted count calls = Everywhere condition (accepted_calls row_of taken count calls)

module _ (𝓝 : Numbers) where
  -- what a book is fed at a call: the row and, where it accepts the row, a value
  pub record Fed : Type 0 where
    pub row : Row
    pub value : 𝓝.Value

  module _ (taken : ℕ → Row → Bool) where
    -- a refused row changes nothing
    unfoldable pub book_call : Book 𝓝 → Fed → Book 𝓝
    book_call book call = cond (taken book.count call.row) (book_step 𝓝 book call.value) book

    unfoldable pub book_after : Book 𝓝 → List Fed → Book 𝓝
    book_after book [] = book
    book_after book (call ∷ calls) = book_after (book_call book call) calls

-- "fed the row's own value": what the reported book reads of each row
unfoldable pub own_values : (Row → ℕ) → List Row → List (Fed reported)
own_values read rows = map (λ row. record { row = row; value = read row }) rows

-- that of the order at a place
abbrev pub value_at : ℕ → Row → ℕ
value_at i row = get_or row.values i 0

-- each row that a book with this setup and count accepts holds such values
abbrev pub AcceptedFit : Setup → ℕ → List Row → Type 0
AcceptedFit setup = EachAccepted (λ row. row) ValuesFit (accepts setup)
