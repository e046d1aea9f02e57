-- The 12 units of demand 3 in figures, at each system and under each edition, and what a record holds after its list.
-- The claim names its number, and a weaker one would be proved as well; here it is refused.
use mathlib.Core.Path.{◌≡◌, ap}
use mathlib.Core.List.{List}
use Prim.Native.Nat.{ℕ, ◌+◌, ◌-◌, ◌*◌, ◌≤◌}
use native.Mathlib.Omega.{arith}
use lib.ListN.{get_or}
use Rattle.algebra.specs.Fraction.{whole, ◌+ᶠ◌}
use Rattle.kinds.specs.declared.Kind.{Kind}
use Rattle.rows.specs.declared.Setup.{Setup}
use Rattle.rows.specs.declared.Row.{Row}
use Rattle.books.specs.Book.{Book}
use Rattle.books.specs.Smoothing.{reported}
use Rattle.observation.specs.Calls.{book_at}
use Rattle.accuracy.specs.CallList.{CallList, after, state}
use Rattle.accuracy.specs.Claim.{reported_book, WorkedList, LBook, UBook}
use Rattle.accuracy.proofs.Demand3.{demand3}
use Rattle.worked_numbers.proofs.EachSetup.{EachSetup, each-setup}

-- ---- the setup

-- the record after any list of calls of the library has the system and the edition that the list began with
abbrev SetupKept : Kind → List Row → Setup → Type 0
SetupKept kind rows setup =
    let list : CallList = record { setup = setup; rows = rows } in
    WorkedList kind list → (after list).setup ≡ setup

setup-kept : (kind : Kind) (rows : List Row) → EachSetup (SetupKept kind rows)
setup-kept kind rows =
    each-setup (SetupKept kind rows) λ setup known worked.
    (demand3.lists kind (record { setup = setup; rows = rows }) known worked).same-setup

-- ---- the books

-- n, the smoothed value, the sum and the peak of an order are those of the reported book
abbrev BooksKept : Kind → List Row → ℕ → Setup → Type 0
BooksKept kind rows order setup =
    let list : CallList = record { setup = setup; rows = rows } in
    let o = after list in
    let book = reported_book list order in
    WorkedList kind list →
    (o.windows ≡ book.count) × (get_or o.smoothed (order - 1) 0 ≡ book.smoothed) ×
    (get_or o.sum (order - 1) 0 ≡ book.sum) × (get_or o.peak (order - 1) 0 ≡ book.peak)

books-kept : (kind : Kind) (rows : List Row) (order : ℕ) → 1 ≤ order → order ≤ 40 → EachSetup (BooksKept kind rows order)
unfolding book_at
books-kept kind rows order least most =
    each-setup (BooksKept kind rows order) λ setup known worked.
    let same = (demand3.lists kind (record { setup = setup; rows = rows }) known worked).same_books order least most in (
      ap (λ (book : Book reported). book.count) same,
      ap (λ (book : Book reported). book.smoothed) same,
      ap (λ (book : Book reported). book.sum) same,
      ap (λ (book : Book reported). book.peak) same,
    )

-- ---- 12 units

-- every l book's smoothed fraction is at most s + 12, and s is at most every u book's plus 12
abbrev pub Within12 : Kind → CallList → ℕ → ℕ → Type 0
Within12 kind list order s =
    (l : LBook kind list order) (u : UBook kind list order) →
    let low = (state list l).smoothed in
    let high = (state list u).smoothed in
    (low.num ≤ (s + 12) * low.den) × (s * high.den ≤ high.num + 12 * high.den)

-- after any list of calls of the library
abbrev ListWithin12 : Kind → List Row → ℕ → Setup → Type 0
ListWithin12 kind rows order setup =
    let list : CallList = record { setup = setup; rows = rows } in
    WorkedList kind list → Within12 kind list order (get_or (after list).smoothed (order - 1) 0)

within-12 : (kind : Kind) (rows : List Row) (order : ℕ) → 1 ≤ order → order ≤ 40 → EachSetup (ListWithin12 kind rows order)
unfolding whole ◌+ᶠ◌ book_at
within-12 kind rows order least most =
    each-setup (ListWithin12 kind rows order) λ setup known worked l u.
    let holds = demand3.lists kind (record { setup = setup; rows = rows }) known worked in
    let held = ap (λ (book : Book reported). book.smoothed) (holds.same_books order least most) in
    rw held (omega (arith, holds.smoothed-low order least most l), omega (arith, holds.smoothed-high order least most u))
