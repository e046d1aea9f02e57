-- The exact books of document 01 in figures, and what they may be fed. The claims of 12 units and of the verdicts are about every l book and every u book: with fewer books,
-- or books that round, they would be proved as well; here that is refused.
use mathlib.Core.Path.{◌≡◌, refl}
use mathlib.Core.List.{List, [], ◌∷◌, map}
use Prim.Native.Nat.{ℕ, ◌*◌, ◌≤◌}
use native.Mathlib.Omega.{arith}
use lib.IntN.{ℤ}
use Rattle.algebra.specs.Fraction.{Fraction, whole, times, divide, square, maximum, mix, ◌+ᶠ◌}
use Rattle.algebra.specs.Weighted.{Everywhere}
use Rattle.algebra.specs.Rounding.{nearest}
use Rattle.rows.specs.Systems.{is_system}
use Rattle.rows.specs.Editions.{is_edition}
use Rattle.rows.specs.Setups.{setup_of, same_setup}
use Rattle.rows.specs.declared.Row.{Row}
use Rattle.kinds.specs.declared.Kind.{Kind}
use Rattle.groups.specs.Exact.{exact_group}
use Rattle.books.specs.Book.{empty_book, smoothed_next, book_step}
use Rattle.books.specs.Smoothing.{smoothed_value}
use Rattle.observation.specs.Calls.{row_checks}
use Rattle.observation.specs.BookCalls.{accepts, accepted_calls, Fed, book_call, book_after, own_values}
use Rattle.accuracy.specs.ExactBook.{exact}
use Rattle.accuracy.specs.CallList.{CallList, ExactBook, reported_from, state}
use Rattle.accuracy.specs.WorkedRows.{Worked}
use Rattle.accuracy.specs.Claim.{Feeds, LBook, UBook, reported_book}

-- ---- in figures

-- a row with one value
row_with : ℕ → ℕ → Row
row_with edition value = record { setup = setup_of 12 edition; values = value ∷ [] }

-- 8944, 0 and 30000 at 60 Hz under A1, and between them a row of edition 2, which is refused
three_rows : CallList
three_rows = record { setup = setup_of 12 1; rows = row_with 1 8944 ∷ row_with 0 5 ∷ row_with 1 0 ∷ row_with 1 30000 ∷ [] }

-- 90001/3
third : Fraction
third = record { num = 90001; den = 3; den_pos = omega arith }

-- an exact book of it, fed 8944, 0 and 90001/3, and 7 at the refused row
book : ExactBook three_rows (λ call. Unit {0})
unfolding three_rows row_with accepted_calls accepts row_checks same_setup is_system is_edition
book =
    record {
      calls =
          record { row = row_with 1 8944; value = whole 8944 } ∷
          record { row = row_with 0 5; value = whole 7 } ∷
          record { row = row_with 1 0; value = whole 0 } ∷
          record { row = row_with 1 30000; value = third } ∷
          [];
      same_rows = refl;
      fed = (tt, (tt, (tt, tt)));
    }

-- the second smoothed fraction is 62715328/8012, where the reported value is 7828; it is no whole number, and the third is worked from it as it is
exact-book-worked :
    ((state three_rows book).count ≡ 3) ×
    ((state three_rows book).smoothed.num ≡ 2040367651808) × ((state three_rows book).smoothed.den ≡ 192576432) ×
    ((state three_rows book).sum.num ≡ 42224817429993088) × ((state three_rows book).sum.den ≡ 1542922373184) ×
    ((state three_rows book).peak.num ≡ 2040367651808) × ((state three_rows book).peak.den ≡ 192576432)
unfolding three_rows row_with third book state book_after book_call book_step empty_book smoothed_next mix times divide whole ◌+ᶠ◌ maximum accepts row_checks same_setup is_system is_edition
exact-book-worked = (refl, refl, refl, refl, refl, refl, refl)

-- after 8944 and 0 the peak is still the first of the two
exact-peak-worked :
    let second = book_step exact (book_step exact (empty_book exact) (whole 8944)) (whole 0) in
    (second.smoothed.num ≡ 62715328) × (second.smoothed.den ≡ 8012) × (second.peak.num ≡ 8944) × (second.peak.den ≡ 1)
unfolding book_step empty_book smoothed_next mix times divide whole ◌+ᶠ◌ maximum
exact-peak-worked = (refl, refl, refl, refl)

-- the reported book of the first order rounds: 8944, 7828 and 10595
reported-book-worked : reported_book three_rows 1 ≡ record { count = 3; smoothed = 10595; sum = 27367; peak = 10595 }
unfolding three_rows row_with reported_from book_after book_call own_values book_step empty_book smoothed_next smoothed_value nearest accepts row_checks same_setup is_system is_edition
reported-book-worked = refl

-- ---- what a book may be fed

module _ (kind : Kind) (order : ℕ) (list : CallList) (calls : List (Fed exact)) (same_rows : map (λ call. call.row) calls ≡ list.rows) where
  -- the calls that a book of the list accepts
  abbrev accepted_ones : List (Fed exact)
  accepted_ones = accepted_calls (λ call. call.row) (accepts list.setup) 0 calls

  -- any fractions l not below 0 with l² at most G make an l book
  abbrev AnyL : Fed exact → Type 0
  AnyL call =
      (window : List ℤ) ×
      Worked kind call.row window ×
      (call.value.num * call.value.num * (exact_group kind call.row.setup order window).den ≤
      (exact_group kind call.row.setup order window).num * (call.value.den * call.value.den))

  any-l-book : Everywhere AnyL accepted_ones → LBook kind list order
  unfolding Feeds square
  any-l-book fed = record { calls = calls; same_rows = same_rows; fed = fed }

  -- and any u with u² at least G a u book
  abbrev AnyU : Fed exact → Type 0
  AnyU call =
      (window : List ℤ) ×
      Worked kind call.row window ×
      ((exact_group kind call.row.setup order window).num * (call.value.den * call.value.den) ≤
      call.value.num * call.value.num * (exact_group kind call.row.setup order window).den)

  any-u-book : Everywhere AnyU accepted_ones → UBook kind list order
  unfolding Feeds square
  any-u-book fed = record { calls = calls; same_rows = same_rows; fed = fed }
