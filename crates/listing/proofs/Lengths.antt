-- The listing's columns fit, a line has 40 bytes, and the whole listing 80 to 1,640.
use mathlib.Core.Bool.{Bool, true, false, cond, and-false}
use mathlib.Core.List.{List, [], ◌++◌}
use mathlib.Core.Path.{◌≡◌, refl}
use Prim.Native.Nat.{ℕ, zero, suc, ◌+◌, ◌-◌, ◌*◌, ◌^◌, ◌≤◌, ◌<◌}
use native.Mathlib.Numerals.{add-one}
use native.Mathlib.Omega.{arith}
use borrow.Author.Tests.{le-leb}
use lib.IntN.{pos}
use lib.ListN.{length, get_or, length-append}
use Rattle.rows.specs.Orders.{order_count}
use Rattle.columns.specs.Text.{bytes_of, right_justified}
use Rattle.columns.specs.Column.{number_text, fits_column, column_text}
use Rattle.listing.specs.Listing.{order_width, value_width, text_line_length, header, order_line, left_out, order_text, orders_text, listing_text, listing_room}
use Rattle.columns.proofs.Decimal.{length-le}
use Rattle.columns.proofs.Column.{length-of-text}

pub header-length : length header ≡ text_line_length
unfolding header bytes_of right_justified
header-length = refl

-- a number fits a column of as many digits
pub fits_of_lt : (w n : ℕ) → 0 < w → n < 10 ^ w → fits_column w (pos n) ≡ true
unfolding fits_column number_text
fits_of_lt zero n some h = absurd (omega arith)
fits_of_lt (suc w) n some h = le-leb _ _ (length-le w n h)

pub order_fits : (w h : ℕ) → w ≡ order_width → h ≤ order_count → fits_column w (pos h) ≡ true
order_fits w h wide small = rw wide (fits_of_lt order_width h (omega arith) (omega arith))

pub value_fits : (w n : ℕ) → w ≡ value_width → n < 2 ^ 32 → fits_column w (pos n) ≡ true
value_fits w n wide small = rw wide (fits_of_lt value_width n (omega arith) (omega arith))

module _ (h group subgroup smoothed : ℕ) (order : h ≤ order_count) (g : group < 2 ^ 32) (s : subgroup < 2 ^ 32) (m : smoothed < 2 ^ 32) where
  pub length_line : length (order_line h group subgroup smoothed) ≡ text_line_length
  unfolding order_line
  length_line =
      let value-length : (n : ℕ) → n < 2 ^ 32 → length (column_text value_width (pos n)) ≡ value_width =
      λ n small. length-of-text value_width (pos n) (value_fits value_width n refl small) in
      let order-length : length (column_text order_width (pos h)) ≡ order_width = length-of-text order_width (pos h) (order_fits order_width h refl order) in
      simp length-append (omega (arith, order-length, value-length group g, value-length subgroup s, value-length smoothed m))

  pub length-order-le : length (order_text h group subgroup smoothed) ≤ text_line_length
  unfolding order_text
  length-order-le = by-case (left_out h group subgroup smoothed)
    where
      by-case : (left : Bool) → length (cond left [] (order_line h group subgroup smoothed)) ≤ text_line_length
      by-case true = omega arith
      by-case false = omega (arith, length_line)

-- the orders up to one more
pub orders_text_more :
    (n : ℕ) (group subgroup smoothed : List ℕ) →
    orders_text (n + 1) group subgroup smoothed
    ≡ orders_text n group subgroup smoothed ++ order_text (n + 1) (get_or group n 0) (get_or subgroup n 0) (get_or smoothed n 0)
unfolding orders_text
orders_text_more n group subgroup smoothed = rw add-one

-- every value of a list is below 2^32
abbrev pub Values : List ℕ → Type 0
Values values = (i : ℕ) → get_or values i 0 < 2 ^ 32

module _ (group subgroup smoothed : List ℕ) (g : Values group) (s : Values subgroup) (m : Values smoothed) where
  pub length-orders-le : (n : ℕ) → n ≤ order_count → length (orders_text n group subgroup smoothed) ≤ text_line_length * n
  unfolding orders_text
  length-orders-le zero h = omega arith
  length-orders-le (suc n) h =
      let last = length-order-le (suc n) (get_or group n 0) (get_or subgroup n 0) (get_or smoothed n 0) h (g n) (s n) (m n) in
      rw length-append (omega (arith, length-orders-le n (omega arith), last))

  pub listing-length-le : length (listing_text group subgroup smoothed) ≤ listing_room
  unfolding listing_text
  listing-length-le = rw length-append (omega (arith, header-length, length-orders-le order_count (omega arith)))

  -- order 1 is never left out
  length-orders-ge : (n : ℕ) → text_line_length ≤ length (orders_text (suc n) group subgroup smoothed)
  unfolding orders_text order_text
  length-orders-ge zero =
      let first = length_line 1 (get_or group 0 0) (get_or subgroup 0 0) (get_or smoothed 0 0) (omega arith) (g 0) (s 0) (m 0) in
      simp and-false (omega (arith, first))
  length-orders-ge (suc n) = rw length-append (omega (arith, length-orders-ge n))

  -- the header and a line, to the header and 40 lines
  pub listing-length : (80 ≤ length (listing_text group subgroup smoothed)) × (length (listing_text group subgroup smoothed) ≤ 1640)
  unfolding listing_text
  listing-length = (rw length-append (omega (arith, header-length, length-orders-ge (order_count - 1))), listing-length-le)
