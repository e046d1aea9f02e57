-- The limits of each class: class A's by document 01's rule ("Class A verdicts"), and from them class B's (document 02, card 1). The one place of the specification that knows a milliampere figure.
use Rattle.std.specs.Prelude.{Bool, cond, ◌&&◌, List, [], ◌∷◌, ℕ, ◌+◌, ◌-◌, ◌%◌, max, eqb, leb}
use Rattle.std.proofs.Common.{arith}
use Rattle.algebra.specs.Fraction.{Fraction, whole, times, divide}
use Rattle.algebra.specs.Lists.{tabulate}
use Rattle.algebra.specs.LowestTerms.{lowest_terms}
use Rattle.rows.specs.Orders.{order_count}
use Rattle.classes.specs.declared.Class.{Class}
use Rattle.classes.specs.declared.Class.TheVariants.{A, B}
use Rattle.limits.specs.declared.limit_table.LimitRow.{LimitRow}

-- the orders 2..40 have a limit
abbrev pub first_limited : ℕ
first_limited = 2

abbrev pub has_limit : ℕ → Bool
has_limit order = leb first_limited order && leb order order_count

-- the orders with a figure of their own, and that figure in milliamperes
unfoldable pub own_figures : List (ℕ × ℕ)
own_figures =
    (2, 1080) ∷ (3, 2300) ∷ (4, 430) ∷ (5, 1140) ∷ (6, 300) ∷ (7, 770) ∷ (9, 400) ∷ (11, 330) ∷ (13, 210) ∷ []

-- the other orders: a figure over the order, for odd and for even ones
abbrev pub odd_figure : ℕ
odd_figure = 2250

abbrev pub even_figure : ℕ
even_figure = 1840

-- a figure over the order h; an order is above 0, and for 0 the fraction is over 1
unfoldable pub over_order : ℕ → ℕ → Fraction
over_order figure h = record { num = figure; den = max h 1; den_pos = omega arith }

-- the figure of the order h in a list, or what stands for it
unfoldable pub figure_in : List (ℕ × ℕ) → ℕ → Fraction → Fraction
figure_in [] h other = other
figure_in (entry ∷ entries) h other = cond (eqb entry.0 h) (whole entry.1) (figure_in entries h other)

-- document 01's limit of an order 2..40, in milliamperes
unfoldable pub class_a_limit : ℕ → Fraction
class_a_limit h = figure_in own_figures h (cond (eqb (h % 2) 0) (over_order even_figure h) (over_order odd_figure h))

-- 150 %, as three halves
abbrev pub three_halves : Fraction → Fraction
three_halves limit = divide (times 3 limit) 2 (omega arith)

-- the limit of an order in a class: "class B, which is 150 % of class A at every order"
unfoldable pub limit_of : Class → ℕ → Fraction
limit_of A order = class_a_limit order
limit_of B order = three_halves (class_a_limit order)

-- the limit in lowest terms, as it is listed (document 02, card 2)
abbrev pub listed_limit : Class → ℕ → Fraction
listed_limit class order = lowest_terms (limit_of class order)

-- the listed limit, or 0 for an order that has none
abbrev pub limit_or_zero : Class → ℕ → Fraction
limit_or_zero class order = cond (has_limit order) (listed_limit class order) (whole 0)

-- the row of an order in the table of class A: the order, and its limit as a numerator and a denominator
abbrev pub limit_row : ℕ → LimitRow
limit_row order = (order, (listed_limit A order).num, (listed_limit A order).den)

-- the table: a row for each order that has a limit
unfoldable pub limit_rows : List LimitRow
limit_rows = tabulate (order_count + 1 - first_limited) (λ place. limit_row (place + first_limited))
