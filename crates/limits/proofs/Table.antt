-- The table's rows at each order.
use mathlib.Core.Path.{◌≡◌, refl, ◌∙◌, ap}
use mathlib.Core.Bool.{Bool, true, false, cond, ◌&&◌}
use Prim.Native.Nat.{ℕ, ◌+◌, ◌-◌, ◌*◌}
use native.Mathlib.Omega.{arith}
use lib.Dec.{T, eqb, eqb→eq}
use lib.ListN.{get_or}
use Rattle.std.specs.Prelude.{Some, None}
use Rattle.algebra.specs.Fraction.{whole}
use Rattle.algebra.specs.LowestTerms.{least, least_denominator, lowest_terms}
use Rattle.algebra.proofs.Computed.{both-pass, table-is-rule}
use Rattle.algebra.proofs.Lists.{get_or-tabulate}
use Rattle.rows.specs.Orders.{order_count}
use Rattle.limits.specs.declared.limit_table.LimitRow.{LimitRow}
use Rattle.limits.specs.declared.limit_table.TheConstants.{CLASS_A}
use Rattle.classes.specs.declared.Class.TheVariants.{A}
use Rattle.limits.specs.Limit.{first_limited, has_limit, own_figures, over_order, figure_in, class_a_limit, limit_of, limit_row, limit_rows}
use Rattle.limits.proofs.Limits.{limited-ge, limited-le, listed_limit-equal}

-- two rows show the same order and the same limit
abbrev pub same_row : LimitRow → LimitRow → Bool
same_row row other = eqb row.0 other.0 && (eqb row.1 other.1 && eqb row.2 other.2)

pub same_row-eq : (row other : LimitRow) → T (same_row row other) → row ≡ other
same_row-eq row other t =
    let order-and-limit = both-pass (eqb row.0 other.0) _ t in
    let num-and-den = both-pass (eqb row.1 other.1) _ order-and-limit.1 in
    let order_is : row.0 ≡ other.0 = eqb→eq _ _ order-and-limit.0 in
    let num-is : row.1 ≡ other.1 = eqb→eq _ _ num-and-den.0 in
    let den-is : row.2 ≡ other.2 = eqb→eq _ _ num-and-den.1 in
    λ i. (order_is i, num-is i, den-is i)

module _ (order : ℕ) (has-limit : has_limit order ≡ true) (other : LimitRow) where
  pub limit_rows-at : get_or limit_rows (order - first_limited) other ≡ limit_row order
  unfolding limit_rows
  limit_rows-at =
      let ge = limited-ge order has-limit in
      let le = limited-le order has-limit in
      let placed : order - first_limited + first_limited ≡ order = omega arith in
      get_or-tabulate (order_count + 1 - first_limited) (λ place. limit_row (place + first_limited)) (order - first_limited) other (omega arith)
      ∙ ap limit_row placed

  -- each row is equal to document 01's rule, by cross products
  pub limit_rows-equal :
      (get_or limit_rows (order - first_limited) other).1 * (class_a_limit order).den
      ≡ (class_a_limit order).num * (get_or limit_rows (order - first_limited) other).2
  unfolding limit_of
  limit_rows-equal = rw limit_rows-at (listed_limit-equal A order)

-- ---- the table of the code

-- one test, which antt computes, compares each row with document 01's rule in lowest terms
class_a-rows : CLASS_A ≡ limit_rows
unfolding limit_rows limit_of class_a_limit figure_in own_figures over_order whole lowest_terms least_denominator least
class_a-rows = table-is-rule same_row same_row-eq (λ place. limit_row (place + first_limited)) CLASS_A tt

-- the row of an order stands at its place
pub class_a-at :
    (order : ℕ) → has_limit order ≡ true → (other : LimitRow) → get_or CLASS_A (order - first_limited) other ≡ limit_row order
class_a-at order has-limit other = ap (λ rows. get_or rows (order - first_limited) other) class_a-rows ∙ limit_rows-at order has-limit other

-- a row that is found is that of the order, which has a limit
pub row-found :
    (order : ℕ) (row : LimitRow) → cond (has_limit order) (Some (limit_row order)) None ≡ Some row →
    (has_limit order ≡ true) × (row ≡ limit_row order)
row-found order row = by-test (has_limit order) refl
  where
    by-test :
        (limited : Bool) → has_limit order ≡ limited → cond limited (Some (limit_row order)) None ≡ Some row →
        (has_limit order ≡ true) × (row ≡ limit_row order)
    by-test true e found = (e, cc)
    by-test false e found = cc

-- and where none is found, it has none
pub row-missing : (order : ℕ) → cond (has_limit order) (Some (limit_row order)) None ≡ None → has_limit order ≡ false
row-missing order = by-test (has_limit order) refl
  where
    by-test : (limited : Bool) → has_limit order ≡ limited → cond limited (Some (limit_row order)) None ≡ None → has_limit order ≡ false
    by-test true e missing = cc
    by-test false e missing = e
