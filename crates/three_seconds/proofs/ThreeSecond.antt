-- Laws of the three-second value: that it is the largest whole t of document 02's card 8 and is below
-- 2^32, how it is worked out, and what is known of a call that is not refused.
use mathlib.Core.Path.{◌≡◌, refl}
use mathlib.Core.Bool.{true}
use mathlib.Core.List.{List}
use Prim.Native.Nat.{ℕ, suc, ◌*◌, ◌/◌, ◌^◌, ◌≤◌, ◌<◌}
use native.Mathlib.Nat.{mul-le-mul}
use native.Mathlib.Omega.{arith, by_contra}
use borrow.Author.Tests.{ltb-false, not-false}
use lib.ListN.{length, get_or}
use Rattle.algebra.proofs.Largest.{Bounded, largest-le, largest-ge, largest-eq}
use Rattle.algebra.proofs.Filling.{filled_more, filled-whole}
use Rattle.square_root.specs.Root.{root_of}
use Rattle.square_root.proofs.RootLaws.{root-law, lt-root_limit}
use Rattle.wide_numbers.specs.Squares.{sum_of_squares}
use Rattle.wide_numbers.proofs.SumsOfSquares.{sum_of_squares-drop, sum_of_squares-end, square-lt, sum_of_squares-le, mean-bounded}
use Rattle.refusals.specs.Numbers.{no_refusal, unsound_record, order_out_of_range, too_few_windows}
use Rattle.refusals.proofs.Answers.{no-faults}
use Rattle.rows.specs.Orders.{order_count}
use Rattle.rows.proofs.Orders.{order-bounds}
use Rattle.records.specs.declared.Observation.{Observation}
use Rattle.latest_rows.specs.Latest.{rows_kept}
use Rattle.records.specs.Soundness.{is_sound}
use Rattle.three_seconds.specs.ThreeSecond.{three_second_digits, three_second_of, three_second_checks, three_second_refusal}

-- a list is filled place by place
pub ruleset filling = (filled_more, filled-whole)

-- a sum of squares is worked out square by square
pub ruleset squares = (sum_of_squares-drop, sum_of_squares-end, square-lt, sum_of_squares-le)

-- "15×t² at most the sum of the 15 squared group values"
abbrev pub Passes : List ℕ → ℕ → Type 0
Passes values t = 15 * (t * t) ≤ sum_of_squares values

-- the figure is the largest whole t that passes, for 15 values of 32 bits
module _ (values : List ℕ) (whole : length values ≡ 15) (fit : (i : ℕ) → get_or values i 0 < 2 ^ 32) where
  sum_lt : sum_of_squares values < rows_kept * 2 ^ 64
  sum_lt = omega (arith, sum_of_squares-le values fit)

  bounded : Bounded (λ t. rows_kept * (t * t)) (sum_of_squares values) three_second_digits
  bounded = mean-bounded rows_kept _ three_second_digits sum_lt

  pub three_second_of-passes : Passes values (three_second_of values)
  unfolding three_second_of
  three_second_of-passes = largest-le _ _ three_second_digits bounded

  pub three_second_of-greatest : (t : ℕ) → Passes values t → t ≤ three_second_of values
  unfolding three_second_of
  three_second_of-greatest t h = largest-ge _ _ three_second_digits bounded h

  pub three_second_of-lt : three_second_of values < 2 ^ 32
  three_second_of-lt =
      by_contra (suc (three_second_of values)) (2 ^ 32) λ h.
      let large : 2 ^ 32 ≤ three_second_of values = omega arith in
      omega (arith, mul-le-mul large large, three_second_of-passes, sum_lt)

  -- as it is worked out: the root of the mean square, both in whole
  pub three-second-root : root_of (sum_of_squares values / rows_kept) ≡ three_second_of values
  unfolding three_second_of
  three-second-root =
      let mean = sum_of_squares values / rows_kept in
      let root = root-law mean (lt-root_limit mean (omega (arith, sum_lt))) in
      largest-eq (λ t. rows_kept * (t * t)) (sum_of_squares values) three_second_digits bounded
      (omega (arith, root.0))
      (omega (arith, root.1))

-- so the root is the figure
pub ruleset figures = (three-second-root)

-- ---- a call that is not refused

pub record Accepted (o : Observation) (order : ℕ) : Type 0 where
  pub sound : is_sound o ≡ true
  pub order-ge : 1 ≤ order
  pub order_le : order ≤ order_count
  pub windows-ge : rows_kept ≤ o.windows

pub accepted : (o : Observation) (order : ℕ) → three_second_refusal o order ≡ no_refusal → Accepted o order
unfolding three_second_refusal
accepted o order passed =
    let no-fault = no-faults (three_second_checks o order) refl passed in
    let orders = order-bounds order (not-false _ (no-fault order_out_of_range)) in
    record {
      sound = not-false _ (no-fault unsound_record);
      order-ge = orders.0;
      order_le = orders.1;
      windows-ge = ltb-false o.windows rows_kept (no-fault too_few_windows);
    }
