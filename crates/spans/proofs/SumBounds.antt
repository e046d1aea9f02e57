-- How large the sum of 2×w×L over lines that are taken is.
use Rattle.std.proofs.Common.{◌≡◌, ℕ, ◌^◌, ◌<◌, ◌≤◌, false, ltb, List, length, mul-le-mul_right, arith, ltb-false}
use native.Mathlib.Decide.{dec_lt}
use lib.ListN.{get_or-eq_default}
use Rattle.std.specs.List.{list_any}
use Rattle.algebra.proofs.Lists.{list_any-none}
use Rattle.spectral_lines.specs.Line.{largest_line}
use Rattle.kinds.specs.Kinds.{largest_total}
use Rattle.spans.specs.Spans.{Weighted, total_twice_weight, weighted_sum, line_at}
use Rattle.spans.proofs.Weights.{weighted_sum-le-total}

-- where no line is above the largest that is taken, no line read is, also none past the end
line_at-le : (lines : List ℕ) → list_any (ltb largest_line) lines ≡ false → (k : ℕ) → line_at lines k ≤ largest_line
line_at-le lines e k = by_place (dec_lt k (length lines))
  where
    by_place : Dec (k < length lines) → line_at lines k ≤ largest_line
    by_place (yes within) = ltb-false largest_line (line_at lines k) (list_any-none (ltb largest_line) lines k 0 e within)
    by_place (no past) =
        let none : line_at lines k ≡ 0 = get_or-eq_default lines 0 (omega arith) in
        omega arith

-- lines in range, with any weights that add up to at most 12: their sum of 2×w×L fits 64 bits
pub weighted_sum-lt : (lines : List ℕ) → list_any (ltb largest_line) lines ≡ false
    → (xs : List Weighted) → total_twice_weight xs ≤ largest_total → weighted_sum (line_at lines) xs < 2 ^ 64
weighted_sum-lt lines e xs h =
    omega (
      arith,
      weighted_sum-le-total (line_at lines) largest_line (line_at-le lines e) xs,
      mul-le-mul_right largest_line h,
    )
