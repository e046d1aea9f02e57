-- What a glitch does to a line. Before the division its two sums move by d times the table's cosine and sine at one index, so by a vector
-- of a length of at most d × (2^30 + 1). Divided by 2^29 that is 2×d, but for the table's rounding; the rounding of the two windows' sums
-- adds at most 1 to each move.
use mathlib.Core.Path.{◌≡◌}
use mathlib.Core.List.{List, [], ◌∷◌}
use Prim.Native.Nat.{ℕ, ◌+◌, ◌*◌, ◌≤◌, ◌<◌}
use native.Mathlib.Nat.{mul-le-mul, mul-le-mul_left, mul-pos, le_of_mul-le-mul_left}
use native.Mathlib.Omega.{arith}
use lib.Dec.{lit<, lit≤}
use lib.IntN.{ℤ, pos, nat_abs, ◌-ℤ◌, ◌*ℤ◌}
use Rattle.algebra.specs.Integers.{square}
use Rattle.algebra.proofs.Integer.{nat_abs-*ℤ}
use Rattle.algebra.proofs.Ring.{variable, constant, ◌⊖◌, ◌⊗◌, ring}
use Rattle.algebra.proofs.Rounding.{nearestℤ-apart}
use Rattle.algebra.proofs.SumTo.{sum_to--ℤ, sum_to-one-nat_abs-le}
use Rattle.algebra.proofs.Weighted.{le-of-square-le, double-product-le}
use Rattle.sine.specs.Wave.{table_sine, table_cosine}
use Rattle.sine.proofs.Circle.{largest_radius, table-circle}
use Rattle.windows.specs.Window.{window_length}
use Rattle.spectral_lines.specs.Line.{sum_scale, line_sum, rounded_sum}
use Rattle.spectral_lines.proofs.Bounds.{summand}
use Rattle.kinds.specs.Kinds.{largest_total}
use Rattle.glitch.specs.Windows.{AlikeBut, glitch_size}
use Rattle.glitch.proofs.NormMost.{norm_most, norm_most-enough}

-- the summands at one index differ by the samples' difference times the wave
difference-of-products : (s t w : ℤ) → s *ℤ w -ℤ t *ℤ w ≡ (s -ℤ t) *ℤ w
difference-of-products s t w =
    let s' = variable 0 in let t' = variable 1 in let w' = variable 2 in
    ring (s' ⊗ w' ⊖ t' ⊗ w') ((s' ⊖ t') ⊗ w') tt (s ∷ t ∷ w ∷ [])

nothing_left : (z : ℤ) → z -ℤ z ≡ pos 0
nothing_left z = let z' = variable 0 in ring (z' ⊖ z') (constant (pos 0)) tt (z ∷ [])

-- How far the two sums of a line move, a and b, where they are divided by t and the table's values c and s keep within a circle of the
-- radius r, near 2×t: a² + b² is at most 4×d² + 6×d + 2, but for a thousandth of d² and of d.
module _ (t r : ℕ) (positive : 0 < t) (near : 1000 * (r * r) ≤ 4001 * (t * t)) (also-near : 3000 * (t * r) ≤ 6001 * (t * t)) where
  squares-le :
      (a b c s d : ℕ) → t * a ≤ d * c + t → t * b ≤ d * s + t → s * s + c * c ≤ r * r →
      1000 * (a * a + b * b) ≤ 4001 * (d * d) + 6001 * d + 2000
  squares-le a b c s d cosine sine circle =
      le_of_mul-le-mul_left {k = t * t}
      (omega (
        arith,
        mul-le-mul cosine cosine,
        mul-le-mul sine sine,
        moved,
        mul-le-mul_left t both,
        mul-le-mul_left (d * d) near,
        mul-le-mul_left d also-near,
      ))
      (mul-pos positive positive)
    where
      -- the squares of both moves before the division
      moved : d * c * (d * c) + d * s * (d * s) ≤ d * r * (d * r)
      moved = omega (arith, mul-le-mul_left (d * d) circle)

      -- and the moves themselves: √2 is below 3/2
      both : 2 * (d * c + d * s) ≤ 3 * (d * r)
      both = le-of-square-le _ _ (omega (arith, moved, double-product-le (d * c) (d * s)))

module _ (place : ℕ) (one other : List ℤ) (alike : AlikeBut place one other) where
  abbrev d : ℕ
  d = glitch_size place one other

  module _ (wave : ℕ → ℤ) (k : ℕ) where
    -- before the division
    line_sum-apart : nat_abs (line_sum wave one k -ℤ line_sum wave other k) ≤ d * nat_abs (wave (place * k))
    unfolding line_sum
    line_sum-apart =
        rw (← sum_to--ℤ window_length (summand wave one k) (summand wave other k), ← nat_abs-*ℤ, ← difference-of-products)
        (sum_to-one-nat_abs-le window_length place (λ j. summand wave one k j -ℤ summand wave other k j)
        (λ j away. rw (alike j away) (nothing_left (summand wave other k j))))

    -- and after it
    rounded_sum-apart :
        sum_scale * nat_abs (rounded_sum wave one k -ℤ rounded_sum wave other k) ≤ d * nat_abs (wave (place * k)) + sum_scale
    unfolding rounded_sum
    rounded_sum-apart =
        omega (arith, nearestℤ-apart (line_sum wave one k) (line_sum wave other k) sum_scale (omega arith), line_sum-apart)

  -- the moves of a line's two sums, as squares
  abbrev pub line_move : ℕ → ℕ
  line_move k =
      square (rounded_sum table_cosine one k -ℤ rounded_sum table_cosine other k)
      + square (rounded_sum table_sine one k -ℤ rounded_sum table_sine other k)

  pub line_move-le : (k : ℕ) → largest_total * line_move k ≤ norm_most d * norm_most d
  unfolding square
  line_move-le k =
      omega (
        arith,
        squares-le sum_scale largest_radius (lit< tt) (lit≤ tt) (lit≤ tt) _ _ _ _ d
            (rounded_sum-apart table_cosine k) (rounded_sum-apart table_sine k) (table-circle (place * k)),
        norm_most-enough d,
      )
