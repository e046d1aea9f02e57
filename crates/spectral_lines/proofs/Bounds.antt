-- How large the sums and the lines of a window in range are: a sum is below 2^58, a rounded sum at most 2^29, a line at most 2^59.
-- A place past the window's end reads as 0, which is in range too, so the window may have any length.
use mathlib.Core.Bool.{false}
use mathlib.Core.List.{List}
use mathlib.Core.Path.{◌≡◌}
use Prim.Native.Nat.{ℕ, ◌*◌, ◌^◌, ◌≤◌, ◌<◌}
use native.Mathlib.Nat.{le_trans, mul-le-mul, add-le-add}
use native.Mathlib.Omega.{arith}
use lib.IntN.{ℤ, nat_abs, ◌*ℤ◌}
use mir.Syntax.{w32, w64}
use mir.Val.{SFits, to_z, of_z}
use mir.ValLaws.{to_z-of_z}
use Rattle.std.specs.List.{list_any}
use Rattle.algebra.specs.Rounding.{nearestℤ}
use Rattle.algebra.proofs.Integer.{nat_abs-*ℤ}
use Rattle.algebra.proofs.Rounding.{nat_abs-nearestℤ-le, nearest-le}
use Rattle.algebra.proofs.Signed.{sfits-nat_abs, cut}
use Rattle.algebra.proofs.SumTo.{sum_to-nat_abs-le}
use Rattle.sine.specs.Wave.{table_sine, table_cosine, full_scale}
use Rattle.sine.proofs.Wave.{table_sine-le, table_cosine-le}
use Rattle.windows.proofs.Samples.{sample-le}
use Rattle.windows.specs.Window.{sample_at, window_length, largest_sample, out_of_range}
use Rattle.spectral_lines.specs.Line.{line_sum, sum_scale, rounded_sum, line_of}
use Rattle.algebra.specs.Integers.{square}

-- summand j of the sum of line k
abbrev pub summand : (ℕ → ℤ) → List ℤ → ℕ → ℕ → ℤ
summand wave window k j = sample_at window j *ℤ wave (j * k)

pub square_le : (x : ℤ) → nat_abs x ≤ 2 ^ 29 → square x ≤ 2 ^ 58
unfolding square
square_le x h = mul-le-mul h h

-- a sum below 2^58 is at most 2^29 when it is rounded
pub rounded-le : (sum : ℤ) → nat_abs sum < 2 ^ 58 → nat_abs (nearestℤ sum sum_scale) ≤ 2 ^ 29
rounded-le sum h =
    le_trans (nat_abs-nearestℤ-le sum sum_scale (omega arith)) (nearest-le (2 ^ 29) sum_scale (omega arith) (omega arith))

-- so 32 bits hold it
pub rounded_fits : (sum : ℤ) → nat_abs sum < 2 ^ 58 → SFits w32 (nearestℤ sum sum_scale)
rounded_fits sum h = sfits-nat_abs w32 (nearestℤ sum sum_scale) (omega (arith, rounded-le sum h))

-- a sum that 58 bits hold is read back from 64 bits, and the rounded one from 32
pub sum_read : (sum : ℤ) → nat_abs sum < 2 ^ 58 → to_z w64 (of_z w64 sum) ≡ sum
sum_read sum h = to_z-of_z w64 sum (sfits-nat_abs w64 sum (omega (arith, h)))

pub rounded_read : (sum : ℤ) → nat_abs sum < 2 ^ 58 → to_z w32 (of_z w32 (to_z w64 (of_z w64 (nearestℤ sum sum_scale)))) ≡ nearestℤ sum sum_scale
rounded_read sum h = cut (nearestℤ sum sum_scale) (rounded_fits sum h)

pub ruleset roundings = (rounded_fits, sum_read, rounded_read)

-- a sum of samples that are small, times any such wave
pub small_line_sum : (window : List ℤ) → ((j : ℕ) → nat_abs (sample_at window j) ≤ largest_sample) →
    (wave : ℕ → ℤ) → ((i : ℕ) → nat_abs (wave i) ≤ full_scale) → (k : ℕ) → nat_abs (line_sum wave window k) < 2 ^ 58
unfolding line_sum
small_line_sum window small wave wave-le k =
    omega (
      arith,
      sum_to-nat_abs-le window_length (largest_sample * full_scale) (summand wave window k)
          (λ j l. rw nat_abs-*ℤ (mul-le-mul (small j) (wave-le (j * k)))),
    )

module _ (window : List ℤ) (in-range : list_any out_of_range window ≡ false) where
  module _ (wave : ℕ → ℤ) (wave-le : (i : ℕ) → nat_abs (wave i) ≤ full_scale) where
    pub line_sum-le : (k : ℕ) → nat_abs (line_sum wave window k) < 2 ^ 58
    line_sum-le = small_line_sum window (sample-le window in-range) wave wave-le

    pub rounded_sum-le : (k : ℕ) → nat_abs (rounded_sum wave window k) ≤ 2 ^ 29
    unfolding rounded_sum
    rounded_sum-le k = rounded-le (line_sum wave window k) (line_sum-le k)

    squared_sum-le : (k : ℕ) → square (rounded_sum wave window k) ≤ 2 ^ 58
    squared_sum-le k = square_le (rounded_sum wave window k) (rounded_sum-le k)

  pub line-le : (k : ℕ) → line_of window k ≤ 2 ^ 59
  unfolding line_of
  line-le k =
      add-le-add (squared_sum-le table_cosine table_cosine-le k) (squared_sum-le table_sine table_sine-le k)
