-- The exact sums behind a line (document 01, "Groups"): exact sines in the sums, A and B each twice that sum, unrounded.
use Rattle.std.specs.Prelude.{List, ℕ, ◌+◌, ◌*◌, ◌≤◌, ◌<◌, ℤ, pos, ◌*ℤ◌, ◌-ℤ◌, nat_abs}
use Rattle.std.proofs.Common.{lit<}
use Rattle.algebra.specs.Integers.{square}
use Rattle.sine.specs.ExactSine.{exact_sine, exact_cosine, denominator}
use Rattle.spectral_lines.specs.Line.{line_sum}

-- twice the sum with an exact wave (the exact cosine for A, the exact sine for B), as a numerator over the exact sine's denominator
unfoldable pub exact_sum : (ℕ → ℤ) → List ℤ → ℕ → ℤ
exact_sum wave window k = pos 2 *ℤ line_sum wave window k

-- the exact line, over the square of the exact sine's denominator
unfoldable pub exact_line : List ℤ → ℕ → ℕ
exact_line window k = square (exact_sum exact_cosine window k) + square (exact_sum exact_sine window k)

-- the denominator is above 0
pub denominator-square-pos : 0 < denominator * denominator
unfolding denominator Rattle.sine.specs.ExactSine.factorial
denominator-square-pos = lit< tt

-- a rounded sum and an exact one, which is a numerator over the exact sine's denominator, are at most three quarters apart
abbrev pub WithinThreeQuarters : ℤ → ℤ → Type 0
WithinThreeQuarters exact rounded = 4 * nat_abs (pos denominator *ℤ rounded -ℤ exact) ≤ 3 * denominator
