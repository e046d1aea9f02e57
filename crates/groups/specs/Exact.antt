-- The exact group of document 01: the fraction G that is its square. Exact sines in the sums, A and B each twice that sum unrounded, no root taken.
use Rattle.std.specs.Prelude.{List, ℕ, ◌*◌, ℤ}
use Rattle.algebra.specs.Fraction.{Fraction}
use Rattle.sine.specs.ExactSine.{denominator}
use Rattle.rows.specs.declared.Setup.{Setup}
use Rattle.spectral_lines.specs.Exact.{exact_line, denominator-square-pos}
use Rattle.kinds.specs.declared.Kind.{Kind}
use Rattle.spans.specs.Spans.{Weighted, weights_of, weighted_sum}

-- over some lines: the sum of 2×w×L of the exact lines, over the square of the exact sine's denominator
unfoldable pub exact_over : List Weighted → List ℤ → Fraction
exact_over xs window =
    record { num = weighted_sum (exact_line window) xs; den = denominator * denominator; den_pos = denominator-square-pos }

-- G itself
unfoldable pub exact_group : Kind → Setup → ℕ → List ℤ → Fraction
exact_group kind setup order window = exact_over (weights_of kind setup order) window
