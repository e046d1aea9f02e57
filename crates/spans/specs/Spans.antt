-- The weights of the lines of a span (document 01, "Groups"), and the sums over lines.
use Rattle.std.specs.Prelude.{ℕ, ◌+◌, ◌*◌, Bool, cond, ◌&&◌, ◌||◌, List, ◌==◌, slice_index}
use Rattle.algebra.specs.Lists.{tabulate}
use Rattle.algebra.specs.Weighted.{sum_over}
use Rattle.rows.specs.declared.Setup.{Setup}
use Rattle.kinds.specs.declared.Kind.{Kind}
use Rattle.kinds.specs.declared.Span.{Span}
use Rattle.kinds.specs.Kinds.{group_span}

-- a line of a group: its number in the spectrum, and twice its weight
pub record Weighted : Type 0 where
  pub line : ℕ
  pub twice_weight : ℕ

-- the place is the first or the last of so many
abbrev pub is_end : ℕ → ℕ → Bool
is_end count i = i == 0 || i + 1 == count

-- twice the weight of a line of a span: 1 at both ends of one with half ends, else 2
abbrev pub twice_weight_at : Span → ℕ → ℕ
twice_weight_at span i = cond (span.half_ends && is_end span.count i) 1 2

-- the lines of a span, one after the other
unfoldable pub weights_in : Span → List Weighted
weights_in span = tabulate span.count (λ i. record { line = span.first + i; twice_weight = twice_weight_at span i })

-- those of a group
abbrev pub weights_of : Kind → Setup → ℕ → List Weighted
weights_of kind setup h = weights_in (group_span kind setup h)

-- twice the weights of some lines, added up
abbrev pub total_twice_weight : List Weighted → ℕ
total_twice_weight xs = sum_over (λ x. x.twice_weight) xs

-- the line with a number, 0 past the end
abbrev pub line_at : List ℕ → ℕ → ℕ
line_at lines k = slice_index lines k

-- the sum of 2×w×L over some lines, L given by the line's number
unfoldable pub weighted_sum : (ℕ → ℕ) → List Weighted → ℕ
weighted_sum line_at xs = sum_over (λ x. x.twice_weight * line_at x.line) xs

-- the sum of so many lines from a first on, each taken once
unfoldable pub lines_total : (ℕ → ℕ) → ℕ → ℕ → ℕ
lines_total line_at first count = sum_over line_at (tabulate count (λ i. first + i))
