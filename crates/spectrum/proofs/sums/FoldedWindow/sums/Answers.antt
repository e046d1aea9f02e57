-- Line 0 has its last two places, and every other line those of its last halving.
use Rattle.spectral_lines.proofs.Bounds.{sum_read}
use Rattle.spectrum.proofs.FoldedLines.{cosine-of-0, sine-of-0, cosine-of-folded, sine-of-folded}
use Rattle.spectrum.proofs.sums.FoldedWindow.sums.Goals as goal

pub returns-then-k-eq0-clause-cosine_value : goal.returns-then-k-eq0-clause-cosine_value
returns-then-k-eq0-clause-cosine_value c =
    rw (c.if-k-eq0.true, sum_read c.line_0_sum.result c.line_0_sum.ensures.bound, c.line_0_sum.ensures.value) (cosine-of-0 c.args.self.now.folded.now)

pub returns-then-k-eq0-clause-sine_value : goal.returns-then-k-eq0-clause-sine_value
returns-then-k-eq0-clause-sine_value c = rw c.if-k-eq0.true (sine-of-0 c.args.self.now.folded.now)

pub returns-clause-cosine_value : goal.returns-clause-cosine_value
returns-clause-cosine_value c = let sums = c.sums_over-sums in
    rw (sum_read sums.result.cosine sums.result.cosine_bound) (cosine-of-folded c.args.self.now.folded.now c.args.k c.ending_half-half.result c.ending_half-half.ensures sums.result.cosine sums.ensures.cosine_value)

pub returns-clause-sine_value : goal.returns-clause-sine_value
returns-clause-sine_value c = let sums = c.sums_over-sums in
    rw (sum_read c.signed_sine.result c.signed_sine.ensures.bound, c.signed_sine.ensures.value, sum_read sums.result.sine sums.result.sine_bound) (sine-of-folded c.args.self.now.folded.now c.args.k c.ending_half-half.result c.ending_half-half.ensures sums.result.sine sums.ensures.sine_value)
