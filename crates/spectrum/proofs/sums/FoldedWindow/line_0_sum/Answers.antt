-- The sum of two numbers of 32 bits, and its product with the cosine of 0.
use borrow.Author.Rules.{rules}
use Rattle.spectrum.proofs.FoldedLines.{last-sum-small, last-sum-read}
use Rattle.spectrum.proofs.sums.FoldedWindow.line_0_sum.Goals as goal

pub returns-clause-value : goal.returns-clause-value
returns-clause-value c = let window = c.args.self.now in
    last-sum-read window.folded.now window.wave.now c.product.result window.small window.one_turn (search rules) (search rules) c.product.ensures

pub returns-clause-bound : goal.returns-clause-bound
returns-clause-bound c = rw (returns-clause-value c) (last-sum-small c.args.self.now.folded.now c.args.self.now.small)
