-- Each sum takes its next place, and both stay small.
use mathlib.Core.Path.{refl}
use native.Mathlib.Omega.{arith}
use Rattle.algebra.specs.Sums.{sum_to}
use Rattle.spectral_lines.specs.Folding.{held_by, place_sum}
use Rattle.spectrum.proofs.LineSums.{ahead, cosine-fits, sine-fits, sum-small, next-cosine, next-sine}
use Rattle.spectrum.proofs.sums.FoldedWindow.sums_over.Goals as goal

pub loop-i-init : goal.loop-i-init
unfolding place_sum sum_to
loop-i-init c = record { cosine = refl; sine = refl }

pub overflow_add-cosine : goal.overflow_add-cosine
overflow_add-cosine c = let a = c.args in
    let window = a.self.now in
    let l = c.loop-i in
    (next-cosine window.folded.now window.wave.now window.small window.one_turn a.k a.half c.requires.ends_at l.i c.turn_index.result c.loop-i-test.true c.turn_index.ensures _ _ l.invariant.cosine c.product-cosine.ensures).fits

pub overflow_add-sine : goal.overflow_add-sine
overflow_add-sine c = let a = c.args in
    let window = a.self.now in
    let l = c.loop-i in
    (next-sine window.folded.now window.wave.now window.small window.one_turn a.k a.half c.requires.ends_at l.i c.turn_index.result c.loop-i-test.true c.turn_index.ensures _ _ l.invariant.sine c.product-sine.ensures).fits

pub loop-i-preserved : goal.loop-i-preserved
loop-i-preserved c = let a = c.args in
    let window = a.self.now in
    let l = c.loop-i in
    record {
      cosine = (next-cosine window.folded.now window.wave.now window.small window.one_turn a.k a.half c.requires.ends_at l.i c.turn_index.result c.loop-i-test.true c.turn_index.ensures _ _ l.invariant.cosine c.product-cosine.ensures).is;
      sine = (next-sine window.folded.now window.wave.now window.small window.one_turn a.k a.half c.requires.ends_at l.i c.turn_index.result c.loop-i-test.true c.turn_index.ensures _ _ l.invariant.sine c.product-sine.ensures).is;
    }

pub invariant_of-result : goal.invariant_of-result
invariant_of-result c = let a = c.args in
    let f = held_by a.self.now.folded.now in
    let l = c.loop-i in
    let ends = c.requires.ends_at in
    record {
      cosine_bound = rw l.invariant.cosine (sum-small f a.k a.half l.i (cosine-fits f a.self.now.small a.k a.half ends) ends.some (omega arith));
      sine_bound = rw l.invariant.sine (sum-small (ahead f a.half) a.k a.half l.i (sine-fits f a.self.now.small a.k a.half ends) ends.some (omega arith));
    }
