-- Each sum takes its next place, and both stay small.
use mathlib.Core.Path.{◌≡◌, refl}
use native.Mathlib.Omega.{arith}
use Rattle.algebra.specs.Sums.{sum_to}
use Rattle.single_lines.proofs.QuarterSums.{next-cosine, next-sine, cosine_sum-small, sine_sum-small}
use Rattle.single_lines.proofs.alone.Window.sums_across.Goals as goal

pub loop-j-init : goal.loop-j-init
unfolding sum_to
loop-j-init c = record { cosine = refl; sine = refl }

pub overflow_add-cosine : goal.overflow_add-cosine
overflow_add-cosine c = let window = c.args.self.now in
    (next-cosine window.samples.now window.bounded c.args.k c.loop-j.j (omega arith) (omega arith) c.is_odd-odd.result c.is_odd-odd.ensures
    _ _ _ _ c.loop-j.invariant.cosine c.numbers_at-numbers.ensures.cosine_value c.cosine_at.ensures c.product-cosine.ensures).fits

pub overflow_add-sine : goal.overflow_add-sine
overflow_add-sine c = let window = c.args.self.now in
    (next-sine window.samples.now window.bounded c.args.k c.loop-j.j (omega arith) (omega arith) c.is_odd-odd.result c.is_odd-odd.ensures
    _ _ _ _ c.loop-j.invariant.sine c.numbers_at-numbers.ensures.sine_value c.sine_at.ensures c.product-sine.ensures).fits

pub loop-j-preserved : goal.loop-j-preserved
loop-j-preserved c = let window = c.args.self.now in
    record {
      cosine = (next-cosine window.samples.now window.bounded c.args.k c.loop-j.j (omega arith) (omega arith) c.is_odd-odd.result c.is_odd-odd.ensures
          _ _ _ _ c.loop-j.invariant.cosine c.numbers_at-numbers.ensures.cosine_value c.cosine_at.ensures c.product-cosine.ensures).is;
      sine = (next-sine window.samples.now window.bounded c.args.k c.loop-j.j (omega arith) (omega arith) c.is_odd-odd.result c.is_odd-odd.ensures
          _ _ _ _ c.loop-j.invariant.sine c.numbers_at-numbers.ensures.sine_value c.sine_at.ensures c.product-sine.ensures).is;
    }

pub invariant_of-result : goal.invariant_of-result
invariant_of-result c = let window = c.args.self.now in
    let end : c.loop-j.j ≡ 512 = omega arith in
    record {
      cosine_bound = rw (rw end at c.loop-j.invariant.cosine) (cosine_sum-small window.samples.now window.bounded c.args.k);
      sine_bound = rw (rw end at c.loop-j.invariant.sine) (sine_sum-small window.samples.now window.bounded c.args.k);
    }

pub returns-clause-sine_value : goal.returns-clause-sine_value
returns-clause-sine_value c = let end : c.loop-j.j ≡ 512 = omega arith in rw end at c.loop-j.invariant.sine
