-- The sums over j = 1..511 and the samples that are left over make the whole sums, which stay small.
use Rattle.single_lines.proofs.QuarterSums.{with-ends, whole-cosine, whole-sine, whole-cosine-small, whole-sine-small}
use Rattle.single_lines.proofs.alone.Window.sums.Goals as goal

pub overflow_add-result : goal.overflow_add-result
overflow_add-result c = let window = c.args.self.now in
    (with-ends window.samples.now window.bounded c.args.k _ _ _ _ _ c.is_odd.ensures
    c.sums_across-sums.ensures.cosine_value c.ends-ends.ensures c.cosine_at.ensures c.product.ensures).fits

pub overflow_add-result-2 : goal.overflow_add-result-2
overflow_add-result-2 c = let window = c.args.self.now in
    (whole-cosine window.samples.now window.bounded c.args.k _ _ _ _ _ c.is_odd.ensures
    c.sums_across-sums.ensures.cosine_value c.ends-ends.ensures c.cosine_at.ensures c.product.ensures
    _ _ _ c.pair_at-middle.ensures.sum_value c.cosine_at-2.ensures c.product-2.ensures).fits

pub overflow_add-result-3 : goal.overflow_add-result-3
overflow_add-result-3 c = let window = c.args.self.now in
    (whole-sine window.samples.now window.bounded c.args.k _ _ _ _ c.sums_across-sums.ensures.sine_value
    c.pair_at-middle.ensures.difference_value c.sine_at.ensures c.product-3.ensures).fits

pub returns-clause-cosine_value : goal.returns-clause-cosine_value
returns-clause-cosine_value c = let window = c.args.self.now in
    (whole-cosine window.samples.now window.bounded c.args.k _ _ _ _ _ c.is_odd.ensures
    c.sums_across-sums.ensures.cosine_value c.ends-ends.ensures c.cosine_at.ensures c.product.ensures
    _ _ _ c.pair_at-middle.ensures.sum_value c.cosine_at-2.ensures c.product-2.ensures).is

pub returns-clause-sine_value : goal.returns-clause-sine_value
returns-clause-sine_value c = let window = c.args.self.now in
    (whole-sine window.samples.now window.bounded c.args.k _ _ _ _ c.sums_across-sums.ensures.sine_value
    c.pair_at-middle.ensures.difference_value c.sine_at.ensures c.product-3.ensures).is

pub invariant_of-result : goal.invariant_of-result
invariant_of-result c = let window = c.args.self.now in
    let cosine =
    whole-cosine window.samples.now window.bounded c.args.k _ _ _ _ _ c.is_odd.ensures
    c.sums_across-sums.ensures.cosine_value c.ends-ends.ensures c.cosine_at.ensures c.product.ensures
    _ _ _ c.pair_at-middle.ensures.sum_value c.cosine_at-2.ensures c.product-2.ensures in
    let sine =
    whole-sine window.samples.now window.bounded c.args.k _ _ _ _ c.sums_across-sums.ensures.sine_value
    c.pair_at-middle.ensures.difference_value c.sine_at.ensures c.product-3.ensures in
    record {
      cosine_bound = rw cosine.is (whole-cosine-small window.samples.now window.bounded c.args.k);
      sine_bound = rw sine.is (whole-sine-small window.samples.now window.bounded c.args.k);
    }
