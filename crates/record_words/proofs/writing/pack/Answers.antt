use mathlib.Core.Path.{◌≡◌, refl}
use Prim.Native.Nat.{◌<◌}
use native.Mathlib.Omega.{arith}
use borrow.Author.Rules.{rules}
use lib.ListN.{length}
use Rattle.algebra.specs.Lists.{tabulate}
use Rattle.algebra.proofs.Filling.{filled_more, filled-whole}
use Rattle.record_words.proofs.Halves.{packed-places}
use Rattle.record_words.proofs.writing.pack.Goals as goal

pub loop-k-init : goal.loop-k-init
unfolding tabulate
loop-k-init c = (omega arith, refl, refl)

pub loop-k-preserved : goal.loop-k-preserved
loop-k-preserved c = let inside : c.loop-k.k < length c.args.words.now = omega arith in
    (search rules, search rules, filled_more _ _ _ _ c.loop-k.invariant.2 _ inside c.paired.ensures)

pub returns : goal.returns
returns c = let words = c.args.words.now in
    let end : c.loop-k.k ≡ length words = omega arith in
    rw (packed-places c.args.values.now (length words) c.requires)
    (filled-whole (length words) _ words _ (rw end at c.loop-k.invariant.2) refl)
