use mathlib.Core.Path.{◌≡◌, refl}
use Prim.Native.Nat.{◌<◌}
use native.Mathlib.Nat.{zero-add}
use native.Mathlib.Omega.{arith}
use borrow.Author.Rules.{rules}
use lib.ListN.{length}
use Rattle.algebra.specs.Lists.{tabulate}
use Rattle.algebra.proofs.Filling.{filled_more, filled-whole}
use Rattle.lists.specs.LentWords.{words_from}
use Rattle.lists.proofs.put_numbers.Goals as goal

pub loop-i-init : goal.loop-i-init
unfolding tabulate
loop-i-init c = (omega arith, refl, refl)

pub loop-i-preserved : goal.loop-i-preserved
loop-i-preserved c = let inside : c.loop-i.i < length c.args.to.now = omega arith in
    (omega arith, search rules, filled_more _ _ _ _ c.loop-i.invariant.2 _ inside (rw (zero-add c.loop-i.i) c.number_at.ensures))

pub returns : goal.returns
unfolding words_from
returns c = let a = c.args in
    let end : c.loop-i.i ≡ length a.to.now = omega arith in
    filled-whole (length a.to.now) _ a.to.now _ (rw end at c.loop-i.invariant.2) refl
