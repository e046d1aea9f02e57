use mathlib.Core.Path.{◌≡◌, refl}
use mathlib.Core.List.{List}
use Prim.Native.Nat.{ℕ, ◌<◌}
use native.Mathlib.Omega.{arith}
use lib.ListN.{replicate}
use Rattle.algebra.specs.Lists.{tabulate}
use Rattle.algebra.proofs.Filling.{filled_more, filled-whole}
use Rattle.rows.specs.Orders.{order_count}
use Rattle.lists.specs.LentWords.{words_from}
use Rattle.lists.proofs.LentWords.{words_from-one}
use Rattle.record_words.specs.Parts.{parts_from}
use Rattle.record_words.specs.Words.{record_read, of_parts}
use Rattle.record_words.proofs.reading.fill_record.Goals as goal

pub loop-i-init : goal.loop-i-init
unfolding tabulate
loop-i-init c = (omega arith, refl, refl, omega arith, refl, refl, refl)

-- what the loop begins with
abbrev zeros : List ℕ
zeros = replicate order_count 0

pub loop-i-preserved : goal.loop-i-preserved
loop-i-preserved c = let inv = c.loop-i.invariant in
    let inside : c.loop-i.i < order_count = omega arith in (
      omega arith,
      inv.1,
      inv.2,
      inv.3,
      filled_more _ _ zeros _ inv.4 _ inside c.word_at.ensures,
      filled_more _ _ zeros _ inv.5 _ inside c.word_at-in-loop-i.ensures,
      filled_more _ _ zeros _ inv.6 _ inside c.word_at-in-loop-i-2.ensures,
    )

pub returns : goal.returns
unfolding record_read of_parts parts_from words_from
returns c = let words = c.args.words.now in
    let inv = c.loop-i.invariant in
    let end : c.loop-i.i ≡ order_count = omega arith in
    rw (
      inv.1,
      inv.2,
      filled-whole order_count _ zeros _ (rw end at inv.4) refl,
      filled-whole order_count _ zeros _ (rw end at inv.5) refl,
      filled-whole order_count _ zeros _ (rw end at inv.6) refl,
      c.fill_halves.ensures,
      c.count_at.ensures,
      c.count_at-2.ensures,
      c.count_at-observation.ensures,
      words_from-one 0 words,
      words_from-one 1 words,
      words_from-one 2 words,
    )
