use mathlib.Core.Path.{◌≡◌, refl, sym, ◌∙◌}
use Prim.Native.Nat.{ℕ, ◌+◌, ◌*◌, ◌/◌, ◌%◌}
use native.Mathlib.Omega.{arith}
use lib.ListN.{get_or}
use Rattle.algebra.specs.Lists.{tabulate}
use Rattle.algebra.proofs.Filling.{filled_more, filled-whole}
use Rattle.latest_rows.specs.Latest.{values_kept}
use Rattle.lists.specs.LentWords.{words_from}
use Rattle.lists.proofs.LentWords.{words_from-length, get_or-words_from}
use Rattle.record_words.specs.Halves.{half_base}
use Rattle.record_words.specs.Words.{latest_words}
use Rattle.record_words.proofs.Halves.{half_at, half-even, half-odd, unpacked-places}
use Rattle.record_words.proofs.reading.fill_halves.Goals as goal

pub loop-k-init : goal.loop-k-init
unfolding tabulate
loop-k-init c = (omega arith, refl)

pub overflow_cast-values-in-loop-k : goal.overflow_cast-values-in-loop-k
overflow_cast-values-in-loop-k c = record { fits = omega (arith, c.word_at-word.type_inv) }

-- the halves of the lent words
abbrev Halves : (c : goal.After-way_told-1) → ℕ → ℕ
Halves c =
    let a = c.args in
    half_at (words_from a.place latest_words a.words.now)

pub loop-k-preserved : goal.loop-k-preserved
loop-k-preserved c = let a = c.args in
    let k = c.loop-k.k in
    let word : get_or (words_from a.place latest_words a.words.now) k 0 ≡ c.word_at-word.result =
    get_or-words_from a.place latest_words a.words.now k (omega arith) ∙ sym c.word_at-word.ensures in
    let low : c.word_at-word.result % half_base ≡ Halves c (2 * k) = rw (half-even _ k, word) in
    let high : c.word_at-word.result / half_base ≡ Halves c (2 * k + 1) = rw (half-odd _ k, word) in
    let room = c.requires.values_len in
    let one = filled_more (2 * k) (Halves c) a.values.now _ c.loop-k.invariant.1 _ (omega (arith, room)) low in
    let both = filled_more (2 * k + 1) (Halves c) a.values.now _ one _ (omega (arith, room)) high in
    let next : 2 * (k + 1) ≡ 2 * k + 1 + 1 = omega arith in
    (omega arith, rw next both)

pub returns : goal.returns
returns c = let end : c.loop-k.k ≡ latest_words = omega arith in
    let words = words_from c.args.place latest_words c.args.words.now in
    rw (unpacked-places words, words_from-length c.args.place latest_words c.args.words.now)
    (filled-whole values_kept _ c.args.values.now _ (rw end at c.loop-k.invariant.1) c.requires.values_len)
