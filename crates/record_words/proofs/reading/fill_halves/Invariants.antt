-- `record_words::reading::fill_halves` meets its contract. The loop's invariant: the values are
-- filled up to `2 × k` with the halves of the words from the place on.
-- The measure is the count of words that are left.
use Prim.Native.Nat.{◌*◌, ◌≤◌}
use Rattle.algebra.proofs.Filling.{Filled}
use Rattle.lists.specs.LentWords.{words_from}
use Rattle.record_words.specs.Words.{latest_words}
use Rattle.record_words.proofs.Halves.{half_at}
use Rattle.record_words.proofs.reading.fill_halves.Given as goal

abbrev pub invariant-loop-k : goal.invariant-loop-k
invariant-loop-k l = (l.k ≤ latest_words) × Filled (2 * l.k) (half_at (words_from l.place latest_words l.words)) l.initial.values l.values
