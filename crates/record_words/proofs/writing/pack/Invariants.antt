-- `record_words::writing::pack` meets its contract. The loop's invariant: the words are filled up to `k` with the pairs of the values.
-- The measure is the count of words that are left.
use mathlib.Core.Path.{◌≡◌}
use Prim.Native.Nat.{◌≤◌}
use lib.ListN.{length}
use Rattle.algebra.proofs.Filling.{Filled}
use Rattle.record_words.proofs.Halves.{pair_at}
use Rattle.record_words.proofs.writing.pack.Given as goal

abbrev pub invariant-loop-k : goal.invariant-loop-k
invariant-loop-k l = (l.k ≤ length l.initial.words) ×
    (length l.words ≡ length l.initial.words) ×
    Filled l.k (pair_at l.values) l.initial.words l.words
