-- `record_words::reading::fill_record` meets its contract. The loop's invariant: the smoothed values,
-- the sums and the peaks are filled up to `i` with the words from their places on, and the rest is as
-- it was. The measure is the count of orders that are left.
use mathlib.Core.Path.{◌≡◌}
use Prim.Native.Nat.{◌+◌, ◌≤◌}
use lib.ListN.{length, get_or}
use Rattle.algebra.proofs.Filling.{Filled}
use Rattle.rows.specs.Orders.{order_count}
use Rattle.latest_rows.specs.Latest.{values_kept}
use Rattle.record_words.specs.Words.{smoothed_place}
use Rattle.record_words.proofs.reading.fill_record.Given as goal

abbrev pub invariant-loop-i : goal.invariant-loop-i
invariant-loop-i l = (l.i ≤ order_count) ×
    (l.observation.setup ≡ l.initial.observation.setup) ×
    (l.observation.windows ≡ l.initial.observation.windows) ×
    (length l.observation.latest ≡ values_kept) ×
    Filled l.i (λ k. get_or l.words (smoothed_place + k) 0) l.initial.observation.smoothed l.observation.smoothed ×
    Filled l.i (λ k. get_or l.words (smoothed_place + order_count + k) 0) l.initial.observation.sum l.observation.sum ×
    Filled l.i (λ k. get_or l.words (smoothed_place + order_count + order_count + k) 0) l.initial.observation.peak l.observation.peak
