-- What a sound record says of its numbers. A record's lists may have any length here: past its end a list holds zeros.
use mathlib.Core.Path.{◌≡◌}
use mathlib.Core.Bool.{true}
use Prim.Native.Nat.{ℕ, ◌*◌, ◌≤◌}
use borrow.Author.Tests.{leb-true}
use lib.ListN.{get_or, drop}
use Rattle.algebra.proofs.Tests.{all_true-at}
use Rattle.rows.specs.Setups.{is_setup}
use Rattle.rows.specs.Orders.{order_count}
use Rattle.rows.specs.Rows.{largest_value}
use Rattle.records.specs.declared.Observation.{Observation}
use Rattle.records.specs.Soundness.{most_windows, none_above, sound_tests, is_sound}
use Rattle.records.proofs.NoneAbove.{get_or-le-of-none-above}

pub record SoundParts (o : Observation) : Type 0 where
  pub setup-known : is_setup o.setup ≡ true
  pub windows-le : o.windows ≤ most_windows
  pub sum-le : (i : ℕ) → get_or o.sum i 0 ≤ o.windows * largest_value
  pub peak-le : (i : ℕ) → get_or o.peak i 0 ≤ largest_value
  pub smoothed-le : (i : ℕ) → get_or o.smoothed i 0 ≤ largest_value
  pub zeros-to-come : none_above 0 (drop (o.windows * order_count) o.latest) ≡ true

pub sound-parts : (o : Observation) → is_sound o ≡ true → SoundParts o
unfolding is_sound
sound-parts o e =
    let passed = all_true-at (sound_tests o) e in
    record {
      setup-known = passed 0;
      windows-le = leb-true _ _ (passed 1);
      sum-le = λ i. get_or-le-of-none-above _ _ i (passed 2);
      peak-le = λ i. get_or-le-of-none-above _ _ i (passed 3);
      smoothed-le = λ i. get_or-le-of-none-above _ _ i (passed 4);
      zeros-to-come = passed 6;
    }
