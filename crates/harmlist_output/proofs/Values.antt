-- The smoothed values of a sound record fit 32 bits.
use mathlib.Core.Bool.{true}
use mathlib.Core.List.{List}
use mathlib.Core.Path.{◌≡◌}
use Prim.Native.Nat.{ℕ, ◌≤◌}
use lib.ListN.{get_or}
use Rattle.rows.specs.Rows.{largest_value}
use Rattle.records.specs.declared.Observation.{Observation}
use Rattle.records.specs.Soundness.{none_above, is_sound}
use Rattle.records.proofs.NoneAbove.{get_or-le-of-none-above, none-above-of-get_or-le}
use Rattle.records.proofs.SoundParts.{sound-parts}

pub value_fits : (values : List ℕ) (i : ℕ) → none_above largest_value values ≡ true → get_or values i 0 ≤ largest_value
value_fits values i small = get_or-le-of-none-above largest_value values i small

pub smoothed_fit : (o : Observation) → is_sound o ≡ true → none_above largest_value o.smoothed ≡ true
smoothed_fit o sound = none-above-of-get_or-le largest_value o.smoothed (λ i l. (sound-parts o sound).smoothed-le i)
