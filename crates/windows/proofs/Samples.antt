-- A sample of a window in range is small. A place past the window's end reads as 0, which is in range too, so the window may have any length.
use mathlib.Core.Bool.{false}
use mathlib.Core.List.{List}
use mathlib.Core.Path.{◌≡◌}
use Prim.Native.Nat.{ℕ, ◌≤◌, ◌<◌}
use native.Mathlib.Decide.{dec_lt}
use native.Mathlib.Omega.{arith}
use borrow.Author.Tests.{ltb-false}
use lib.IntN.{ℤ, pos, nat_abs}
use lib.ListN.{length, get_or-eq_default}
use Rattle.std.specs.List.{list_any}
use Rattle.algebra.proofs.Lists.{list_any-none}
use Rattle.windows.specs.Window.{largest_sample, out_of_range, sample_at}

pub sample-le : (window : List ℤ) → list_any out_of_range window ≡ false → (j : ℕ) → nat_abs (sample_at window j) ≤ largest_sample
unfolding out_of_range
sample-le window in-range j = go (dec_lt j (length window))
  where
    go : Dec (j < length window) → nat_abs (sample_at window j) ≤ largest_sample
    go (yes h) =
        ltb-false largest_sample (nat_abs (sample_at window j)) (list_any-none out_of_range window j (pos 0) in-range h)
    go (no f) = rw (get_or-eq_default window (pos 0) {n = j} (omega arith)) (omega arith)
