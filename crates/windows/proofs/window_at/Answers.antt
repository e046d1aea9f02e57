-- `windows::window_at` meets its contract: ends that are cut to the recording's length take the same samples.
use mathlib.Core.Path.{◌≡◌}
use Prim.Native.Nat.{ℕ, ◌+◌, ◌-◌, min}
use native.Mathlib.Omega.{arith}
use lib.IntN.{ℤ}
use lib.ListN.{length, take, drop, length-drop}
use mathlib.Core.List.{List}
use Rattle.algebra.proofs.Lists.{take_min, drop_min}
use Rattle.windows.specs.Window.{window_length, window_at}
use Rattle.windows.proofs.window_at.Goals as goal

cut-ends : (recording : List ℤ) (start first count : ℕ) →
    first ≡ min start (length recording) →
    count ≡ min window_length (length recording - first) →
    take (first + count - first) (drop first recording) ≡ window_at recording start
unfolding window_at
cut-ends recording start first count f n =
    let taken : first + count - first ≡ min window_length (length recording - first) = omega arith in
    rw (taken, ← length-drop first recording, take_min window_length (drop first recording), f, drop_min start recording)

pub returns : goal.returns
returns c = let a = c.args in
    cut-ends a.recording.now a.start c.min-first.result c.min.result
    c.min-first.ensures
    c.min.ensures
