-- A window is short just where fewer samples than a window has stand from its start on.
use mathlib.Core.Path.{◌≡◌}
use mathlib.Core.List.{List}
use Prim.Native.Nat.{ℕ, ◌-◌, min}
use native.Mathlib.Omega.{arith}
use lib.Dec.{ltb}
use lib.IntN.{ℤ}
use lib.ListN.{length, length-take, length-drop}
use Rattle.algebra.proofs.Tests.{ltb-same}
use Rattle.windows.specs.Window.{window_length, window_at}

pub short_test :
    (recording : List ℤ) (start : ℕ) →
    ltb (length (window_at recording start)) window_length ≡ ltb (length recording - start) window_length
unfolding window_at
short_test recording start =
    simp (length-take, length-drop)
    (ltb-same (min window_length (length recording - start)) window_length (length recording - start) window_length (λ h. omega arith) (λ h. omega arith))
