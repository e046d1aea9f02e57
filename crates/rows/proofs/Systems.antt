-- A system is 10 or 12.
use mathlib.Core.Path.{◌≡◌, refl}
use mathlib.Core.Bool.{true, false}
use mathlib.Core.Logic.{◌⊎◌, ⊎_elim}
use Prim.Native.Nat.{ℕ, ◌+◌, ◌/◌, ◌≤◌}
use native.Mathlib.Omega.{arith}
use Rattle.algebra.proofs.Tests.{eqb-either}
use Rattle.rows.specs.Systems.{is_system}

pub system-cases : (n : ℕ) → is_system n ≡ true → (n ≡ 10) ⊎ (n ≡ 12)
unfolding is_system
system-cases n = eqb-either n 10 12

-- what the counts of lines in a system's groups rest on
pub record SystemBounds (n : ℕ) : Type 0 where
  pub least : 10 ≤ n
  pub most : n ≤ 12
  pub even : n / 2 + n / 2 ≡ n

pub system-bounds : (n : ℕ) → is_system n ≡ true → SystemBounds n
system-bounds n e =
    ⊎_elim
    (λ (p : n ≡ 10). record { least = omega arith; most = omega arith; even = omega arith })
    (λ (p : n ≡ 12). record { least = omega arith; most = omega arith; even = omega arith })
    (system-cases n e)

-- 50 Hz and 60 Hz are systems, and their neighbours, their frequencies and the mean of the two are not
systems-worked : (is_system 10 ≡ true) × (is_system 12 ≡ true) × (is_system 9 ≡ false) × (is_system 11 ≡ false) × (is_system 13 ≡ false)
    × (is_system 50 ≡ false) × (is_system 60 ≡ false) × (is_system 0 ≡ false)
unfolding is_system
systems-worked = (refl, refl, refl, refl, refl, refl, refl, refl)
