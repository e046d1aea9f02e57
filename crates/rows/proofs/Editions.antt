-- An edition is 2 or A1.
use mathlib.Core.Path.{◌≡◌, refl, sym, subst}
use mathlib.Core.Bool.{true, false}
use mathlib.Core.Logic.{⊎_elim}
use Prim.Native.Nat.{ℕ, ◌-◌, ◌^◌, ◌≤◌}
use native.Mathlib.Omega.{arith}
use Rattle.algebra.proofs.Tests.{eqb-either}
use Rattle.rows.specs.Editions.{is_edition, edition2, edition_a1}

-- what holds under both holds under every edition
pub each-edition : (P : ℕ → Type 0) → P edition2 → P edition_a1 → (e : ℕ) → is_edition e ≡ true → P e
unfolding is_edition
each-edition P two a1 e known =
    ⊎_elim
    (λ (p : e ≡ edition2). subst P (sym p) two)
    (λ (p : e ≡ edition_a1). subst P (sym p) a1)
    (eqb-either e edition2 edition_a1 known)

pub edition-le : (e : ℕ) → is_edition e ≡ true → e ≤ edition_a1
edition-le = each-edition (λ e. e ≤ edition_a1) (omega arith) (omega arith)

-- 0 and 1 are editions, and the next number, the edition's own and the largest are not
editions-worked : (is_edition 0 ≡ true) × (is_edition 1 ≡ true) × (is_edition 2 ≡ false) × (is_edition 3 ≡ false)
    × (is_edition (2 ^ 32 - 1) ≡ false)
unfolding is_edition
editions-worked = (refl, refl, refl, refl, refl)
