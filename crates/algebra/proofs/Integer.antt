-- The ring laws of ℤ that lib.IntN leaves out, and the laws of the absolute value that bounds need.
-- A bound on an integer is stated on its absolute value, in ℕ, where the arithmetic tactic reads it.
use mathlib.Core.Path.{◌≡◌, refl, sym, ◌∙◌, ap}
use Prim.Native.Nat.{ℕ, zero, suc, ◌+◌, ◌*◌, ◌-◌, ◌≤◌}
use mathlib.Core.Bool.{Bool, true, false, cond}
use native.Mathlib.Nat.{le_refl, le_trans}
use native.Mathlib.Omega.{arith}
use lib.Dec.{ltb}
use lib.IntN.{ℤ, pos, negsuc, suc_ℤ, pred_ℤ, neg_ℤ, nat_abs, sub_ℕ, ◌+ℤ◌, ◌-ℤ◌, ◌*ℤ◌, one, suc_ℤ-+ℤ, pred_ℤ-+ℤ, suc_ℤ-*ℤ, pred_ℤ-*ℤ, +ℤ_assoc, +ℤ_comm, +ℤ_idl, zero-*ℤ, *ℤ_comm, *ℤ-one, neg_ℤ-neg_ℤ, neg_ℤ-+ℤ, -ℤ-+ℤ_cancel}

-- every integer is reached from 0 by steps up and steps down
ℤ-steps : (P : ℤ → Type 0) → P (pos 0) → ((k : ℤ) → P k → P (suc_ℤ k)) → ((k : ℤ) → P k → P (pred_ℤ k)) → (k : ℤ) → P k
ℤ-steps P z up down (pos zero) = z
ℤ-steps P z up down (pos (suc n)) = up (pos n) (ℤ-steps P z up down (pos n))
ℤ-steps P z up down (negsuc zero) = down (pos 0) z
ℤ-steps P z up down (negsuc (suc n)) = down (negsuc n) (ℤ-steps P z up down (negsuc n))

-- ---- the product

pub one-*ℤ : (a : ℤ) → pos 1 *ℤ a ≡ a
unfolding one
one-*ℤ a = *ℤ_comm (pos 1) a ∙ *ℤ-one a

pub negℤ-*ℤ : (a b : ℤ) → neg_ℤ a *ℤ b ≡ neg_ℤ (a *ℤ b)
negℤ-*ℤ (pos zero) b = zero-*ℤ b ∙ ap neg_ℤ (sym (zero-*ℤ b))
negℤ-*ℤ (pos (suc a)) (pos b) = refl
negℤ-*ℤ (pos (suc a)) (negsuc b) = sym (neg_ℤ-neg_ℤ (pos (suc a * suc b)))
negℤ-*ℤ (negsuc a) (pos b) = sym (neg_ℤ-neg_ℤ (pos (suc a * b)))
negℤ-*ℤ (negsuc a) (negsuc b) = refl

-- the last two of three summands change places
pub +ℤ-right-comm : (a b c : ℤ) → (a +ℤ b) +ℤ c ≡ (a +ℤ c) +ℤ b
+ℤ-right-comm a b c = +ℤ_assoc a b c ∙ ap (λ x. a +ℤ x) (+ℤ_comm b c) ∙ sym (+ℤ_assoc a c b)

pub +ℤ-*ℤ : (a b c : ℤ) → (a +ℤ b) *ℤ c ≡ a *ℤ c +ℤ b *ℤ c
+ℤ-*ℤ a b c = ℤ-steps (λ k. (k +ℤ b) *ℤ c ≡ k *ℤ c +ℤ b *ℤ c) base up down a
  where
    base : (pos 0 +ℤ b) *ℤ c ≡ pos 0 *ℤ c +ℤ b *ℤ c
    base = simp (+ℤ_idl, zero-*ℤ)

    up : (k : ℤ) → (k +ℤ b) *ℤ c ≡ k *ℤ c +ℤ b *ℤ c → (suc_ℤ k +ℤ b) *ℤ c ≡ suc_ℤ k *ℤ c +ℤ b *ℤ c
    up k h = ap (λ x. x *ℤ c) (suc_ℤ-+ℤ k b) ∙ suc_ℤ-*ℤ (k +ℤ b) c ∙ ap (λ x. x +ℤ c) h ∙ +ℤ-right-comm (k *ℤ c) (b *ℤ c) c ∙ ap (λ x. x +ℤ b *ℤ c) (sym (suc_ℤ-*ℤ k c))

    down : (k : ℤ) → (k +ℤ b) *ℤ c ≡ k *ℤ c +ℤ b *ℤ c → (pred_ℤ k +ℤ b) *ℤ c ≡ pred_ℤ k *ℤ c +ℤ b *ℤ c
    down k h = ap (λ x. x *ℤ c) (pred_ℤ-+ℤ k b) ∙ pred_ℤ-*ℤ (k +ℤ b) c ∙ ap (λ x. x -ℤ c) h ∙ +ℤ-right-comm (k *ℤ c) (b *ℤ c) (neg_ℤ c) ∙ ap (λ x. x +ℤ b *ℤ c) (sym (pred_ℤ-*ℤ k c))

pub *ℤ-+ℤ : (a b c : ℤ) → a *ℤ (b +ℤ c) ≡ a *ℤ b +ℤ a *ℤ c
*ℤ-+ℤ a b c = *ℤ_comm a (b +ℤ c) ∙ +ℤ-*ℤ b c a ∙ ap (λ x. x +ℤ c *ℤ a) (*ℤ_comm b a) ∙ ap (λ x. a *ℤ b +ℤ x) (*ℤ_comm c a)

pub *ℤ-negℤ : (a b : ℤ) → a *ℤ neg_ℤ b ≡ neg_ℤ (a *ℤ b)
*ℤ-negℤ a b = *ℤ_comm a (neg_ℤ b) ∙ negℤ-*ℤ b a ∙ ap neg_ℤ (*ℤ_comm b a)

pub *ℤ-assoc : (a b c : ℤ) → (a *ℤ b) *ℤ c ≡ a *ℤ (b *ℤ c)
*ℤ-assoc a b c = ℤ-steps (λ k. (k *ℤ b) *ℤ c ≡ k *ℤ (b *ℤ c)) base up down a
  where
    base : (pos 0 *ℤ b) *ℤ c ≡ pos 0 *ℤ (b *ℤ c)
    base = simp zero-*ℤ

    up : (k : ℤ) → (k *ℤ b) *ℤ c ≡ k *ℤ (b *ℤ c) → (suc_ℤ k *ℤ b) *ℤ c ≡ suc_ℤ k *ℤ (b *ℤ c)
    up k h = ap (λ x. x *ℤ c) (suc_ℤ-*ℤ k b) ∙ +ℤ-*ℤ (k *ℤ b) b c ∙ ap (λ x. x +ℤ b *ℤ c) h ∙ sym (suc_ℤ-*ℤ k (b *ℤ c))

    down : (k : ℤ) → (k *ℤ b) *ℤ c ≡ k *ℤ (b *ℤ c) → (pred_ℤ k *ℤ b) *ℤ c ≡ pred_ℤ k *ℤ (b *ℤ c)
    down k h = ap (λ x. x *ℤ c) (pred_ℤ-*ℤ k b) ∙ +ℤ-*ℤ (k *ℤ b) (neg_ℤ b) c ∙ ap (λ x. x +ℤ neg_ℤ b *ℤ c) h ∙ ap (λ x. k *ℤ (b *ℤ c) +ℤ x) (negℤ-*ℤ b c) ∙ sym (pred_ℤ-*ℤ k (b *ℤ c))

-- ---- the absolute value

pub nat_abs-negℤ : (a : ℤ) → nat_abs (neg_ℤ a) ≡ nat_abs a
nat_abs-negℤ (pos zero) = refl
nat_abs-negℤ (pos (suc n)) = refl
nat_abs-negℤ (negsuc n) = refl

pub nat_abs-*ℤ : (a b : ℤ) → nat_abs (a *ℤ b) ≡ nat_abs a * nat_abs b
nat_abs-*ℤ (pos a) (pos b) = refl
nat_abs-*ℤ (pos a) (negsuc b) = nat_abs-negℤ (pos (a * suc b))
nat_abs-*ℤ (negsuc a) (pos b) = nat_abs-negℤ (pos (suc a * b))
nat_abs-*ℤ (negsuc a) (negsuc b) = refl

nat_abs-subℕ-le : (a b : ℕ) → nat_abs (sub_ℕ a (suc b)) ≤ a + suc b
nat_abs-subℕ-le a b = go (ltb a (suc b))
  where
    go : (below : Bool) → nat_abs (cond below (negsuc (suc b - suc a)) (pos (a - suc b))) ≤ a + suc b
    go true = omega arith
    go false = omega arith

pub nat_abs-+ℤ-le : (a b : ℤ) → nat_abs (a +ℤ b) ≤ nat_abs a + nat_abs b
nat_abs-+ℤ-le (pos a) (pos b) = le_refl (a + b)
nat_abs-+ℤ-le (pos a) (negsuc b) = nat_abs-subℕ-le a b
nat_abs-+ℤ-le (negsuc a) (pos b) = le_trans (nat_abs-subℕ-le b a) (omega arith)
nat_abs-+ℤ-le (negsuc a) (negsuc b) = omega arith

pub nat_abs--ℤ-comm : (a b : ℤ) → nat_abs (a -ℤ b) ≡ nat_abs (b -ℤ a)
nat_abs--ℤ-comm a b = sym (nat_abs-negℤ (a -ℤ b)) ∙ ap nat_abs (neg_ℤ-+ℤ a (neg_ℤ b) ∙ ap (λ x. neg_ℤ a +ℤ x) (neg_ℤ-neg_ℤ b) ∙ +ℤ_comm (neg_ℤ a) b)

-- a number is at most another and their distance
pub nat_abs-le-distance : (a b : ℤ) → nat_abs a ≤ nat_abs b + nat_abs (a -ℤ b)
nat_abs-le-distance a b = omega (arith, ap nat_abs (-ℤ-+ℤ_cancel a b), nat_abs-+ℤ-le (a -ℤ b) b)

-- a square is the square of the absolute value, and so not below 0
pub square-nat_abs : (a : ℤ) → a *ℤ a ≡ pos (nat_abs a * nat_abs a)
square-nat_abs (pos n) = refl
square-nat_abs (negsuc n) = refl
