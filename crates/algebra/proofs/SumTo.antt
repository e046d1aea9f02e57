-- The laws of a sum over j = 0 .. n − 1: sums and differences of summands, a constant factor, a bound, the same summands in another order, and pairs of summands about the middle.
use mathlib.Core.Path.{◌≡◌, refl, sym, ◌∙◌, ap, ap₂}
use mathlib.Core.List.{[], ◌∷◌}
use Prim.Native.Nat.{ℕ, zero, suc, ◌+◌, ◌-◌, ◌*◌, ◌^◌, ◌≤◌, ◌<◌}
use native.Mathlib.Nat.{le_refl, le_step, le_trans, add-le-add, add-zero, add-suc, sub-zero, suc-sub-suc}
use native.Mathlib.Decide.{ℕ_discrete}
use native.Mathlib.Omega.{arith}
use lib.IntN.{ℤ, pos, neg_ℤ, nat_abs, ◌+ℤ◌, ◌-ℤ◌, ◌*ℤ◌, *ℤ-zero, neg_ℤ-+ℤ, +ℤ_assoc, +ℤ_comm, +ℤ_idr}
use Rattle.algebra.specs.Sums.{sum_to}
use Rattle.algebra.proofs.Integer.{*ℤ-+ℤ, +ℤ-right-comm, nat_abs-+ℤ-le}
use Rattle.algebra.proofs.Ring.{variable, ◌⊕◌, ring}

-- 1 + 2 + 4 + 8
powers-worked : sum_to 4 (λ j. pos (2 ^ j)) ≡ pos 15
unfolding sum_to
powers-worked = refl

-- the sum of sums is taken summand by summand
pub sum_to-+ℤ : (n : ℕ) (f g : ℕ → ℤ) → sum_to n (λ j. f j +ℤ g j) ≡ sum_to n f +ℤ sum_to n g
unfolding sum_to
sum_to-+ℤ zero f g = refl
sum_to-+ℤ (suc n) f g = ap (λ z. z +ℤ (f n +ℤ g n)) (sum_to-+ℤ n f g) ∙ inner-exchange (sum_to n f) (sum_to n g) (f n) (g n)
  where
    inner-exchange : (a b c d : ℤ) → (a +ℤ b) +ℤ (c +ℤ d) ≡ (a +ℤ c) +ℤ (b +ℤ d)
    inner-exchange a b c d =
        let x = variable 0 in let y = variable 1 in let z = variable 2 in let t = variable 3 in
        ring ((x ⊕ y) ⊕ (z ⊕ t)) ((x ⊕ z) ⊕ (y ⊕ t)) tt (a ∷ b ∷ c ∷ d ∷ [])

-- a constant factor is taken out of the sum
pub sum_to-*ℤ : (n : ℕ) (k : ℤ) (f : ℕ → ℤ) → sum_to n (λ j. k *ℤ f j) ≡ k *ℤ sum_to n f
unfolding sum_to
sum_to-*ℤ zero k f = sym (*ℤ-zero k)
sum_to-*ℤ (suc n) k f = ap (λ z. z +ℤ k *ℤ f n) (sum_to-*ℤ n k f) ∙ sym (*ℤ-+ℤ k (sum_to n f) (f n))

-- a sum of negated summands, and so of differences
pub sum_to-negℤ : (n : ℕ) (f : ℕ → ℤ) → sum_to n (λ j. neg_ℤ (f j)) ≡ neg_ℤ (sum_to n f)
unfolding sum_to
sum_to-negℤ zero f = refl
sum_to-negℤ (suc n) f = ap (λ z. z -ℤ f n) (sum_to-negℤ n f) ∙ sym (neg_ℤ-+ℤ (sum_to n f) (f n))

pub sum_to--ℤ : (n : ℕ) (f g : ℕ → ℤ) → sum_to n (λ j. f j -ℤ g j) ≡ sum_to n f -ℤ sum_to n g
sum_to--ℤ n f g = sum_to-+ℤ n f (λ j. neg_ℤ (g j)) ∙ ap (λ z. sum_to n f +ℤ z) (sum_to-negℤ n g)

-- n summands of absolute value at most b have a sum of absolute value at most n · b
pub sum_to-nat_abs-le : (n b : ℕ) (f : ℕ → ℤ) → ((j : ℕ) → j < n → nat_abs (f j) ≤ b) → nat_abs (sum_to n f) ≤ n * b
unfolding sum_to
sum_to-nat_abs-le zero b f h = omega arith
sum_to-nat_abs-le (suc n) b f h =
    le_trans (nat_abs-+ℤ-le (sum_to n f) (f n))
    (le_trans (add-le-add (sum_to-nat_abs-le n b f (λ j l. h j (le_step l))) (h n (le_refl (suc n)))) (omega arith))

-- summands that are 0 but for the one at a place: the sum is no farther from 0 than that one
pub sum_to-one-nat_abs-le :
    (n place : ℕ) (f : ℕ → ℤ) → ((j : ℕ) → ¬ (j ≡ place) → f j ≡ pos 0) → nat_abs (sum_to n f) ≤ nat_abs (f place)
unfolding sum_to
sum_to-one-nat_abs-le zero place f zeros = omega arith
sum_to-one-nat_abs-le (suc n) place f zeros = either (sum_to-one-nat_abs-le n place f zeros) (ℕ_discrete n place)
  where
    either : nat_abs (sum_to n f) ≤ nat_abs (f place) → Dec (n ≡ place) → nat_abs (sum_to n f +ℤ f n) ≤ nat_abs (f place)
    either before (yes here) =
        omega (
          arith,
          nat_abs-+ℤ-le (sum_to n f) (f n),
          sum_to-nat_abs-le n 0 f (λ j l. rw (zeros j (λ e. omega arith)) (omega arith)),
          ap (λ j. nat_abs (f j)) here,
        )
    either before (no elsewhere) = omega (arith, nat_abs-+ℤ-le (sum_to n f) (f n), before, ap nat_abs (zeros n elsewhere))

-- the same summands
pub sum_to-same : (n : ℕ) (f g : ℕ → ℤ) → ((j : ℕ) → j < n → f j ≡ g j) → sum_to n f ≡ sum_to n g
unfolding sum_to
sum_to-same zero f g same = refl
sum_to-same (suc n) f g same =
    ap₂ ◌+ℤ◌ (sum_to-same n f g (λ j l. same j (le_step l))) (same n (le_refl (suc n)))

-- a sum in two parts, and the part that is the first summand alone
pub sum_to-parts : (n m : ℕ) (f : ℕ → ℤ) → sum_to (n + m) f ≡ sum_to n f +ℤ sum_to m (λ j. f (n + j))
unfolding sum_to
sum_to-parts n zero f = rw (add-zero n) (sym (+ℤ_idr (sum_to n f)))
sum_to-parts n (suc m) f =
    rw (add-suc n m) (ap (λ z. z +ℤ f (n + m)) (sum_to-parts n m f) ∙ +ℤ_assoc (sum_to n f) (sum_to m (λ j. f (n + j))) (f (n + m)))

pub sum_to-first : (n : ℕ) (f : ℕ → ℤ) → sum_to (suc n) f ≡ f 0 +ℤ sum_to n (λ j. f (suc j))
unfolding sum_to
sum_to-first zero f = +ℤ_comm (pos 0) (f 0)
sum_to-first (suc n) f =
    ap (λ z. z +ℤ f (suc n)) (sum_to-first n f) ∙ +ℤ_assoc (f 0) (sum_to n (λ j. f (suc j))) (f (suc n))

-- the last summand first
pub sum_to-reversed : (n : ℕ) (f : ℕ → ℤ) → sum_to n (λ j. f (n - suc j)) ≡ sum_to n f
unfolding sum_to
sum_to-reversed zero f = refl
sum_to-reversed (suc n) f =
    sum_to-same (suc n) _ (λ j. f (n - j)) (λ j below. ap f (suc-sub-suc n j))
    ∙ sum_to-first n (λ j. f (n - j))
    ∙ ap₂ (λ a z. f a +ℤ z) (sub-zero n) (sum_to-reversed n f)
    ∙ +ℤ_comm (f n) (sum_to n f)

-- an odd number of summands: those at the same distance from the middle together, and the middle
pub sum_to-pairs : (n : ℕ) (f : ℕ → ℤ) → sum_to (2 * n + 1) f ≡ sum_to n (λ j. f j +ℤ f (2 * n - j)) +ℤ f n
sum_to-pairs n f =
    let middle-first : 2 * n + 1 ≡ n + suc n = omega arith in
    rw middle-first
    (sum_to-parts n (suc n) f
    ∙ ap (λ z. sum_to n f +ℤ z) (sum_to-first n (λ j. f (n + j)) ∙ ap₂ (λ a z. f a +ℤ z) (add-zero n) after-the-middle)
    ∙ sym (+ℤ_assoc (sum_to n f) (f n) (sum_to n (λ j. f (2 * n - j))))
    ∙ +ℤ-right-comm (sum_to n f) (f n) (sum_to n (λ j. f (2 * n - j)))
    ∙ ap (λ z. z +ℤ f n) (sym (sum_to-+ℤ n f (λ j. f (2 * n - j)))))
  where
    after-the-middle : sum_to n (λ j. f (n + suc j)) ≡ sum_to n (λ j. f (2 * n - j))
    after-the-middle =
        sym (sum_to-reversed n (λ j. f (n + suc j)))
        ∙ sum_to-same n _ _ (λ j below. let mirrored : n + suc (n - suc j) ≡ 2 * n - j = omega arith in ap f mirrored)
