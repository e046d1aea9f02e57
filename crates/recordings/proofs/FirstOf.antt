-- Laws of the first refusal of some places in their order, and of checks that come after a refusal.
use mathlib.Core.Bool.{Bool, true, false, cond, not}
use mathlib.Core.Logic.{⊎_elim}
use mathlib.Core.Path.{◌≡◌, refl, sym, ◌∙◌}
use Prim.Native.Nat.{ℕ, zero, suc, ◌+◌, ◌-◌, ◌<◌, ◌≤◌}
use native.Mathlib.Decide.{ℕ_discrete}
use native.Mathlib.Nat.{add-zero, add-suc, eq-or-lt_of_le, le_of_suc-le-suc, not-suc-le-zero}
use native.Mathlib.Numerals.{add-one}
use native.Mathlib.Omega.{arith}
use borrow.Author.Tests.{eq-eqb, ne_eqb}
use lib.Dec.{eqb}
use Rattle.refusals.specs.Numbers.{no_refusal}
use Rattle.recordings.specs.InputRefusal.{first_of}

module _ (refusal : ℕ → ℕ) where
  -- where the first m places have none, it is that of the places after them
  pub first_of-after-none : (m n : ℕ) → first_of refusal m ≡ no_refusal → first_of refusal (m + n) ≡ first_of (λ j. refusal (m + j)) n
  unfolding first_of
  first_of-after-none m zero e = rw (add-zero m) e
  first_of-after-none m (suc n) e = rw (add-suc m n, first_of-after-none m n e)

  -- where the first m places have one, it stays
  pub first_of-stays : (m n : ℕ) → (first_of refusal m ≡ no_refusal → ⊥) → first_of refusal (m + n) ≡ first_of refusal m
  unfolding first_of
  first_of-stays m zero e = rw (add-zero m)
  first_of-stays m (suc n) e = rw (add-suc m n, first_of-stays m n e, ne_eqb (first_of refusal m) no_refusal e)

  -- one place more
  pub first_of-next : (n : ℕ) → first_of refusal n ≡ no_refusal → first_of refusal (n + 1) ≡ refusal n
  unfolding first_of
  first_of-next n e = rw (add-one n, eq-eqb (first_of refusal n) no_refusal e)

  -- the place that has the first one
  pub first_of-found : (n m : ℕ) → first_of refusal n ≡ no_refusal → (refusal n ≡ no_refusal → ⊥) → n < m → first_of refusal m ≡ refusal n
  first_of-found n m e f h =
      let here = first_of-next n e in
      let split : n + 1 + (m - (n + 1)) ≡ m = omega arith in
      rw split at (first_of-stays (n + 1) (m - (n + 1)) (λ z. f (sym here ∙ z))) ∙ here

  pub first_of-none-at : (n i : ℕ) → first_of refusal n ≡ no_refusal → i < n → refusal i ≡ no_refusal
  unfolding first_of
  first_of-none-at zero i e h = absurd (not-suc-le-zero h)
  first_of-none-at (suc n) i e h = by_first (first_of-none-at n i) (ℕ_discrete (first_of refusal n) no_refusal)
    where
      by_first : (first_of refusal n ≡ no_refusal → i < n → refusal i ≡ no_refusal) → Dec (first_of refusal n ≡ no_refusal)
          → refusal i ≡ no_refusal
      by_first earlier (yes z) =
          ⊎_elim
          (λ (s : i ≡ n). rw s (rw (eq-eqb (first_of refusal n) no_refusal z) at e))
          (λ (l : i < n). earlier z l)
          (eq-or-lt_of_le (le_of_suc-le-suc h))
      by_first earlier (no f) = absurd (f (rw (ne_eqb (first_of refusal n) no_refusal f) at e))

  -- no refusal above a limit
  pub first_of-le : (limit n : ℕ) → ((i : ℕ) → refusal i ≤ limit) → first_of refusal n ≤ limit
  unfolding first_of
  first_of-le limit zero h = omega arith
  first_of-le limit (suc n) h = by_first (first_of-le limit n h) (ℕ_discrete (first_of refusal n) no_refusal)
    where
      by_first : first_of refusal n ≤ limit → Dec (first_of refusal n ≡ no_refusal) → first_of refusal (suc n) ≤ limit
      by_first earlier (yes z) = rw (eq-eqb (first_of refusal n) no_refusal z) (h n)
      by_first earlier (no f) = rw (ne_eqb (first_of refusal n) no_refusal f) earlier

-- the same refusals have the same first one
pub first_of-same : (refusal other : ℕ → ℕ) (n : ℕ) → ((i : ℕ) → i < n → refusal i ≡ other i) → first_of refusal n ≡ first_of other n
unfolding first_of
first_of-same refusal other zero h = refl
first_of-same refusal other (suc n) h =
    rw (first_of-same refusal other n (λ i l. h i (omega arith)), h n (omega arith))

-- where the last place has a further check after its own, that check comes after the first of all
pub first_of-with-last : (refusal other : ℕ → ℕ) (n further : ℕ) → ((i : ℕ) → i < n → refusal i ≡ other i)
    → refusal n ≡ cond (eqb (other n) no_refusal) further (other n)
    → first_of refusal (n + 1) ≡ cond (eqb (first_of other (n + 1)) no_refusal) further (first_of other (n + 1))
unfolding first_of
first_of-with-last refusal other n further h e =
    rw (add-one n, first_of-same refusal other n h) (by_first (ℕ_discrete (first_of other n) no_refusal))
  where
    by_first : Dec (first_of other n ≡ no_refusal)
        → cond (eqb (first_of other n) no_refusal) (refusal n) (first_of other n)
        ≡ cond (eqb (cond (eqb (first_of other n) no_refusal) (other n) (first_of other n)) no_refusal) further
        (cond (eqb (first_of other n) no_refusal) (other n) (first_of other n))
    by_first (yes z) = rw (eq-eqb (first_of other n) no_refusal z) e
    by_first (no f) = rw (ne_eqb (first_of other n) no_refusal f, ne_eqb (first_of other n) no_refusal f)

-- ---- checks after a refusal

pub no-earlier : (refusal rest : ℕ) → cond (not (eqb refusal no_refusal)) refusal rest ≡ no_refusal
    → (refusal ≡ no_refusal) × (rest ≡ no_refusal)
no-earlier zero rest e = (refl, e)
no-earlier (suc n) rest e = absurd (omega (arith, rw (ne_eqb (suc n) no_refusal (λ z. omega arith)) at e))

pub cond-le : (test : Bool) (a b limit : ℕ) → a ≤ limit → b ≤ limit → cond test a b ≤ limit
cond-le true a b limit h l = h
cond-le false a b limit h l = l
