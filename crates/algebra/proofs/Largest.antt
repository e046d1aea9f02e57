-- The law of `largest` (specs/Largest.antt): for a test that passes at 0, stays failed once failed and fails at 2^b, it passes and its successor does not, and no other number is so.
-- The second half says the same of the largest t with f t ≤ n, f never falling: the form of an integer root and of the group distortion.
use mathlib.Core.Bool.{Bool, true, false, cond}
use mathlib.Core.Path.{◌≡◌, refl}
use Prim.Native.Nat.{ℕ, zero, suc, ◌+◌, ◌*◌, ◌-◌, ◌^◌, ◌≤◌, ◌<◌}
use native.Mathlib.Nat.{le_trans, le_antisymm, le_of_suc-le-suc}
use native.Mathlib.Omega.{arith, by_contra}
use lib.Dec.{T, leb, leb→le, le→leb, lit≤, lit<}
use Rattle.algebra.specs.Largest.{largest}

-- the root of 10 is 3, and of 8 it is 2
roots-worked : (largest (λ t. leb (t * t) 10) 2 ≡ 3) × (largest (λ t. leb (t * t) 8) 2 ≡ 2)
unfolding largest
roots-worked = (refl, refl)

-- a test with a last number that passes, below 2^b
pub record Threshold (passes : ℕ → Bool) (b : ℕ) : Type 0 where
  pub at_zero : T (passes 0)
  pub below : (t : ℕ) → T (passes (suc t)) → T (passes t)
  pub beyond : ¬ T (passes (2 ^ b))

-- t is the last number that passes
pub record Last (passes : ℕ → Bool) (t : ℕ) : Type 0 where
  pub passed : T (passes t)
  pub next-fails : ¬ T (passes (suc t))

-- a test at equal numbers
pass-eq : (passes : ℕ → Bool) {m n : ℕ} → m ≡ n → T (passes m) → T (passes n)
pass-eq passes e p = rw e at p

half-threshold : {passes : ℕ → Bool} {b : ℕ} → Threshold passes (suc b) → Threshold (λ t. passes (2 * t)) b
half-threshold {passes} {b} r = record {
  at_zero = r.at_zero;
  below = λ t p. r.below (2 * t) (r.below (suc (2 * t)) (pass-eq passes (omega arith) p));
  beyond = λ p. r.beyond (pass-eq passes (omega arith) p);
}

-- from the largest h whose double passes to the last number that passes, by the digit below
last-digit : (passes : ℕ → Bool) (h : ℕ) → Last (λ t. passes (2 * t)) h → Last passes (cond (passes (2 * h + 1)) (2 * h + 1) (2 * h))
last-digit passes h l = go (passes (2 * h + 1)) refl
  where
    go : (odd : Bool) → passes (2 * h + 1) ≡ odd → Last passes (cond odd (2 * h + 1) (2 * h))
    go true e = record {
      passed = rw e tt;
      next-fails = λ p. l.next-fails (pass-eq passes (omega arith) p);
    }
    go false e = record {
      passed = l.passed;
      next-fails = λ p. rw e at (pass-eq passes {n = 2 * h + 1} (omega arith) p);
    }

pub largest-last : (passes : ℕ → Bool) (b : ℕ) → Threshold passes b → Last passes (largest passes b)
unfolding largest
largest-last passes zero r = record { passed = r.at_zero; next-fails = r.beyond }
largest-last passes (suc b) r =
    last-digit passes _ (largest-last (λ t. passes (2 * t)) b (half-threshold r))

-- a test that passes passes at every number below, so there is one last number
module _ (passes : ℕ → Bool) (below : (t : ℕ) → T (passes (suc t)) → T (passes t)) where
  pass-down : (k m : ℕ) → T (passes (k + m)) → T (passes m)
  pass-down zero m p = pass-eq passes (omega arith) p
  pass-down (suc k) m p = pass-down k m (below (k + m) (pass-eq passes (omega arith) p))

  passed-le : {s t : ℕ} → T (passes s) → Last passes t → s ≤ t
  passed-le {s} {t} p l =
      by_contra s t λ h. l.next-fails (pass-down (s - suc t) (suc t) (pass-eq passes (omega arith) p))

  last-unique : {s t : ℕ} → Last passes s → Last passes t → s ≡ t
  last-unique ls lt = le_antisymm (passed-le ls.passed lt) (passed-le lt.passed ls)

pub largest-unique : (passes : ℕ → Bool) (b : ℕ) → Threshold passes b → {t : ℕ} → Last passes t → t ≡ largest passes b
largest-unique passes b r l = last-unique passes r.below l (largest-last passes b r)

-- the largest t with f t ≤ n, where f never falls, is at most n at 0 and is above n at 2^b
pub record Bounded (f : ℕ → ℕ) (n b : ℕ) : Type 0 where
  pub at_zero : f 0 ≤ n
  pub rising : (t : ℕ) → f t ≤ f (suc t)
  pub beyond : n < f (2 ^ b)

bounded-threshold : {f : ℕ → ℕ} {n b : ℕ} → Bounded f n b → Threshold (λ t. leb (f t) n) b
bounded-threshold {f} {n} {b} r = record {
  at_zero = le→leb (f 0) n r.at_zero;
  below = λ t p. le→leb (f t) n (le_trans (r.rising t) (leb→le (f (suc t)) n p));
  beyond = λ p. let h : f (2 ^ b) ≤ n = leb→le (f (2 ^ b)) n p in omega (arith, r.beyond);
}

pub largest-le : (f : ℕ → ℕ) (n b : ℕ) → Bounded f n b → f (largest (λ t. leb (f t) n) b) ≤ n
largest-le f n b r =
    leb→le (f _) n (largest-last (λ t. leb (f t) n) b (bounded-threshold r)).passed

pub largest-suc-gt : (f : ℕ → ℕ) (n b : ℕ) → Bounded f n b → n < f (suc (largest (λ t. leb (f t) n) b))
largest-suc-gt f n b r =
    by_contra (suc n) (f _) λ h. (largest-last (λ t. leb (f t) n) b (bounded-threshold r)).next-fails (le→leb (f _) n (le_of_suc-le-suc h))

-- no larger number is so
pub largest-ge : (f : ℕ → ℕ) (n b : ℕ) → Bounded f n b → {t : ℕ} → f t ≤ n → t ≤ largest (λ t. leb (f t) n) b
largest-ge f n b r {t} h =
    let threshold = bounded-threshold r in
    passed-le (λ t. leb (f t) n) threshold.below (le→leb (f t) n h) (largest-last (λ t. leb (f t) n) b threshold)

pub largest-eq : (f : ℕ → ℕ) (n b : ℕ) → Bounded f n b → {t : ℕ} → f t ≤ n → n < f (suc t) → t ≡ largest (λ t. leb (f t) n) b
largest-eq f n b r {t} h k =
    largest-unique (λ t. leb (f t) n) b (bounded-threshold r) (record {
      passed = le→leb (f t) n h;
      next-fails = λ p. let q : f (suc t) ≤ n = leb→le (f (suc t)) n p in omega arith;
    })

-- the hypotheses can be met
ten-bounded : Bounded (λ t. t * t) 10 2
ten-bounded = record { at_zero = lit≤ tt; rising = λ t. omega arith; beyond = lit< tt }
