-- Lowest terms (specs/LowestTerms.antt): equal to the fraction, with the least denominator of all that are equal to it, and so with no common divisor but 1.
use mathlib.Core.Bool.{Bool, true, false, true≢false, cond}
use mathlib.Core.List.{List, [], ◌∷◌, map}
use mathlib.Core.Path.{◌≡◌, refl, sym, ◌∙◌}
use Prim.Native.Nat.{ℕ, zero, suc, ◌-◌, ◌*◌, ◌%◌, ◌≤◌, ◌<◌}
use native.Mathlib.Nat.{div-add-mod, mul-mod_left, eq_of_mul-eq-mul_left}
use native.Mathlib.Omega.{arith}
use lib.Dec.{lit<}
use borrow.Author.Tests.{eqb-true, eq-eqb}
use Rattle.algebra.specs.Fraction.{Fraction, whole, ◌≈ᶠ◌}
use Rattle.algebra.specs.LowestTerms.{least, is_whole_over, least_denominator, lowest_terms}

-- ---- the least number that passes

-- 0, or one more than the least of the numbers after it
by_first : (passes : ℕ → Bool) (n : ℕ) (P : ℕ → Type 0) → (passes 0 ≡ true → P 0) → (passes 0 ≡ false → P (suc (least (λ k. passes (suc k)) n))) → P (least passes (suc n))
unfolding least
by_first passes n P here later = go (passes 0) refl
  where
    go : (b : Bool) → passes 0 ≡ b → P (cond b 0 (suc (least (λ k. passes (suc k)) n)))
    go true e = here e
    go false e = later e

least-passes : (passes : ℕ → Bool) (n k : ℕ) → k ≤ n → passes k ≡ true → passes (least passes n) ≡ true
unfolding least
least-passes passes zero zero h passed = passed
least-passes passes zero (suc k) h passed = absurd (omega arith)
least-passes passes (suc n) zero h passed =
    by_first passes n (λ r. passes r ≡ true) (λ e. e) (λ e. absurd (true≢false (sym passed ∙ e)))
least-passes passes (suc n) (suc k) h passed =
    let later = least-passes (λ j. passes (suc j)) n k (omega arith) passed in
    by_first passes n (λ r. passes r ≡ true) (λ e. e) (λ e. later)

least-le : (passes : ℕ → Bool) (n k : ℕ) → passes k ≡ true → least passes n ≤ k
unfolding least
least-le passes zero k passed = omega arith
least-le passes (suc n) zero passed =
    by_first passes n (λ r. r ≤ 0) (λ e. omega arith) (λ e. absurd (true≢false (sym passed ∙ e)))
least-le passes (suc n) (suc k) passed =
    let later = least-le (λ j. passes (suc j)) n k passed in
    by_first passes n (λ r. r ≤ suc k) (λ e. omega arith) (λ e. omega arith)

-- ---- lowest terms

module _ (p : Fraction) where
  -- an equal fraction is whole over its denominator
  is_whole_over-equal : (q : Fraction) → q ≈ᶠ p → is_whole_over p (q.den - 1) ≡ true
  is_whole_over-equal q equal =
      let positive = q.den_pos in
      let den-is : suc (q.den - 1) ≡ q.den = omega arith in
      let product : p.num * suc (q.den - 1) ≡ q.num * p.den = rw den-is (sym equal) in
      let no-rest : p.num * suc (q.den - 1) % p.den ≡ 0 = rw product (mul-mod_left q.num p.den) in
      eq-eqb (p.num * suc (q.den - 1) % p.den) 0 no-rest

  -- equal by cross products
  pub lowest_terms-≈ᶠ : lowest_terms p ≈ᶠ p
  unfolding lowest_terms least_denominator
  lowest_terms-≈ᶠ =
      let passed = least-passes (is_whole_over p) p.den (p.den - 1) (omega arith) (is_whole_over-equal p refl) in
      let no-rest : p.num * least_denominator p % p.den ≡ 0 = eqb-true _ 0 passed in
      omega (arith, div-add-mod (p.num * least_denominator p) p.den)

  pub lowest_terms-least : (q : Fraction) → q ≈ᶠ p → (lowest_terms p).den ≤ q.den
  unfolding lowest_terms least_denominator
  lowest_terms-least q equal =
      omega (arith, q.den_pos, least-le (is_whole_over p) p.den (q.den - 1) (is_whole_over-equal q equal))

  -- no number but 1 divides both parts
  pub lowest_terms-coprime : (d n m : ℕ) → (lowest_terms p).num ≡ d * n → (lowest_terms p).den ≡ d * m → d ≡ 1
  lowest_terms-coprime zero n m num-is den-is = absurd (omega (arith, (lowest_terms p).den_pos))
  lowest_terms-coprime (suc d) n zero num-is den-is = absurd (omega (arith, (lowest_terms p).den_pos))
  lowest_terms-coprime (suc d) n (suc m) num-is den-is =
      let divided : Fraction = record { num = n; den = suc m; den_pos = omega arith } in
      let cross : suc d * n * p.den ≡ p.num * (suc d * suc m) = rw (num-is, den-is) at lowest_terms-≈ᶠ in
      let equal : divided ≈ᶠ p =
      eq_of_mul-eq-mul_left (suc d) (omega arith) (n * p.den) (p.num * suc m) (omega (arith, cross)) in
      omega (arith, lowest_terms-least divided equal)

-- ---- worked

over : (d : ℕ) → 0 < d → ℕ → Fraction
over d positive n = record { num = n; den = d; den_pos = positive }

lowest_terms-worked :
    ◌≡◌ {A = List (ℕ × ℕ)}
    (map (λ p. ((lowest_terms p).num, (lowest_terms p).den))
    (whole 7 ∷ over 8 (lit< tt) 1840 ∷ over 39 (lit< tt) 2250 ∷ over 12 (lit< tt) 0 ∷ over 4 (lit< tt) 6 ∷ over 3 (lit< tt) 7 ∷ over 21 (lit< tt) 14 ∷ []))
    ((7, 1) ∷ (230, 1) ∷ (750, 13) ∷ (0, 1) ∷ (3, 2) ∷ (7, 3) ∷ (2, 3) ∷ [])
unfolding over whole lowest_terms least_denominator least
lowest_terms-worked = refl
