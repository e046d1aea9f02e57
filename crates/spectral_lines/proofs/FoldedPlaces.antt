-- Folding changes no sum (card 13): the laws of one folding between any two places, over any half length.
use mathlib.Core.Bool.{Bool, true, false, cond, ◌||◌}
use mathlib.Core.List.{[], ◌∷◌, map}
use mathlib.Core.Path.{◌≡◌, refl, sym, ap, ap₂, ◌∙◌}
use Prim.Native.Nat.{ℕ, suc, ◌+◌, ◌-◌, ◌*◌, ◌≤◌, ◌<◌}
use native.Mathlib.Nat.{add-zero}
use native.Mathlib.Omega.{arith}
use borrow.Author.Tests.{lt-ltb, le-ltb}
use lib.Dec.{ltb}
use lib.IntN.{ℤ, pos, neg_ℤ, ◌+ℤ◌, ◌-ℤ◌, ◌*ℤ◌, +ℤ_comm, +ℤ_idl, *ℤ-zero}
use Rattle.algebra.specs.Sums.{sum_to}
use Rattle.algebra.proofs.Integer.{+ℤ-*ℤ}
use Rattle.algebra.proofs.Ring.{variable, ◌⊕◌, ◌⊖◌, ◌⊗◌, ⊝◌, ring}
use Rattle.algebra.proofs.SumTo.{sum_to-same, sum_to-first, sum_to-reversed, sum_to-pairs}
use Rattle.spectral_lines.specs.Folding.{folded, place_sum}

-- ---- what a place holds

or-true : (b : Bool) → (b || true) ≡ true
or-true true = refl
or-true false = refl

either : (b : Bool) (z : ℤ) → cond b z z ≡ z
either true z = refl
either false z = refl

module _ (first last : ℕ) (f : ℕ → ℤ) (p : ℕ) where
  pub folded-before : p < first → folded first last f p ≡ f p
  unfolding folded
  folded-before h = rw (lt-ltb p first h)

  pub folded_after : last < p → folded first last f p ≡ f p
  unfolding folded
  folded_after h = rw (lt-ltb last p h, or-true (ltb p first))

  pub folded_low : first ≤ p → p + p < first + last → folded first last f p ≡ f p +ℤ f (first + last - p)
  unfolding folded
  folded_low above low =
      rw (le-ltb p first above, le-ltb last p (omega arith), lt-ltb (p + p) (first + last) low)

  pub folded-middle : p + p ≡ first + last → folded first last f p ≡ f p
  unfolding folded
  folded-middle e =
      rw (le-ltb (p + p) (first + last) (omega arith), le-ltb (first + last) (p + p) (omega arith)) (either (ltb p first || ltb last p) (f p))

  pub folded-high : p ≤ last → first + last < p + p → folded first last f p ≡ f p -ℤ f (first + last - p)
  unfolding folded
  folded-high below high =
      rw (le-ltb p first (omega arith), le-ltb last p below, le-ltb (p + p) (first + last) (omega arith), lt-ltb (first + last) (p + p) high)

-- worked: the squares of 0..8, folded between 1 and 7
folded-worked :
    map (folded 1 7 (λ p. pos (p * p))) (0 ∷ 1 ∷ 2 ∷ 3 ∷ 4 ∷ 5 ∷ 6 ∷ 7 ∷ 8 ∷ [])
    ≡ pos 0 ∷ pos 50 ∷ pos 40 ∷ pos 34 ∷ pos 16 ∷ pos 16 ∷ pos 32 ∷ pos 48 ∷ pos 64 ∷ []
unfolding folded
folded-worked = refl

-- ---- sums over places

module _ (first : ℕ) (wave : ℕ → ℤ) where
  pub place_sum-same : (count : ℕ) (f g : ℕ → ℤ) → ((i : ℕ) → i < count → f (first + i) ≡ g (first + i)) → place_sum first count f wave ≡ place_sum first count g wave
  unfolding place_sum
  place_sum-same count f g same = sum_to-same count _ _ (λ i below. ap (λ z. z *ℤ wave (first + i)) (same i below))

  -- the first place alone
  pub place_sum-first : (count : ℕ) (f : ℕ → ℤ) → place_sum first (suc count) f wave ≡ f first *ℤ wave first +ℤ place_sum (suc first) count f wave
  unfolding place_sum
  place_sum-first count f =
      sum_to-first count _
      ∙ ap₂ ◌+ℤ◌
      (ap (λ p. f p *ℤ wave p) (add-zero first))
      (sum_to-same count _ _ (λ i below. let next : first + suc i ≡ suc first + i = omega arith in ap (λ p. f p *ℤ wave p) next))

  -- the last place alone
  pub place_sum-last : (count : ℕ) (f : ℕ → ℤ) → place_sum first (suc count) f wave ≡ place_sum first count f wave +ℤ f (first + count) *ℤ wave (first + count)
  unfolding place_sum sum_to
  place_sum-last count f = refl

  -- a place where the wave is 0 may be left out
  pub place_sum-rest : (count : ℕ) (f : ℕ → ℤ) → wave first ≡ pos 0 → place_sum first (suc count) f wave ≡ place_sum (suc first) count f wave
  place_sum-rest count f none =
      let rest = place_sum (suc first) count f wave in
      place_sum-first count f
      ∙ ap (λ z. f first *ℤ z +ℤ rest) none
      ∙ ap (λ z. z +ℤ rest) (*ℤ-zero (f first))
      ∙ +ℤ_idl rest

-- ---- the laws: between first and last, n places on either side of the middle, a wave that is the same at mirrored places leaves the lower half, and one that is opposite the upper half, each with the middle

module _ (first n middle last : ℕ) (is-middle : middle ≡ first + n) (is_last : last ≡ first + 2 * n) (f wave : ℕ → ℤ) where
  -- the two summands of a pair
  abbrev pair_summands : ℕ → ℤ
  pair_summands i = f (first + i) *ℤ wave (first + i) +ℤ f (last - i) *ℤ wave (last - i)

  place_sum-pairs : place_sum first (2 * n + 1) f wave ≡ sum_to n pair_summands +ℤ f middle *ℤ wave middle
  unfolding place_sum
  place_sum-pairs =
      sum_to-pairs n (λ i. f (first + i) *ℤ wave (first + i))
      ∙ ap₂ ◌+ℤ◌
      (sum_to-same n _ pair_summands (λ i below.
      let mirrored : first + (2 * n - i) ≡ last - i = omega arith in
      ap (λ p. f (first + i) *ℤ wave (first + i) +ℤ f p *ℤ wave p) mirrored))
      (ap (λ p. f p *ℤ wave p) (sym is-middle))

  kept : folded first last f middle ≡ f middle
  kept = folded-middle first last f middle (omega arith)

  pub fold_same : ((i : ℕ) → i < n → wave (last - i) ≡ wave (first + i)) → place_sum first (2 * n + 1) f wave ≡ place_sum first (suc n) (folded first last f) wave
  unfolding place_sum sum_to
  fold_same same =
      place_sum-pairs
      ∙ ap₂ ◌+ℤ◌
      (sum_to-same n pair_summands _ (λ i below.
      let mirrored : first + last - (first + i) ≡ last - i = omega arith in
      let low = folded_low first last f (first + i) (omega arith) (omega arith) in
      rw (low, mirrored, same i below) (sym (+ℤ-*ℤ (f (first + i)) (f (last - i)) (wave (first + i))))))
      (ap (λ z. z *ℤ wave middle) (sym kept) ∙ ap (λ p. folded first last f p *ℤ wave p) is-middle)

  pub fold-opposite : ((i : ℕ) → i < n → wave (last - i) ≡ neg_ℤ (wave (first + i))) → place_sum first (2 * n + 1) f wave ≡ place_sum middle (suc n) (folded first last f) wave
  unfolding place_sum
  fold-opposite opposite =
      place_sum-pairs
      ∙ +ℤ_comm (sum_to n pair_summands) (f middle *ℤ wave middle)
      ∙ ap₂ ◌+ℤ◌ (ap (λ z. z *ℤ wave middle) (sym kept)) upper
      ∙ sym (place_sum-first middle wave n (folded first last f))
    where
      taken-away : (a b w : ℤ) → a *ℤ w +ℤ b *ℤ neg_ℤ w ≡ (b -ℤ a) *ℤ neg_ℤ w
      taken-away a b w =
          let x = variable 0 in let y = variable 1 in let z = variable 2 in
          ring (x ⊗ z ⊕ y ⊗ ⊝ z) ((y ⊖ x) ⊗ ⊝ z) tt (a ∷ b ∷ w ∷ [])

      upper : sum_to n pair_summands ≡ place_sum (suc middle) n (folded first last f) wave
      upper =
          sum_to-same n pair_summands _ (λ i below.
          let place : suc middle + (n - suc i) ≡ last - i = omega arith in
          let mirrored : first + last - (last - i) ≡ first + i = omega arith in
          let high = folded-high first last f (last - i) (omega arith) (omega arith) in
          rw (place, high, mirrored, opposite i below) (taken-away (f (first + i)) (f (last - i)) (wave (first + i))))
          ∙ sum_to-reversed n (λ i. folded first last f (suc middle + i) *ℤ wave (suc middle + i))
