-- How large a folded window's numbers are (card 13): each folding at most doubles them, and the places that a halving leaves are so many fewer that no sum over them passes the whole sum's bound.
use mathlib.Core.Bool.{Bool, true, false, cond, ◌||◌}
use mathlib.Core.List.{List}
use mathlib.Core.Logic.{⊎_elim}
use mathlib.Core.Path.{◌≡◌, ap, ◌∙◌}
use Prim.Native.Nat.{ℕ, zero, suc, ◌+◌, ◌-◌, ◌*◌, ◌^◌, ◌≤◌, ◌<◌}
use native.Mathlib.Nat.{eq-or-lt_of_le, le_of_suc-le-suc, not-suc-le-zero, mul-le-mul_right, le_trans, pow-succ'}
use native.Mathlib.Decide.{dec_lt, dec_le}
use native.Mathlib.Omega.{arith}
use lib.Dec.{ltb}
use lib.IntN.{ℤ, neg_ℤ, nat_abs, ◌+ℤ◌, ◌-ℤ◌}
use lib.Pow.{pow_pos}
use Rattle.std.specs.List.{list_any}
use Rattle.algebra.proofs.Integer.{nat_abs-+ℤ-le, nat_abs-negℤ}
use Rattle.windows.specs.Window.{largest_sample, out_of_range, InRange}
use Rattle.spectral_lines.specs.Folding.{held_by, folded, paired}
use Rattle.folding.specs.Halving.{largest_folded, Bounded, halved, halved_from, folded_window}
use Rattle.windows.proofs.Samples.{sample-le}
use Rattle.spectral_lines.proofs.FoldedPlaces.{folded_after}
use Rattle.folding.proofs.HalvedSums.{at-most-512, low-places, halved_from-keeps}

cond-bounded : (test : Bool) (x y : ℤ) (bound : ℕ) → nat_abs x ≤ bound → nat_abs y ≤ bound → nat_abs (cond test x y) ≤ bound
cond-bounded true x y bound g h = g
cond-bounded false x y bound g h = h

-- a folding at most doubles
pub folded-at-most : (first last bound : ℕ) (f : ℕ → ℤ) (p : ℕ) → nat_abs (f p) ≤ bound → nat_abs (f (first + last - p)) ≤ bound → nat_abs (folded first last f p) ≤ 2 * bound
unfolding folded
folded-at-most first last bound f p here there =
    let mirror = f (first + last - p) in
    let sum : nat_abs (f p +ℤ mirror) ≤ 2 * bound = omega (arith, nat_abs-+ℤ-le (f p) mirror) in
    let difference : nat_abs (f p -ℤ mirror) ≤ 2 * bound = omega (arith, nat_abs-+ℤ-le (f p) (neg_ℤ mirror), nat_abs-negℤ mirror) in
    cond-bounded (ltb p first || ltb last p) (f p) _ (2 * bound) (omega arith)
    (cond-bounded (ltb (p + p) (first + last)) (f p +ℤ mirror) _ (2 * bound) sum
    (cond-bounded (ltb (first + last) (p + p)) (f p -ℤ mirror) (f p) (2 * bound) difference (omega arith)))

pub bounded-same : (bound : ℕ) (f g : ℕ → ℤ) → f ≡ g → Bounded bound g → Bounded bound f
bounded-same bound f g same bounded p = rw same (bounded p)

pub folded-bounded : (first last bound : ℕ) (f : ℕ → ℤ) → Bounded bound f → Bounded (2 * bound) (folded first last f)
folded-bounded first last bound f bounded p = folded-at-most first last bound f p (bounded p) (bounded (first + last - p))

-- and so does a halving, whose two foldings have no place in common
pub halved-bounded : (half : ℕ) → 1 ≤ half → half ≤ 512 → (bound : ℕ) (f : ℕ → ℤ) → Bounded bound f → Bounded (2 * bound) (halved half f)
unfolding halved
halved-bounded half some most bound f bounded p = by_place (dec_le p (2 * half)) (dec_lt 2047 p)
  where
    kept : (q : ℕ) → 2 * half < q → nat_abs (folded 0 (2 * half) f q) ≤ bound
    kept q above = rw (folded_after 0 (2 * half) f q above) (bounded q)

    by_place : Dec (p ≤ 2 * half) → Dec (2047 < p) → nat_abs (halved half f p) ≤ 2 * bound
    by_place (yes low) _ = rw (← low-places half 0 some most f p low) (folded-bounded 0 (2 * half) bound f bounded p)
    by_place (no above) (yes past) =
        rw (folded_after (2049 - 2 * half) 2047 (folded 0 (2 * half) f) p past) (le_trans (kept p (omega arith)) (omega arith))
    by_place (no above) (no inside) =
        folded-at-most (2049 - 2 * half) 2047 bound (folded 0 (2 * half) f) p (kept p (omega arith)) (kept (2049 - 2 * half + 2047 - p) (omega arith))

power-halved-bounded : (d : ℕ) → d ≤ 9 → (bound : ℕ) (f : ℕ → ℤ) → Bounded bound f → Bounded (2 * bound) (halved (2 ^ d) f)
power-halved-bounded d few = halved-bounded (2 ^ d) (pow_pos d) (at-most-512 d few)

-- all halvings: a bound everywhere, and one for the places that the halving at 2^c leaves
pub halved_from-bounded : (d : ℕ) → d ≤ 10 → (bound : ℕ) (f : ℕ → ℤ) → Bounded bound f → Bounded (bound * 2 ^ d) (halved_from d f)
unfolding halved_from
halved_from-bounded zero few bound f bounded p = omega (arith, bounded p)
halved_from-bounded (suc d) few bound f bounded p =
    let twice = ap (λ n. bound * n) (pow-succ' 2 d) in
    omega (
      arith,
      twice,
      halved_from-bounded d (omega arith) (2 * bound) (halved (2 ^ d) f) (power-halved-bounded d (omega arith) bound f bounded) p,
    )

pub left-bounded : (c d : ℕ) → c < d → d ≤ 10 → (bound : ℕ) (f : ℕ → ℤ) → Bounded bound f → (p : ℕ) → 2 ^ c < p → p < 2049 - 2 ^ c → nat_abs (halved_from d f p) * 2 ^ c ≤ bound * 2 ^ d
unfolding halved_from
left-bounded c zero after few bound f bounded p above below = absurd (not-suc-le-zero after)
left-bounded c (suc d) after few bound f bounded p above below =
    let twice : (n : ℕ) → bound * 2 ^ suc n ≡ 2 * bound * 2 ^ n = λ n. ap (λ m. bound * m) (pow-succ' 2 n) ∙ omega arith in
    ⊎_elim
    (λ (here : c ≡ d).
    rw (← here, twice c, halved_from-keeps c (omega arith) (halved (2 ^ c) f) p above below)
    (mul-le-mul_right (2 ^ c) (power-halved-bounded c (omega arith) bound f bounded p)))
    (λ (later : c < d).
    rw (twice d)
    (left-bounded c d later (omega arith) (2 * bound) (halved (2 ^ d) f) (power-halved-bounded d (omega arith) bound f bounded) p above below))
    (eq-or-lt_of_le (le_of_suc-le-suc after))

-- a folded window
module _ (window : List ℤ) (in-range : list_any out_of_range window ≡ false) where
  pub paired-bounded : Bounded (2 * largest_sample) (paired (held_by window))
  paired-bounded = folded-bounded 1 2047 largest_sample (held_by window) (sample-le window in-range)

  pub folded_window-bounded : Bounded largest_folded (folded_window window)
  unfolding folded_window
  folded_window-bounded = halved_from-bounded 10 (omega arith) (2 * largest_sample) (paired (held_by window)) paired-bounded

  pub folded_window-left : (c : ℕ) → c ≤ 9 → (p : ℕ) → 2 ^ c < p → p < 2049 - 2 ^ c → nat_abs (folded_window window p) * 2 ^ c ≤ largest_folded
  unfolding folded_window
  folded_window-left c few = left-bounded c 10 (omega arith) (omega arith) (2 * largest_sample) (paired (held_by window)) paired-bounded

-- ---- what the foldings of a window need

pub sample_small : (window : List ℤ) (p : ℕ) → InRange window → nat_abs (held_by window p) ≤ 2 ^ 29
sample_small window p in-range = omega (arith, sample-le window in-range.samples p)

pub pair_small : (window list : List ℤ) (p : ℕ) → held_by list ≡ paired (held_by window) → InRange window → nat_abs (held_by list p) ≤ 2 * largest_sample
pair_small window list p same in-range =
    bounded-same (2 * largest_sample) (held_by list) (paired (held_by window)) same (paired-bounded window in-range.samples) p

pub ruleset window_bounds = (sample_small, pair_small)
