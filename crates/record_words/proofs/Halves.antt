-- Numbers that are packed and the words that hold them determine each other, and both are given by their places.
use mathlib.Core.Bool.{cond}
use mathlib.Core.Path.{◌≡◌, refl, ap, ap₂, ◌∙◌}
use mathlib.Core.List.{List, [], ◌∷◌}
use Prim.Native.Nat.{ℕ, zero, suc, ◌+◌, ◌*◌, ◌/◌, ◌%◌, ◌<◌}
use native.Mathlib.Nat.{mod-add-div, mod-eq_of_lt, div-eq_of_lt, add-mul-mod_self_left, add-mul-div_left, zero-add}
use native.Mathlib.Omega.{arith}
use lib.Dec.{eqb}
use lib.ListN.{length, get_or}
use Rattle.algebra.specs.Lists.{tabulate}
use Rattle.algebra.proofs.Lists.{tabulate-eq, tabulate-first}
use Rattle.record_words.specs.Halves.{half_base, packed, unpacked}

-- twice one more
twice : (n : ℕ) → 2 * suc n ≡ suc (suc (2 * n))
twice n = omega arith

pub unpacked-length : (words : List ℕ) → length (unpacked words) ≡ 2 * length words
unfolding unpacked
unpacked-length [] = refl
unpacked-length (word ∷ words) = omega (arith, unpacked-length words)

-- words of halves of words
pub packed-unpacked : (words : List ℕ) → packed (unpacked words) ≡ words
unfolding packed unpacked
packed-unpacked [] = refl
packed-unpacked (word ∷ words) = ap₂ (λ first rest. first ∷ rest) (mod-add-div word half_base) (packed-unpacked words)

-- what holds of no values, and of a pair before values of which it holds, holds of every even count of values
module _
    (P : List ℕ → ℕ → Type 0)
    (none : P [] 0)
    (more : (low high : ℕ) (values : List ℕ) (count : ℕ) → P values count → P (low ∷ high ∷ values) (suc count))
  where
    by-pairs : (values : List ℕ) (count : ℕ) → length values ≡ 2 * count → P values count
    by-pairs [] zero whole = none
    by-pairs [] (suc count) whole = absurd (omega arith)
    by-pairs (low ∷ []) zero whole = absurd (omega arith)
    by-pairs (low ∷ []) (suc count) whole = absurd (omega arith)
    by-pairs (low ∷ high ∷ values) zero whole = absurd (omega arith)
    by-pairs (low ∷ high ∷ values) (suc count) whole = more low high values count (by-pairs values count (omega arith))

pub packed-length : (values : List ℕ) (count : ℕ) → length values ≡ 2 * count → length (packed values) ≡ count
unfolding packed
packed-length = by-pairs (λ values count. length (packed values) ≡ count) refl (λ low high values count same. ap suc same)

-- halves of words of halves
pub unpacked-packed :
    (values : List ℕ) (count : ℕ) → length values ≡ 2 * count → ((i : ℕ) → get_or values i 0 < half_base) →
    unpacked (packed values) ≡ values
unfolding packed unpacked
unpacked-packed =
    by-pairs (λ values count. ((i : ℕ) → get_or values i 0 < half_base) → unpacked (packed values) ≡ values)
    (λ fit. refl)
    (λ low high values count same fit.
    rw (
      add-mul-mod_self_left low half_base high ∙ mod-eq_of_lt (fit 0),
      add-mul-div_left low high {y = half_base} (omega arith),
      div-eq_of_lt (fit 0),
      zero-add high,
      same (λ i. fit (suc (suc i))),
    ))

-- ---- place by place

-- the pair at place 2 × k
abbrev pub pair_at : List ℕ → ℕ → ℕ
pair_at values k = get_or values (2 * k) 0 + half_base * get_or values (2 * k + 1) 0

pub packed-places : (values : List ℕ) (count : ℕ) → length values ≡ 2 * count → packed values ≡ tabulate count (pair_at values)
unfolding packed tabulate
packed-places =
    by-pairs (λ values count. packed values ≡ tabulate count (pair_at values))
    refl
    (λ low high values count same.
    let next : tabulate count (λ k. pair_at (low ∷ high ∷ values) (suc k)) ≡ tabulate count (pair_at values) =
    tabulate-eq count _ _ (λ k inside. let odd : 2 * suc k + 1 ≡ suc (suc (2 * k + 1)) = omega arith in rw (odd, twice k)) in
    rw (tabulate-first, next, same))

-- the lower half of a word at an even place, and else the upper
pub half_at : List ℕ → ℕ → ℕ
half_at words n =
    let word = get_or words (n / 2) 0 in
    cond (eqb (n % 2) 0) (word % half_base) (word / half_base)

pub half-even : (words : List ℕ) (k : ℕ) → half_at words (2 * k) ≡ get_or words k 0 % half_base
unfolding half_at
half-even words k =
    let lower : 2 * k % 2 ≡ 0 = omega arith in
    let place : 2 * k / 2 ≡ k = omega arith in
    rw (lower, place)

pub half-odd : (words : List ℕ) (k : ℕ) → half_at words (2 * k + 1) ≡ get_or words k 0 / half_base
unfolding half_at
half-odd words k =
    let upper : (2 * k + 1) % 2 ≡ 1 = omega arith in
    let place : (2 * k + 1) / 2 ≡ k = omega arith in
    rw (upper, place)

-- the halves of the words after the first
half-next : (word : ℕ) (words : List ℕ) (n : ℕ) → half_at (word ∷ words) (suc (suc n)) ≡ half_at words n
unfolding half_at
half-next word words n =
    let same : suc (suc n) % 2 ≡ n % 2 = omega arith in
    let place : suc (suc n) / 2 ≡ suc (n / 2) = omega arith in
    rw (same, place)

pub unpacked-places : (words : List ℕ) → unpacked words ≡ tabulate (2 * length words) (half_at words)
unfolding unpacked tabulate half_at
unpacked-places [] = refl
unpacked-places (word ∷ words) =
    rw (twice (length words), tabulate-first, tabulate-first, tabulate-eq _ _ _ (λ n inside. half-next word words n), unpacked-places words)
