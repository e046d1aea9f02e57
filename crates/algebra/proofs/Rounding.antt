-- The laws of rounding to the nearest, halves up (specs/Rounding.antt): at most a half off, no other number is, monotone, and a whole number of divisors more is as many more.
-- Below 0 a half goes up too, that is towards zero. Every divisor is above 0.
use mathlib.Core.Bool.{Bool, true, false, not, cond}
use mathlib.Core.List.{[], ◌∷◌}
use mathlib.Core.Path.{◌≡◌, refl, sym, ap, ◌∙◌}
use Prim.Native.Nat.{ℕ, zero, suc, ◌+◌, ◌*◌, ◌-◌, ◌/◌, ◌%◌, ◌^◌, ◌≤◌, ◌<◌}
use native.Mathlib.Nat.{le_refl, le_trans, le_antisymm, zero-mul, le-div_iff_mul-le, div-mul-le_self, mod-lt, div-add-mod, div-eq_of_lt-le, mul-le-mul_left, mul-div-le, lt-mul-div-succ, add-div_right, div-eq_of_lt, div-div-eq-div-mul, mul-zero, mul_comm, pow-succ', one-le-pow}
use native.Mathlib.Omega.{arith, by_contra}
use lib.Dec.{T, ltb, ltb→lt, nltb→le, leb→le, le→leb, lit<, lit≤}
use lib.IntN.{ℤ, pos, negsuc, neg_ℤ, nat_abs, sub_ℕ, ◌+ℤ◌, ◌-ℤ◌, ◌*ℤ◌, +ℤ_idr, +ℤ_assoc, +ℤ_comm, +ℤ-suc_ℤ, suc_ℤ-*ℤ, *ℤ_comm, neg_ℤ-neg_ℤ}
use lib.Signed.{shr_z, ◌≤ℤ◌, le_z_yes}
use Rattle.algebra.specs.Rounding.{nearest, floor_over, nearestℤ, rounded_up}
use Rattle.algebra.proofs.Integer.{nat_abs-negℤ, nat_abs-*ℤ, nat_abs-+ℤ-le}
use Rattle.algebra.proofs.Ring.{variable, constant, ◌⊕◌, ◌⊖◌, ◌⊗◌, ring}

-- 5/2 and −5/2 go up by a half, −2 stays and the whole part of −5/2 is −3
halves-up : (nearest 5 2 ≡ 3) × (nearestℤ (negsuc 4) 2 ≡ negsuc 1) × (nearestℤ (negsuc 3) 2 ≡ negsuc 1) × (floor_over (negsuc 4) 2 ≡ negsuc 2)
unfolding nearest nearestℤ floor_over
halves-up = (refl, refl, refl, refl)

-- r is n over d to the nearest, halves up: r − 1/2 ≤ n/d < r + 1/2
pub record IsNearest (n d r : ℕ) : Type 0 where
  pub low : 2 * (d * r) ≤ 2 * n + d
  pub high : 2 * n < 2 * (d * r) + d

pub nearest-is : (n d : ℕ) → 0 < d → IsNearest n d (nearest n d)
unfolding nearest
nearest-is n d p = record {
  low = omega (arith, mul-div-le (2 * n + d) (2 * d));
  high = omega (arith, lt-mul-div-succ (2 * n + d) {b = 2 * d} (omega arith));
}

rounded-le : {m n d p q : ℕ} → m ≤ n → IsNearest m d p → IsNearest n d q → p ≤ q
rounded-le {m} {n} {d} {p} {q} h r s = by_contra p q λ l. omega (arith, mul-le-mul_left d l)

pub nearest-unique : {n d r : ℕ} → 0 < d → IsNearest n d r → r ≡ nearest n d
nearest-unique {n} {d} p s =
    let e = nearest-is n d p in
    le_antisymm (rounded-le (le_refl n) s e) (rounded-le (le_refl n) e s)

pub nearest-mono : {m n : ℕ} (d : ℕ) → 0 < d → m ≤ n → nearest m d ≤ nearest n d
nearest-mono {m} {n} d p h = rounded-le h (nearest-is m d p) (nearest-is n d p)

pub nearest-add : (n k d : ℕ) → 0 < d → nearest (n + k * d) d ≡ nearest n d + k
nearest-add n k d p =
    let s = nearest-is n d p in
    sym (nearest-unique p (record { low = omega arith; high = omega arith }))

pub nearest-le-add : {m : ℕ} (n k d : ℕ) → 0 < d → m ≤ n + k * d → nearest m d ≤ nearest n d + k
nearest-le-add n k d p h = rw (← nearest-add n k d) (nearest-mono d p h)

-- n over d rounded up is the least number of divisors that come to n
pub rounded_up-enough : (n d : ℕ) → 0 < d → n ≤ rounded_up n d * d
unfolding rounded_up
rounded_up-enough n d p = omega (arith, lt-mul-div-succ (n + (d - 1)) {b = d} p)

rounded_up-least : (n k d : ℕ) → 0 < d → n ≤ k * d → rounded_up n d ≤ k
unfolding rounded_up
rounded_up-least n k d p h =
    by_contra ((n + (d - 1)) / d) k λ l. omega (arith, mul-div-le (n + (d - 1)) d, mul-le-mul_left d l)

pub nearest-whole : (k d : ℕ) → 0 < d → nearest (d * k) d ≡ k
nearest-whole k d p = sym (nearest-unique p (record { low = omega arith; high = omega arith }))

pub nearest-le : {n : ℕ} (k d : ℕ) → 0 < d → n ≤ d * k → nearest n d ≤ k
nearest-le k d p h = rw (← nearest-whole k d) (nearest-mono d p h)

-- ---- with a sign

-- what holds of a − b in each order of the two
by_order : (P : ℤ → Type 0) (a b : ℕ) → (a < b → P (negsuc (b - suc a))) → (b ≤ a → P (pos (a - b))) → P (sub_ℕ a b)
by_order P a b f g = go (ltb a b) (ltb→lt a b) (nltb→le a b)
  where
    go : (c : Bool) → (T c → a < b) → (T (not c) → b ≤ a) → P (cond c (negsuc (b - suc a)) (pos (a - b)))
    go true l r = f (l tt)
    go false l r = g (r tt)

-- the whole part of a − (b + 1), over a divisor d that is c more than a
floor-difference : (a b c d : ℕ) → 0 < c → d ≡ a + c → floor_over (sub_ℕ a (suc b)) d ≡ neg_ℤ (pos ((b + c) / d))
unfolding floor_over
floor-difference a b c d p e =
    by_order (λ z. floor_over z d ≡ neg_ℤ (pos ((b + c) / d))) a (suc b)
    (λ h. sym (ap (λ m. neg_ℤ (pos m)) (one_more h)))
    (λ h. rw (div-eq_of_lt {n = a - suc b} {m = d} (omega arith), div-eq_of_lt {n = b + c} {m = d} (omega arith)))
  where
    one_more : a < suc b → (b + c) / d ≡ suc ((suc b - suc a) / d)
    one_more h =
        let shifted : b + c ≡ suc b - suc a + d = omega arith in
        rw shifted (omega (arith, add-div_right (suc b - suc a) {k = d} (omega arith)))

-- a number is its whole part times the divisor, and a remainder below the divisor
pub floor_over-split : (z : ℤ) (d : ℕ) → 0 < d → (m : ℕ) × (m < d) × (z ≡ pos d *ℤ floor_over z d +ℤ pos m)
unfolding floor_over
floor_over-split (pos n) d p = (n % d, mod-lt n p, ap pos (sym (div-add-mod n d)))
floor_over-split (negsuc n) d p =
    let m : ℕ = d - suc (n % d) in
    let last : d * suc (n / d) ≡ suc (n + m) = omega (arith, div-add-mod n d, mod-lt n p) in
    (m, omega arith, rw last (by_order (λ z. negsuc n ≡ z) m (suc (n + m)) (λ h. ap negsuc (omega arith)) (λ h. absurd (omega arith))))

-- and no other whole part has such a remainder
pub floor_over-unique : (q : ℤ) (m d : ℕ) → m < d → floor_over (pos d *ℤ q +ℤ pos m) d ≡ q
unfolding floor_over
floor_over-unique (pos a) m d h = ap pos (div-eq_of_lt-le d (omega arith) (omega arith))
floor_over-unique (negsuc a) m d h =
    let last : d * suc a ≡ suc (d * a + (d - 1)) = omega arith in
    rw last (floor-difference m (d * a + (d - 1)) (d - m) d (omega arith) (omega arith) ∙ ap (λ m. neg_ℤ (pos m)) (div-eq_of_lt-le {k = suc a} d (omega arith) (omega arith)))

pub nearestℤ-pos : (n d : ℕ) → nearestℤ (pos n) d ≡ pos (nearest n d)
unfolding nearestℤ floor_over nearest
nearestℤ-pos n d = refl

-- the magnitude of a rounded number below 0: there a half goes towards zero
pub nearestℤ-negsuc : (n d : ℕ) → 0 < d → nearestℤ (negsuc n) d ≡ neg_ℤ (pos ((2 * n + 1 + d) / (2 * d)))
unfolding nearestℤ
nearestℤ-negsuc n d p =
    let twice : 2 * suc n ≡ suc (2 * n + 1) = omega arith in
    rw twice (floor-difference d (2 * n + 1) d (2 * d) p (omega arith))

-- the rounded value is at most the rounded magnitude
pub nat_abs-nearestℤ-le : (z : ℤ) (d : ℕ) → 0 < d → nat_abs (nearestℤ z d) ≤ nearest (nat_abs z) d
nat_abs-nearestℤ-le (pos n) d p = rw nearestℤ-pos (le_refl _)
nat_abs-nearestℤ-le (negsuc n) d p =
    rw (nearestℤ-negsuc, nat_abs-negℤ)
    (by_contra ((2 * n + 1 + d) / (2 * d)) (nearest (suc n) d) λ l.
    omega (arith, nearest-is (suc n) d p, mul-div-le (2 * n + 1 + d) (2 * d), mul-le-mul_left d l))

pos-*-neg : (a x : ℕ) → pos a *ℤ neg_ℤ (pos x) ≡ neg_ℤ (pos (a * x))
pos-*-neg a zero = rw mul-zero
pos-*-neg a (suc x) = refl

difference-le : (u v d : ℕ) → u ≤ v + d → v ≤ u + d → nat_abs (pos u -ℤ pos v) ≤ d
difference-le u zero d h k = omega arith
difference-le u (suc v) d h k = by_order (λ z. nat_abs z ≤ d) u (suc v) (λ l. omega arith) (λ l. omega arith)

-- at most a half off
pub nearestℤ-half : (z : ℤ) (d : ℕ) → 0 < d → nat_abs (pos (2 * d) *ℤ nearestℤ z d -ℤ pos 2 *ℤ z) ≤ d
nearestℤ-half (pos n) d p =
    let r = nearest-is n d p in
    rw nearestℤ-pos (difference-le (2 * d * nearest n d) (2 * n) d (omega arith) (omega arith))
nearestℤ-half (negsuc n) d p =
    let u : ℕ = 2 * n + 1 + d in
    rw (nearestℤ-negsuc, pos-*-neg (2 * d), neg_ℤ-neg_ℤ, +ℤ_comm)
    (difference-le (2 * suc n) (2 * d * (u / (2 * d))) d
    (omega (arith, lt-mul-div-succ u {b = 2 * d} (omega arith)))
    (omega (arith, mul-div-le u (2 * d))))

-- the distance of two rounded numbers in parts: each one's rounding, and the step between the numbers
distance-in-parts :
    (d r s z w : ℤ) →
    d *ℤ (r -ℤ s) ≡ (d *ℤ r -ℤ pos 2 *ℤ z) -ℤ (d *ℤ s -ℤ pos 2 *ℤ w) +ℤ pos 2 *ℤ (z -ℤ w)
distance-in-parts d r s z w =
    let d' = variable 0 in let r' = variable 1 in let s' = variable 2 in let z' = variable 3 in let w' = variable 4 in
    let two = constant (pos 2) in
    ring (d' ⊗ (r' ⊖ s')) ((d' ⊗ r' ⊖ two ⊗ z') ⊖ (d' ⊗ s' ⊖ two ⊗ w') ⊕ two ⊗ (z' ⊖ w')) tt
    (d ∷ r ∷ s ∷ z ∷ w ∷ [])

-- two rounded numbers are at most 1 farther apart than the fractions
pub nearestℤ-apart :
    (z w : ℤ) (d : ℕ) → 0 < d → d * nat_abs (nearestℤ z d -ℤ nearestℤ w d) ≤ nat_abs (z -ℤ w) + d
nearestℤ-apart z w d p =
    let r = nearestℤ z d in
    let s = nearestℤ w d in
    let a = pos (2 * d) *ℤ r -ℤ pos 2 *ℤ z in
    let b = pos (2 * d) *ℤ s -ℤ pos 2 *ℤ w in
    let step = pos 2 *ℤ (z -ℤ w) in
    omega (
      arith,
      nat_abs-*ℤ (pos (2 * d)) (r -ℤ s),
      ap nat_abs (distance-in-parts (pos (2 * d)) r s z w),
      nat_abs-+ℤ-le (a -ℤ b) step,
      nat_abs-+ℤ-le a (neg_ℤ b),
      nat_abs-negℤ b,
      nat_abs-*ℤ (pos 2) (z -ℤ w),
      nearestℤ-half z d p,
      nearestℤ-half w d p,
    )

-- ---- with a sign: monotone, and whole numbers of divisors

div_mono : {m n : ℕ} (d : ℕ) → 0 < d → m ≤ n → m / d ≤ n / d
div_mono {m} d p h = (le-div_iff_mul-le p).1 (le_trans (div-mul-le_self m d) h)

negℤ-≤ℤ-pos : (x y : ℕ) → neg_ℤ (pos x) ≤ℤ pos y
negℤ-≤ℤ-pos zero y = le_z_yes (le→leb 0 y (omega arith))
negℤ-≤ℤ-pos (suc x) y = le_z_yes tt

negℤ-≤ℤ-negℤ : {x y : ℕ} → y ≤ x → neg_ℤ (pos x) ≤ℤ neg_ℤ (pos y)
negℤ-≤ℤ-negℤ {x} {y = zero} h = negℤ-≤ℤ-pos x 0
negℤ-≤ℤ-negℤ {x = zero} {y = suc y} h = absurd (omega arith)
negℤ-≤ℤ-negℤ {x = suc x} {y = suc y} h = le_z_yes (le→leb y x (omega arith))

pub nearestℤ-mono : (z w : ℤ) (d : ℕ) → 0 < d → z ≤ℤ w → nearestℤ z d ≤ℤ nearestℤ w d
nearestℤ-mono (pos m) (pos n) d p h =
    rw (nearestℤ-pos m d, nearestℤ-pos n d) (le_z_yes (le→leb _ _ (nearest-mono d p (leb→le m n h.le))))
nearestℤ-mono (pos m) (negsuc n) d p h = absurd h.le
nearestℤ-mono (negsuc m) (pos n) d p h = rw (nearestℤ-negsuc m d p, nearestℤ-pos n d) (negℤ-≤ℤ-pos ((2 * m + 1 + d) / (2 * d)) (nearest n d))
nearestℤ-mono (negsuc m) (negsuc n) d p h =
    let l = leb→le n m h.le in
    rw (nearestℤ-negsuc m d p, nearestℤ-negsuc n d p) (negℤ-≤ℤ-negℤ {x = (2 * m + 1 + d) / (2 * d)} (div_mono (2 * d) (omega arith) (omega arith)))

sum-times : (z : ℤ) (k d : ℕ) → (z +ℤ pos k) *ℤ pos d ≡ z *ℤ pos d +ℤ pos (k * d)
sum-times z zero d = rw (+ℤ_idr, zero-mul, +ℤ_idr)
sum-times z (suc k) d =
    ap (λ x. x *ℤ pos d) (+ℤ-suc_ℤ z (pos k)) ∙ suc_ℤ-*ℤ (z +ℤ pos k) (pos d) ∙ ap (λ x. x +ℤ pos d) (sum-times z k d)
    ∙ +ℤ_assoc (z *ℤ pos d) (pos (k * d)) (pos d) ∙ ap (λ m. z *ℤ pos d +ℤ pos m) (omega arith)

times-sum : (d : ℕ) (z : ℤ) (k : ℕ) → pos d *ℤ (z +ℤ pos k) ≡ pos d *ℤ z +ℤ pos (k * d)
times-sum d z k =
    *ℤ_comm (pos d) (z +ℤ pos k) ∙ sum-times z k d ∙ ap (λ x. x +ℤ pos (k * d)) (*ℤ_comm z (pos d))

last-two : (a b c : ℤ) → a +ℤ b +ℤ c ≡ a +ℤ c +ℤ b
last-two a b c = +ℤ_assoc a b c ∙ ap (λ x. a +ℤ x) (+ℤ_comm b c) ∙ sym (+ℤ_assoc a c b)

pub floor_over-add : (z : ℤ) (k d : ℕ) → 0 < d → floor_over (z +ℤ pos (k * d)) d ≡ floor_over z d +ℤ pos k
floor_over-add z k d p =
    let (m, l, e) = floor_over-split z d p in
    let q = floor_over z d in
    ap (λ x. floor_over (x +ℤ pos (k * d)) d) e ∙ ap (λ x. floor_over x d) (last-two (pos d *ℤ q) (pos m) (pos (k * d)))
    ∙ ap (λ x. floor_over (x +ℤ pos m) d) (sym (times-sum d q k)) ∙ floor_over-unique (q +ℤ pos k) m d l

pub nearestℤ-add : (z : ℤ) (k d : ℕ) → 0 < d → nearestℤ (z +ℤ pos (k * d)) d ≡ nearestℤ z d +ℤ pos k
unfolding nearestℤ
nearestℤ-add z k d p =
    let twice : k * d * 2 ≡ k * (2 * d) = omega arith in
    rw (times-sum 2 z (k * d), last-two (pos 2 *ℤ z) (pos (k * d * 2)) (pos d), twice) (floor_over-add (pos 2 *ℤ z +ℤ pos d) k (2 * d) (omega arith))

pub nearestℤ-≤ℤ-add : (z w : ℤ) (k d : ℕ) → 0 < d → z ≤ℤ (w +ℤ pos (k * d)) → nearestℤ z d ≤ℤ (nearestℤ w d +ℤ pos k)
nearestℤ-≤ℤ-add z w k d p h = rw (← nearestℤ-add w k d p) (nearestℤ-mono z (w +ℤ pos (k * d)) d p h)

-- ---- a shift to the right

halve : (m w k : ℕ) → 2 * m ≤ w → w < 2 * m + 2 → w / (2 * k) ≡ m / k
halve m w k l h = sym (div-div-eq-div-mul w 2 k) ∙ ap (λ x. x / k) (omega arith)

-- half an even divisor may be added before the division
nearestℤ-even : (z : ℤ) (h : ℕ) → 0 < h → floor_over (z +ℤ pos h) (2 * h) ≡ nearestℤ z (2 * h)
unfolding floor_over nearestℤ
nearestℤ-even (pos n) h p = ap pos (sym (halve (n + h) (2 * n + 2 * h) (2 * h) (omega arith) (omega arith)))
nearestℤ-even (negsuc n) h p =
    floor-difference h n h (2 * h) p (omega arith)
    ∙ sym (nearestℤ-negsuc n (2 * h) (omega arith) ∙ ap (λ m. neg_ℤ (pos m)) (halve (n + h) (2 * n + 1 + 2 * h) (2 * h) (omega arith) (omega arith)))

shr-is-floor : (z : ℤ) (m : ℕ) → shr_z z m ≡ floor_over z m
unfolding floor_over
shr-is-floor (pos n) m = refl
shr-is-floor (negsuc n) m = refl

-- a half of a part, both rounded down
floor_over-half : (z : ℤ) (d : ℕ) → floor_over (floor_over z d) 2 ≡ floor_over z (2 * d)
unfolding floor_over
floor_over-half (pos n) d = ap pos (div-div-eq-div-mul n d 2 ∙ ap (λ m. n / m) (mul_comm d 2))
floor_over-half (negsuc n) d = ap negsuc (div-div-eq-div-mul n d 2 ∙ ap (λ m. n / m) (mul_comm d 2))

-- what the code computes, as ((a >> 28) + 1) >> 1
pub two-shifts-nearestℤ : (z : ℤ) (k : ℕ) → shr_z (shr_z z (2 ^ k) +ℤ pos 1) 2 ≡ nearestℤ z (2 ^ suc k)
two-shifts-nearestℤ z k =
    let once : 1 * 2 ^ k ≡ 2 ^ k = omega arith in
    shr-is-floor (shr_z z (2 ^ k) +ℤ pos 1) 2
    ∙ ap (λ y. floor_over (y +ℤ pos 1) 2) (shr-is-floor z (2 ^ k))
    ∙ ap (λ y. floor_over y 2) (sym (rw once at (floor_over-add z 1 (2 ^ k) (one-le-pow k 2 (omega arith)))))
    ∙ floor_over-half (z +ℤ pos (2 ^ k)) (2 ^ k)
    ∙ rw (pow-succ' 2 k) (nearestℤ-even z (2 ^ k) (one-le-pow k 2 (omega arith)))

-- the hypotheses can be met
rounding-met : (3 ≡ nearest 5 2) × (nearest 7 2 ≤ nearest 5 2 + 1) × (nearestℤ (pos 1) 2 ≤ℤ (nearestℤ (negsuc 2) 2 +ℤ pos 2))
rounding-met =
    (nearest-unique (lit< tt) (record { low = lit≤ tt; high = lit< tt }), nearest-le-add 5 1 2 (lit< tt) (lit≤ tt), nearestℤ-≤ℤ-add (pos 1) (negsuc 2) 2 2 (lit< tt) (le_z_yes tt))
