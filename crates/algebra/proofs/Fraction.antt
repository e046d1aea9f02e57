-- The laws of fractions not below 0 (specs/Fraction.antt): their order, and what keeps a value near an exact one.
-- `Near` has one law for each operation, for both sides: the bound from below is the bound from above with the two fractions exchanged. Laws with `whole` speak of whole numbers near exact fractions.
use mathlib.Core.Bool.{Bool, true, false, not, cond}
use mathlib.Core.HLevel.{is_prop→PathP}
use mathlib.Core.List.{List, [], ◌∷◌, map}
use mathlib.Core.Path.{◌≡◌, refl, ap}
use Prim.Native.Nat.{ℕ, suc, ◌+◌, ◌*◌, ◌-◌, ◌≤◌, ◌<◌, max}
use native.Mathlib.Bridge.{le_prop}
use native.Mathlib.Nat.{le_refl, le_of_lt, le_of_suc-le-suc, mul-le-mul, mul-le-mul_left, mul-le-mul_right, le_of_mul-le-mul_right}
use native.Mathlib.Omega.{arith, by_contra}
use lib.Dec.{T, leb, leb→le, nleb→lt, lit<, lit≤}
use Rattle.algebra.specs.Fraction.{Fraction, whole, ◌≤ᶠ◌, ◌<ᶠ◌, ◌≈ᶠ◌, ◌+ᶠ◌, times, divide, square, maximum, mix, Side, lower, upper, Within, Near, RootBound, SquareWithin}
use Rattle.algebra.specs.Rounding.{nearest}
use Rattle.algebra.proofs.Rounding.{nearest-is}

-- ---- worked values

half : Fraction
half = record { num = 1; den = 2; den_pos = omega arith }

two-thirds : Fraction
two-thirds = record { num = 2; den = 3; den_pos = omega arith }

parts : Fraction → ℕ × ℕ
parts p = (p.num, p.den)

half-below-two-thirds : (half <ᶠ two-thirds) × (half ≤ᶠ two-thirds) × (¬ (two-thirds ≤ᶠ half)) × (¬ (half <ᶠ half))
unfolding half two-thirds
half-below-two-thirds = omega arith

-- 1/2 is equal to 2/4, and not to 2/3
equal-worked : (half ≈ᶠ record { num = 2; den = 4; den_pos = omega arith }) × (¬ (half ≈ᶠ two-thirds))
unfolding half two-thirds
equal-worked = (refl, λ e. absurd (omega (arith, e)))

operations-worked : ◌≡◌ {A = List (ℕ × ℕ)} (map parts (whole 4 ∷ (half +ᶠ two-thirds) ∷ times 3 half ∷ divide two-thirds 4 (lit< tt) ∷ square two-thirds ∷ maximum half two-thirds ∷ mix 1 3 (lit< tt) half two-thirds ∷ [])) ((4, 1) ∷ (7, 6) ∷ (3, 2) ∷ (2, 12) ∷ (4, 9) ∷ (2, 3) ∷ (15, 24) ∷ [])
unfolding parts half two-thirds whole ◌+ᶠ◌ times divide square maximum mix
operations-worked = refl

-- 5/2 ≤ 1 + 2 but not 7/2; 4 ≤ 7/2 + 2 but not 6
sides-worked : Within lower (whole 1) (half +ᶠ whole 2) 2 × (¬ Within lower (whole 1) (half +ᶠ whole 3) 2) × Within upper (whole 4) (half +ᶠ whole 3) 2 × (¬ Within upper (whole 6) (half +ᶠ whole 3) 2)
unfolding half whole ◌+ᶠ◌
sides-worked = omega arith

-- ---- the order

pub ≤ᶠ-refl : (p : Fraction) → p ≤ᶠ p
≤ᶠ-refl p = le_refl (p.num * p.den)

pub ≤ᶠ-trans : (p q r : Fraction) → p ≤ᶠ q → q ≤ᶠ r → p ≤ᶠ r
≤ᶠ-trans p q r h k =
    le_of_mul-le-mul_right {k = q.den} (omega (arith, mul-le-mul_right r.den h, mul-le-mul_right p.den k)) q.den_pos

pub <ᶠ-≤ᶠ-trans : (p q r : Fraction) → p <ᶠ q → q ≤ᶠ r → p <ᶠ r
<ᶠ-≤ᶠ-trans p q r h k =
    by_contra (suc (p.num * r.den)) (r.num * p.den) λ l. omega (arith, ≤ᶠ-trans q r p k (le_of_suc-le-suc l))

-- what holds in each order of the two holds of the test of their order
by-test : (p q : Fraction) (P : Bool → Type 0) → (p ≤ᶠ q → P true) → (q <ᶠ p → P false) → P (leb (p.num * q.den) (q.num * p.den))
by-test p q P f g = go (leb (p.num * q.den) (q.num * p.den)) (leb→le _ _) (nleb→lt _ _)
  where
    go : (c : Bool) → (T c → p ≤ᶠ q) → (T (not c) → q <ᶠ p) → P c
    go true l r = f (l tt)
    go false l r = g (r tt)

pub +ᶠ-≤ᶠ : (p q r s : Fraction) → p ≤ᶠ q → r ≤ᶠ s → p +ᶠ r ≤ᶠ q +ᶠ s
unfolding ◌+ᶠ◌
+ᶠ-≤ᶠ p q r s h k = omega (arith, mul-le-mul_right (r.den * s.den) h, mul-le-mul_right (p.den * q.den) k)

pub +ᶠ-whole-≤ᶠ : (p q : Fraction) (m : ℕ) → p ≤ᶠ q → p +ᶠ whole m ≤ᶠ q +ᶠ whole m
unfolding whole ◌+ᶠ◌
+ᶠ-whole-≤ᶠ p q m h = omega arith

pub +ᶠ-whole-<ᶠ-cancel : (p q : Fraction) (m : ℕ) → p +ᶠ whole m <ᶠ q +ᶠ whole m → p <ᶠ q
unfolding whole ◌+ᶠ◌
+ᶠ-whole-<ᶠ-cancel p q m h = omega arith

square-le-cancel : (a b : ℕ) → a * a ≤ b * b → a ≤ b
square-le-cancel a b h = by_contra a b λ l. omega (arith, mul-le-mul l l)

pub square-≤ᶠ-cancel : (p q : Fraction) → square p ≤ᶠ square q → p ≤ᶠ q
unfolding square
square-≤ᶠ-cancel p q h = square-le-cancel (p.num * q.den) (q.num * p.den) (omega arith)

-- ---- equal fractions

pub ≈ᶠ-times : (k : ℕ) (p q : Fraction) → p ≈ᶠ q → times k p ≈ᶠ times k q
unfolding times
≈ᶠ-times k p q equal = omega (arith, ap (λ n. k * n) equal)

pub ≈ᶠ-divide : (p q : Fraction) (n : ℕ) (positive : 0 < n) → p ≈ᶠ q → divide p n positive ≈ᶠ divide q n positive
unfolding divide
≈ᶠ-divide p q n positive equal = omega (arith, ap (λ product. n * product) equal)

-- ---- the maximum

-- the maximum is one of the two
module _ (p q : Fraction) where
  by-maximum : (P : Fraction → Type 0) → (q ≤ᶠ p → P p) → (p ≤ᶠ q → P q) → P (maximum p q)
  unfolding maximum
  by-maximum P f g = by-test p q (λ c. P (cond c q p)) g (λ h. f (le_of_lt h))

  pub maximum-left : p ≤ᶠ maximum p q
  maximum-left = by-maximum (λ r. p ≤ᶠ r) (λ h. ≤ᶠ-refl p) (λ h. h)

  pub maximum-right : q ≤ᶠ maximum p q
  maximum-right = by-maximum (λ r. q ≤ᶠ r) (λ h. h) (λ h. ≤ᶠ-refl q)

-- ---- operations on whole numbers

fraction-eq : {p q : Fraction} → p.num ≡ q.num → p.den ≡ q.den → p ≡ q
fraction-eq {p} {q} e f =
    λ i. record { num = e i; den = f i; den_pos = is_prop→PathP (λ j. 0 < f j) (λ j. le_prop) p.den_pos q.den_pos i }

pub whole-add : (s t : ℕ) → whole s +ᶠ whole t ≡ whole (s + t)
unfolding whole ◌+ᶠ◌
whole-add s t = fraction-eq (omega arith) refl

pub whole-times : (k s : ℕ) → times k (whole s) ≡ whole (k * s)
unfolding whole times
whole-times k s = refl

pub whole-maximum : (s t : ℕ) → maximum (whole s) (whole t) ≡ whole (max s t)
unfolding whole
whole-maximum s t =
    by-maximum (whole s) (whole t) (λ r. r ≡ whole (max s t)) (λ h. ap whole (omega arith)) (λ h. ap whole (omega arith))

-- ---- near an exact value

-- a law of one operation, and of one with two operands: what holds from above holds from below, the fractions exchanged
near-map : {side : Side} (f : Fraction → Fraction) {m n : ℕ} → ((p q : Fraction) → p ≤ᶠ q +ᶠ whole m → f p ≤ᶠ f q +ᶠ whole n) → {p q : Fraction} → Near side p q m → Near side (f p) (f q) n
near-map {side = lower} f law {p} {q} h = record { within = law q p h.within }
near-map {side = upper} f law {p} {q} h = record { within = law p q h.within }

near-join :
    {side : Side} (f : Fraction → Fraction → Fraction) {m n k : ℕ} →
    ((p q r s : Fraction) → p ≤ᶠ q +ᶠ whole m → r ≤ᶠ s +ᶠ whole n → f p r ≤ᶠ f q s +ᶠ whole k) →
    {p q r s : Fraction} → Near side p q m → Near side r s n → Near side (f p r) (f q s) k
near-join {side = lower} f law {p} {q} {r} {s} h k = record { within = law q p s r h.within k.within }
near-join {side = upper} f law {p} {q} {r} {s} h k = record { within = law p q r s h.within k.within }

pub near-weaken : {side : Side} {p q : Fraction} {m n : ℕ} → m ≤ n → Near side p q m → Near side p q n
unfolding whole ◌+ᶠ◌
near-weaken h = near-map (λ p. p) (λ p q l. omega (arith, mul-le-mul_right (p.den * q.den) h))

pub near_times : {side : Side} (k : ℕ) {p q : Fraction} {m : ℕ} → Near side p q m → Near side (times k p) (times k q) (k * m)
unfolding whole ◌+ᶠ◌ times
near_times k = near-map (times k) (λ p q l. omega (arith, mul-le-mul_left k l))

-- an average is as near as the sum over the count
pub near-divide : {side : Side} {p q : Fraction} (n m : ℕ) (positive : 0 < n) → Near side p q (n * m) → Near side (divide p n positive) (divide q n positive) m
unfolding whole ◌+ᶠ◌ divide
near-divide n m positive = near-map (λ p. divide p n positive) (λ p q l. omega (arith, mul-le-mul_left n l))

pub near_add : {side : Side} {p q r s : Fraction} {m n : ℕ} → Near side p q m → Near side r s n → Near side (p +ᶠ r) (q +ᶠ s) (m + n)
unfolding whole ◌+ᶠ◌
near_add =
    near-join ◌+ᶠ◌ (λ p q r s h k. omega (arith, mul-le-mul_right (r.den * s.den) h, mul-le-mul_right (p.den * q.den) k))

pub near-maximum : {side : Side} {p q r s : Fraction} {m : ℕ} → Near side p q m → Near side r s m → Near side (maximum p r) (maximum q s) m
near-maximum {m = m} =
    near-join maximum (λ p q r s h k. by-maximum p r (λ x. x ≤ᶠ maximum q s +ᶠ whole m) (λ _. below p q (maximum q s) h (maximum-left q s)) (λ _. below r s (maximum q s) k (maximum-right q s)))
  where
    below : (p q r : Fraction) → p ≤ᶠ q +ᶠ whole m → q ≤ᶠ r → p ≤ᶠ r +ᶠ whole m
    below p q r h k = ≤ᶠ-trans p (q +ᶠ whole m) (r +ᶠ whole m) h (+ᶠ-whole-≤ᶠ q r m k)

-- ---- a whole number near an exact value

pub near-whole-add : {side : Side} (s t : ℕ) {p q : Fraction} {m n : ℕ} → Near side (whole s) p m → Near side (whole t) q n → Near side (whole (s + t)) (p +ᶠ q) (m + n)
near-whole-add s t h k = rw (whole-add s t) at (near_add h k)

pub near-whole-maximum : {side : Side} (s t : ℕ) {p q : Fraction} {m : ℕ} → Near side (whole s) p m → Near side (whole t) q m → Near side (whole (max s t)) (maximum p q) m
near-whole-maximum s t h k = rw (whole-maximum s t) at (near-maximum h k)

-- rounding adds at most a half to the margin
pub near-nearest : {side : Side} (n d : ℕ) {q : Fraction} {k m : ℕ} (positive : 0 < d) → 2 * k + d ≤ 2 * (d * m) → Near side (whole n) q k → Near side (whole (nearest n d)) (divide q d positive) m
unfolding whole ◌+ᶠ◌ divide
near-nearest {side = lower} n d {q} positive l h =
    let rounded = nearest-is n d positive in
    record { within = omega (arith, mul-le-mul_right q.den l, mul-le-mul_right q.den (le_of_lt rounded.high)) }
near-nearest {side = upper} n d {q} positive l h =
    let rounded = nearest-is n d positive in
    record { within = omega (arith, mul-le-mul_right q.den l, mul-le-mul_right q.den rounded.low) }

-- the rounded mean of two whole numbers near the exact mean of two fractions
pub near-mix :
    {side : Side} (a b new old : ℕ) {p q : Fraction} {k m : ℕ} (positive : 0 < a + b) →
    2 * (a * k + b * m) + (a + b) ≤ 2 * ((a + b) * m) → Near side (whole new) p k → Near side (whole old) q m →
    Near side (whole (nearest (a * new + b * old) (a + b))) (mix a b positive p q) m
unfolding mix
near-mix a b new old positive l h k =
    near-nearest (a * new + b * old) (a + b) positive l
    (rw (whole-times a new, whole-times b old, whole-add (a * new) (b * old)) at (near_add (near_times a h) (near_times b k)))

-- from squares to the numbers
pub near-root : (side : Side) (r k : ℕ) (q g : Fraction) → SquareWithin side r g k → RootBound side q g → Near side (whole r) q k
unfolding whole ◌+ᶠ◌
near-root lower r k q g h l =
    let below = square-≤ᶠ-cancel q (whole (r + k)) (≤ᶠ-trans (square q) g (square (whole (r + k))) l h) in
    record { within = omega arith }
near-root upper r k q g h l =
    let above = square-≤ᶠ-cancel (whole (r - k)) q (≤ᶠ-trans (square (whole (r - k))) g (square q) h l) in
    let restored : r ≤ r - k + k = omega arith in
    record { within = omega (arith, mul-le-mul_right q.den restored) }

-- ---- what a margin is for

-- with the margin added still at most a bound: so is the exact value
pub near-le-bound : {p q : Fraction} {m : ℕ} (bound : Fraction) → Near lower p q m → p +ᶠ whole m ≤ᶠ bound → q ≤ᶠ bound
near-le-bound {p} {q} {m} bound h l = ≤ᶠ-trans q (p +ᶠ whole m) bound h.within l

-- with the margin taken away still above a bound: so is the exact value
pub near-gt-bound : {p q : Fraction} {m : ℕ} (bound : Fraction) → Near upper p q m → bound +ᶠ whole m <ᶠ p → bound <ᶠ q
near-gt-bound {p} {q} {m} bound h l =
    +ᶠ-whole-<ᶠ-cancel bound q m (<ᶠ-≤ᶠ-trans (bound +ᶠ whole m) p (q +ᶠ whole m) l h.within)

-- ---- the hypotheses can be met

five-near : Near upper (whole 5) half 5
unfolding whole half ◌+ᶠ◌
five-near = record { within = lit≤ tt }

eight-near : Near upper (whole 8) two-thirds 9
unfolding whole two-thirds ◌+ᶠ◌
eight-near = record { within = lit≤ tt }

-- 29/4 is rounded to 7
mix-met : Near upper (whole 7) (mix 1 3 (lit< tt) half two-thirds) 9
unfolding nearest
mix-met = near-mix 1 3 5 8 (lit< tt) (lit≤ tt) five-near eight-near

average-met : Near upper (divide (whole 13) 2 (lit< tt)) (divide (half +ᶠ two-thirds) 2 (lit< tt)) 7
average-met = near-divide 2 7 (lit< tt) (near-whole-add 5 8 five-near eight-near)

maximum-met : Near upper (whole 8) (maximum half two-thirds) 9
maximum-met = near-whole-maximum 5 8 (near-weaken (lit≤ tt) five-near) eight-near

-- 2 stands for the root of 3, which lies between 3/2 and 5/2
root-met : Near lower (whole 2) (half +ᶠ whole 1) 1 × Near upper (whole 2) (half +ᶠ whole 2) 1
unfolding half whole ◌+ᶠ◌ square
root-met =
    (near-root lower 2 1 (half +ᶠ whole 1) (whole 3) (lit≤ tt) (lit≤ tt), near-root upper 2 1 (half +ᶠ whole 2) (whole 3) (lit≤ tt) (lit≤ tt))
