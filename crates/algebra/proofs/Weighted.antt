-- Cauchy-Schwarz over lists with weights, and the triangle step that follows from it, stated over squares so that no root is taken.
-- Both are shown for absolute values, in ℕ.
use mathlib.Core.Path.{◌≡◌, refl}
use mathlib.Core.List.{List, [], ◌∷◌, ◌++◌, map}
use Prim.Native.Nat.{ℕ, zero, suc, ◌+◌, ◌*◌, ◌≤◌, ◌<◌}
use native.Mathlib.Nat.{le_trans, le_of_lt, lt_of_le_of_lt, mul-le-mul, mul-le-mul_left}
use native.Mathlib.Omega.{arith, by_contra}
use lib.IntN.{ℤ, nat_abs, ◌*ℤ◌}
use lib.ListN.{drop}
use Rattle.algebra.specs.Lists.{tabulate}
use Rattle.algebra.specs.Weighted.{sum_over, weighted_squares, Everywhere}
use Rattle.algebra.proofs.Integer.{nat_abs-*ℤ}

-- ---- squares of whole numbers

pub le-of-square-le : (x y : ℕ) → x * x ≤ y * y → x ≤ y
le-of-square-le x y h = by_contra x y (λ (l : y < x). omega (arith, mul-le-mul l l))

pub double-product-le : (x y : ℕ) → 2 * (x * y) ≤ x * x + y * y
double-product-le zero y = omega arith
double-product-le (suc x) zero = omega arith
double-product-le (suc x) (suc y) = omega (arith, double-product-le x y)

-- ---- Cauchy-Schwarz: (Σ w |a| |b|)² ≤ (Σ w a²)(Σ w b²)

absolute_products : {A : Type 0} → (A → ℕ) → (a b : A → ℤ) → List A → ℕ
absolute_products w a b places = sum_over (λ p. w p * (nat_abs (a p) * nat_abs (b p))) places

-- one more place: from Y² ≤ A · B, and 2 Y a b ≤ A b² + B a²
cauchy-schwarz-step : (w a b A B Y : ℕ) → Y * Y ≤ A * B → (w * (a * b) + Y) * (w * (a * b) + Y) ≤ (w * (a * a) + A) * (w * (b * b) + B)
cauchy-schwarz-step w a b A B Y h = omega (arith, h, mul-le-mul_left w cross)
  where
    cross : 2 * (Y * (a * b)) ≤ A * (b * b) + B * (a * a)
    cross = le-of-square-le (2 * (Y * (a * b))) (A * (b * b) + B * (a * a)) (omega (arith, mul-le-mul_left (a * b * (a * b)) h, double-product-le (A * (b * b)) (B * (a * a))))

module _ {A : Type 0} (w : A → ℕ) (a b : A → ℤ) where
  cauchy-schwarz : (places : List A) → absolute_products w a b places * absolute_products w a b places ≤ weighted_squares w a places * weighted_squares w b places
  unfolding absolute_products sum_over
  cauchy-schwarz [] = omega arith
  cauchy-schwarz (p ∷ places) = cauchy-schwarz-step (w p) (nat_abs (a p)) (nat_abs (b p)) (weighted_squares w a places) (weighted_squares w b places) (absolute_products w a b places) (cauchy-schwarz places)

-- ---- the triangle step

-- A + 2 Y + B is below c · (r + t)², since Y is at most c · r · t
triangle-step : (c r t A B Y : ℕ) → Y * Y ≤ A * B → A < c * (r * r) → B ≤ c * (t * t) → A + 2 * Y + B < c * ((r + t) * (r + t))
triangle-step c r t A B Y h ha hb = omega (arith, le-of-square-le Y (c * (r * t)) (le_trans h (le_trans (mul-le-mul (le_of_lt ha) hb) (omega arith))))

module _ {A : Type 0} (w : A → ℕ) (s a b : A → ℤ) where
  squares-le :
      ((p : A) → nat_abs (s p) ≤ nat_abs (a p) + nat_abs (b p)) → (places : List A) →
      weighted_squares w s places ≤ weighted_squares w a places + 2 * absolute_products w a b places + weighted_squares w b places
  unfolding absolute_products sum_over
  squares-le h [] = omega arith
  squares-le h (p ∷ places) = omega (arith, mul-le-mul_left (w p) (mul-le-mul (h p) (h p)), squares-le h places)

  -- A vector s of at most |a| + |b| at each place: if Σ w a² is below c · r² and Σ w b² at most c · t², then Σ w s² is below
  -- c · (r + t)². This is the triangle inequality of the roots, which r and t bound.
  pub triangle-lt :
      ((p : A) → nat_abs (s p) ≤ nat_abs (a p) + nat_abs (b p)) → (places : List A) (c r t : ℕ) →
      weighted_squares w a places < c * (r * r) → weighted_squares w b places ≤ c * (t * t) →
      weighted_squares w s places < c * ((r + t) * (r + t))
  triangle-lt h places c r t ha hb = lt_of_le_of_lt (squares-le h places) (triangle-step c r t (weighted_squares w a places) (weighted_squares w b places) (absolute_products w a b places) (cauchy-schwarz w a b places) ha hb)

-- ---- laws of the sums over a list

module _ {A : Type 0} where
  -- a vector times a constant
  pub squares-of-multiple : (w : A → ℕ) (k : ℤ) (a : A → ℤ) (places : List A) → weighted_squares w (λ p. k *ℤ a p) places ≡ nat_abs k * nat_abs k * weighted_squares w a places
  unfolding sum_over
  squares-of-multiple w k a [] = omega arith
  squares-of-multiple w k a (p ∷ places) = rw (nat_abs-*ℤ k (a p)) (omega (arith, squares-of-multiple w k a places))

  -- a vector of at most k/n at each place
  pub squares-le-weights : (w : A → ℕ) (a : A → ℤ) (n k : ℕ) (places : List A) → Everywhere (λ p. n * nat_abs (a p) ≤ k) places → n * n * weighted_squares w a places ≤ sum_over w places * (k * k)
  unfolding sum_over
  squares-le-weights w a n k [] h = omega arith
  squares-le-weights w a n k (p ∷ places) h = omega (arith, mul-le-mul_left (w p) (mul-le-mul h.0 h.0), squares-le-weights w a n k places h.1)

  -- the same number at each place
  pub sum_over-eq : (f g : A → ℕ) (places : List A) → Everywhere (λ p. f p ≡ g p) places → sum_over f places ≡ sum_over g places
  unfolding sum_over
  sum_over-eq f g [] h = refl
  sum_over-eq f g (p ∷ places) h = rw (h.0, sum_over-eq f g places h.1)

  -- at each place at most m times its weight
  pub sum_over-le-multiple : (f w : A → ℕ) (m : ℕ) (places : List A) → Everywhere (λ p. f p ≤ w p * m) places → sum_over f places ≤ sum_over w places * m
  unfolding sum_over
  sum_over-le-multiple f w m [] h = omega arith
  sum_over-le-multiple f w m (p ∷ places) h = omega (arith, h.0, sum_over-le-multiple f w m places h.1)

  -- a fact of everything, at each place
  pub everywhere-all : (F : A → Type 0) → ((p : A) → F p) → (places : List A) → Everywhere F places
  everywhere-all F h [] = tt
  everywhere-all F h (p ∷ places) = (h p, everywhere-all F h places)

  -- a fact that follows from another at each place
  pub everywhere-imp : (F G : A → Type 0) → ((p : A) → F p → G p) → (places : List A) → Everywhere F places → Everywhere G places
  everywhere-imp F G i [] h = tt
  everywhere-imp F G i (p ∷ places) h = (i p h.0, everywhere-imp F G i places h.1)

  -- two facts that give a third at each place
  pub everywhere_both :
      (F G H : A → Type 0) → ((p : A) → F p → G p → H p) → (places : List A) →
      Everywhere F places → Everywhere G places → Everywhere H places
  everywhere_both F G H i [] f g = tt
  everywhere_both F G H i (p ∷ places) f g = (i p f.0 g.0, everywhere_both F G H i places f.1 g.1)

  -- at each place but the first n
  pub everywhere-drop : (F : A → Type 0) (n : ℕ) (places : List A) → Everywhere F places → Everywhere F (drop n places)
  everywhere-drop F zero places h = h
  everywhere-drop F (suc n) [] h = tt
  everywhere-drop F (suc n) (p ∷ places) h = everywhere-drop F n places h.1

  -- a fact of what is made of each entry
  pub everywhere-of-map : {B : Type 0} (f : A → B) (F : B → Type 0) (places : List A) → Everywhere F (map f places) → Everywhere (λ p. F (f p)) places
  everywhere-of-map f F [] h = tt
  everywhere-of-map f F (p ∷ places) h = (h.0, everywhere-of-map f F places h.1)

  -- two lists, one after the other
  pub sum_over-append : (f : A → ℕ) (places more : List A) → sum_over f (places ++ more) ≡ sum_over f places + sum_over f more
  unfolding sum_over
  sum_over-append f [] more = omega arith
  sum_over-append f (p ∷ places) more = omega (arith, sum_over-append f places more)

  pub everywhere-append : (F : A → Type 0) (places more : List A) → Everywhere F places → Everywhere F more → Everywhere F (places ++ more)
  everywhere-append F [] more h k = k
  everywhere-append F (p ∷ places) more h k = (h.0, everywhere-append F places more h.1 k)

  pub everywhere-tabulate : (F : A → Type 0) (n : ℕ) (f : ℕ → A) → ((i : ℕ) → i < n → F (f i)) → Everywhere F (tabulate n f)
  unfolding tabulate
  everywhere-tabulate F zero f h = tt
  everywhere-tabulate F (suc n) f h =
      everywhere-append F (tabulate n f) (f n ∷ []) (everywhere-tabulate F n f (λ i l. h i (omega arith))) (h n (omega arith), tt)
