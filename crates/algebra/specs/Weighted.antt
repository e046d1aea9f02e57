-- Finite sums over a list with weights, and what it means that the root of such a sum lies near an exact one.
-- Document 01, "Groups": a value is the whole part of the root of a sum of weights times squares, and demand 3 compares it with an
-- exact sum that is a fraction. The exact root need not be a fraction, so both sides are compared as squares, and no root is taken.
use Rattle.std.specs.Prelude.{List, [], ◌∷◌, ℕ, ◌+◌, ◌*◌, ◌-◌, ◌≤◌, ◌<◌, ℤ, pos, nat_abs, ◌-ℤ◌, ◌*ℤ◌}

-- the sum of f over the list
unfoldable pub sum_over : {A : Type 0} → (A → ℕ) → List A → ℕ
sum_over f [] = 0
sum_over f (p ∷ places) = f p + sum_over f places

-- the sum of w · a²
abbrev pub weighted_squares : {A : Type 0} → (A → ℕ) → (A → ℤ) → List A → ℕ
weighted_squares w a places = sum_over (λ p. w p * (nat_abs (a p) * nat_abs (a p))) places

-- a fact that holds at each entry of the list
abbrev pub Everywhere : {A : Type 0} → (A → Type 0) → List A → Type 0
Everywhere F [] = Unit {0}
Everywhere F (p ∷ places) = F p × Everywhere F places

-- a weight, the whole number that was computed, and the numerator of the exact number; the exact numbers of a list share a denominator
pub record Place : Type 0 where
  pub weight : ℕ
  pub value : ℤ
  pub exact : ℤ

abbrev pub total_weight : List Place → ℕ
total_weight = sum_over (λ p. p.weight)

-- the sum of weight · value²
abbrev pub squares : List Place → ℕ
squares = weighted_squares (λ p. p.weight) (λ p. p.value)

-- the sum of weight · exact²: the numerator of the exact sum, whose denominator is the square of the shared one
abbrev pub exact_squares : List Place → ℕ
exact_squares = weighted_squares (λ p. p.weight) (λ p. p.exact)

-- the value over the denominator D of the exact numbers, less the exact number
abbrev pub difference : ℕ → Place → ℤ
difference D p = pos D *ℤ p.value -ℤ p.exact

-- the differences, as fractions over D, have a weighted sum of squares of at most c · P²
pub record DifferencesWithin (places : List Place) (D c P : ℕ) : Type 0 where
  pub exact-denominator-pos : 0 < D
  pub spread : weighted_squares (λ p. p.weight) (difference D) places ≤ c * (P * D * (P * D))

-- the value is within m/n of the exact number, whose denominator is D
abbrev pub Near : (D m n : ℕ) → Place → Type 0
Near D m n p = n * nat_abs (difference D p) ≤ m * D

-- Each value is within m/n of its exact number, and the weights total at most W. Then the differences have a weighted sum of squares
-- of at most W · (m/n)², and c · P² is a bound on that.
pub record NearVector (places : List Place) (D m n W c P : ℕ) : Type 0 where
  pub exact-denominator-pos : 0 < D
  pub distance-denominator-pos : 0 < n
  pub near : Everywhere (Near D m n) places
  pub weights : total_weight places ≤ W
  pub spread : W * (m * m) ≤ c * (P * P) * (n * n)

-- r is the whole part of the root of S / c
pub record RootOver (c S r : ℕ) : Type 0 where
  pub low : c * (r * r) ≤ S
  pub high : S < c * ((r + 1) * (r + 1))

-- The exact root, of E / D² / c, is within u of r: r less u, not below 0, squared and times c, is at most E / D², and that is at most
-- r plus u, squared and times c.
pub record WithinUnits (c E D r u : ℕ) : Type 0 where
  pub low : c * ((r - u) * (r - u)) * (D * D) ≤ E
  pub high : E ≤ c * ((r + u) * (r + u)) * (D * D)
