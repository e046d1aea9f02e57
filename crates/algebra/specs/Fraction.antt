-- The fractions of document 01 that are not below 0: a whole number over one above 0, compared by cross products.
-- Document 01 also writes value − 12; a comparison with it is stated with the 12 on the other side, so that no sign is needed.
use Rattle.std.specs.Prelude.{cond, List, [], ◌∷◌, ◌≡◌, ℕ, ◌+◌, ◌-◌, ◌*◌, ◌≤◌, ◌<◌, leb}
use Rattle.std.proofs.Common.{mul-pos, arith}

pub record Fraction : Type 0 where
  pub num : ℕ
  pub den : ℕ
  pub den_pos : 0 < den

-- a whole number as a fraction
unfoldable pub whole : ℕ → Fraction
whole n = record { num = n; den = 1; den_pos = omega arith }

infix 4 ◌≤ᶠ◌
-- p is at most q
abbrev pub ◌≤ᶠ◌ : Fraction → Fraction → Type 0
p ≤ᶠ q = p.num * q.den ≤ q.num * p.den

infix 4 ◌<ᶠ◌
-- p is below q
abbrev pub ◌<ᶠ◌ : Fraction → Fraction → Type 0
p <ᶠ q = p.num * q.den < q.num * p.den

infix 4 ◌≈ᶠ◌
-- p and q are equal
abbrev pub ◌≈ᶠ◌ : Fraction → Fraction → Type 0
p ≈ᶠ q = p.num * q.den ≡ q.num * p.den

infixl 6 ◌+ᶠ◌
unfoldable pub ◌+ᶠ◌ : Fraction → Fraction → Fraction
p +ᶠ q = record {
  num = p.num * q.den + q.num * p.den;
  den = p.den * q.den;
  den_pos = mul-pos p.den_pos q.den_pos;
}

-- the sum of some
unfoldable pub sumᶠ : List Fraction → Fraction
sumᶠ [] = whole 0
sumᶠ (p ∷ fractions) = p +ᶠ sumᶠ fractions

-- a whole number of times
unfoldable pub times : ℕ → Fraction → Fraction
times k p = record { num = k * p.num; den = p.den; den_pos = p.den_pos }

-- an n-th part, as document 01's average, sum/count
unfoldable pub divide : Fraction → (n : ℕ) → 0 < n → Fraction
divide p n positive = record { num = p.num; den = n * p.den; den_pos = mul-pos positive p.den_pos }

unfoldable pub square : Fraction → Fraction
square p = record { num = p.num * p.num; den = p.den * p.den; den_pos = mul-pos p.den_pos p.den_pos }

-- the greater of the two, as document 01's peak
unfoldable pub maximum : Fraction → Fraction → Fraction
maximum p q = cond (leb (p.num * q.den) (q.num * p.den)) q p

-- the mean with whole weights, (a×p + b×q) / (a + b), unrounded: the smoothing of document 01's exact book
unfoldable pub mix : (a b : ℕ) → 0 < a + b → Fraction → Fraction → Fraction
mix a b positive p q = divide (times a p +ᶠ times b q) (a + b) positive

-- the side from which an exact value bounds another: document 01's l books from below, its u books from above
pub data Side : Type 0 where
  lower upper : Side

-- p is at least the exact q less m, or at most q plus m
abbrev pub Within : Side → Fraction → Fraction → ℕ → Type 0
Within lower p q m = q ≤ᶠ p +ᶠ whole m
Within upper p q m = p ≤ᶠ q +ᶠ whole m

pub record Near (side : Side) (p q : Fraction) (m : ℕ) : Type 0 where
  pub within : Within side p q m

-- what document 01's books are fed: l with l² ≤ g, or u with g ≤ u², since g need not be the square of a fraction
abbrev pub RootBound : Side → Fraction → Fraction → Type 0
RootBound lower l g = square l ≤ᶠ g
RootBound upper u g = g ≤ᶠ square u

-- a whole number r near the root of g, said by squares: g ≤ (r plus k)², or (r less k, not below 0)² ≤ g
abbrev pub SquareWithin : Side → ℕ → Fraction → ℕ → Type 0
SquareWithin lower r g k = g ≤ᶠ square (whole (r + k))
SquareWithin upper r g k = square (whole (r - k)) ≤ᶠ g
