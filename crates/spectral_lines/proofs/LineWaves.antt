-- The waves of a line by the places of a window (card 13), at two places that add up to a whole number of half turns.
use mathlib.Core.Path.{◌≡◌, ap}
use Prim.Native.Nat.{ℕ, ◌+◌, ◌*◌, ◌%◌}
use native.Mathlib.Omega.{arith}
use lib.IntN.{neg_ℤ}
use Rattle.sine.specs.Turn.{turn, half_turn}
use Rattle.sine.proofs.Symmetry.{table_sine-mirrored, table_sine-odd, table_cosine-mirrored, table_cosine-even}
use Rattle.spectral_lines.specs.Folding.{cosine_of, sine_of}

-- ---- at two places that add up to m

module _ (k p q m : ℕ) (sum : p + q ≡ m) where
  pub angles : p * k + q * k ≡ m * k
  angles = let product : (p + q) * k ≡ m * k = ap (λ n. n * k) sum in omega (arith, product)

  pub cosine-same : (m * k) % turn ≡ 0 → cosine_of k p ≡ cosine_of k q
  cosine-same h = table_cosine-even (p * k) (q * k) (rw angles h)

  pub cosine-opposite : (m * k) % turn ≡ half_turn → cosine_of k p ≡ neg_ℤ (cosine_of k q)
  cosine-opposite h = table_cosine-mirrored (p * k) (q * k) (rw angles h)

  pub sine-same : (m * k) % turn ≡ half_turn → sine_of k p ≡ sine_of k q
  sine-same h = table_sine-mirrored (p * k) (q * k) (rw angles h)

  pub sine-opposite : (m * k) % turn ≡ 0 → sine_of k p ≡ neg_ℤ (sine_of k q)
  sine-opposite h = table_sine-odd (p * k) (q * k) (rw angles h)
