-- The sine by the cosine (card 13): where half × k is a quarter turn or three of them, the sine at a place is, but for its sign, the cosine at the place that lies `sine_ahead half` before it.
use mathlib.Core.Path.{◌≡◌, ◌∙◌}
use Prim.Native.Nat.{ℕ, ◌+◌, ◌*◌, ◌/◌, ◌%◌, ◌≤◌}
use native.Mathlib.Omega.{arith}
use lib.IntN.{neg_ℤ}
use Rattle.sine.specs.Turn.{turn, half_turn, quarter_turn}
use Rattle.sine.specs.Wave.{table_cosine}
use Rattle.sine.proofs.Symmetry.{table_sine-turns, table_sine-half}
use Rattle.spectral_lines.specs.Folding.{cosine_of, sine_of}
use Rattle.spectral_lines.proofs.LineWaves.{angles}
use Rattle.spectrum.specs.LinePlaces.{sine_ahead}

module _ (half k : ℕ) (most : half ≤ 512) where
  ahead-angle : (p : ℕ) → (p + sine_ahead half) * k + 3 * (half * k) ≡ p * k + turn * k
  ahead-angle p =
      let back = angles k (p + sine_ahead half) (3 * half) (p + turn) (omega arith) in
      omega (arith, back)

  quarter-on : (a b c : ℕ) → a + 3 * b ≡ c + turn * k → b % turn ≡ quarter_turn → turn * (3 * (b / turn) + 1) + a ≡ turn * k + (c + quarter_turn)
  quarter-on a b c sum h = omega arith

  three-quarters-on : (a b c : ℕ) → a + 3 * b ≡ c + turn * k → b % turn ≡ 3 * quarter_turn → turn * (3 * (b / turn) + 3) + a ≡ turn * k + (c + quarter_turn + half_turn)
  three-quarters-on a b c sum h = omega arith

  pub sine-is-cosine : (half * k) % turn ≡ quarter_turn → (p : ℕ) → sine_of k (p + sine_ahead half) ≡ cosine_of k p
  unfolding table_cosine
  sine-is-cosine h p =
      let a = (p + sine_ahead half) * k in
      table_sine-turns a (p * k + quarter_turn) (3 * (half * k / turn) + 1) k (quarter-on a (half * k) (p * k) (ahead-angle p) h)

  pub sine-is-opposite : (half * k) % turn ≡ 3 * quarter_turn → (p : ℕ) → sine_of k (p + sine_ahead half) ≡ neg_ℤ (cosine_of k p)
  unfolding table_cosine
  sine-is-opposite h p =
      let a = (p + sine_ahead half) * k in
      table_sine-turns a (p * k + quarter_turn + half_turn) (3 * (half * k / turn) + 3) k (three-quarters-on a (half * k) (p * k) (ahead-angle p) h)
      ∙ table_sine-half (p * k + quarter_turn)
