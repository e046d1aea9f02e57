-- The pulse of document 01, "Worked numbers": sample 0 is 1000, the rest 0, and every line is 4000000. Beside it two samples whose lines differ, so that a line's number is worked too.
use mathlib.Core.Bool.{false}
use mathlib.Core.List.{List, [], ◌∷◌}
use mathlib.Core.Path.{◌≡◌, refl}
use Prim.Native.Nat.{ℕ, zero, suc, ◌+◌, ◌*◌, ◌<◌}
use native.Mathlib.Decide.{dec_lt}
use native.Mathlib.Nat.{zero-mul}
use native.Mathlib.Omega.{arith}
use lib.IntN.{ℤ, pos, ◌+ℤ◌, ◌*ℤ◌, zero-*ℤ, +ℤ_idl, +ℤ_idr}
use lib.ListN.{get_or, replicate, length-replicate, get_or-replicate, get_or-eq_default}
use Rattle.algebra.specs.Lists.{tabulate}
use Rattle.std.specs.List.{list_any}
use Rattle.algebra.proofs.Lists.{tabulate-same}
use Rattle.algebra.specs.Rounding.{nearest, nearestℤ, floor_over}
use Rattle.algebra.specs.Sums.{sum_to}
use Rattle.sine.specs.ExactSine.{factorial, denominator, term, added, taken_away, quarter_sine}
use Rattle.sine.specs.Turn.{over_half, over_turn}
use Rattle.sine.specs.Wave.{table_entry, table_sine, table_cosine}
use Rattle.spectral_lines.specs.Line.{sum_scale, line_sum, rounded_sum, line_of, lines_from}
use Rattle.windows.specs.Window.{window_at, out_of_range}
use Rattle.algebra.specs.Integers.{square}
use Rattle.spectral_lines.specs.Calls.{lines_from_refusal, lines_from_exit}
use Rattle.spectral_lines.proofs.Bounds.{summand}

unfoldable pub pulse : List ℤ
pulse = pos 1000 ∷ replicate 2047 (pos 0)

pub pulse-in-range : list_any out_of_range pulse ≡ false
unfolding pulse out_of_range
pulse-in-range = refl

-- a sample 0 and a sample 3, the rest 0
unfoldable pub two_samples : ℤ → ℤ → List ℤ
two_samples a b = a ∷ pos 0 ∷ pos 0 ∷ b ∷ replicate 2044 (pos 0)

module _ (a b : ℤ) where
  first-four : (get_or (two_samples a b) 0 (pos 0) ≡ a) × (get_or (two_samples a b) 1 (pos 0) ≡ pos 0)
      × (get_or (two_samples a b) 2 (pos 0) ≡ pos 0) × (get_or (two_samples a b) 3 (pos 0) ≡ b)
  unfolding two_samples
  first-four = (refl, refl, refl, refl)

  rest : (j : ℕ) → get_or (two_samples a b) (suc (suc (suc (suc j)))) (pos 0) ≡ pos 0
  unfolding two_samples
  rest j = go (dec_lt j 2044)
    where
      go : Dec (j < 2044) → get_or (replicate 2044 (pos 0)) j (pos 0) ≡ pos 0
      go (yes h) = get_or-replicate 2044 j (pos 0) (pos 0) h
      go (no f) = get_or-eq_default (replicate 2044 (pos 0)) (pos 0) {n = j} (omega (arith, length-replicate 2044 (pos 0)))

  -- so a sum is two of its summands
  partial_sum : (wave : ℕ → ℤ) (k n : ℕ) → sum_to (suc (suc (suc (suc n)))) (summand wave (two_samples a b) k)
      ≡ a *ℤ wave 0 +ℤ b *ℤ wave (3 * k)
  unfolding sum_to
  partial_sum wave k zero =
      rw (+ℤ_idl, first-four.0, first-four.1, first-four.2, first-four.3, zero-mul) (simp (zero-*ℤ, +ℤ_idr))
  partial_sum wave k (suc n) = rw (rest n, zero-*ℤ, +ℤ_idr) (partial_sum wave k n)

  pub two_samples-line : (k : ℕ) → line_of (two_samples a b) k
      ≡ square (nearestℤ (a *ℤ table_cosine 0 +ℤ b *ℤ table_cosine (3 * k)) sum_scale)
      + square (nearestℤ (a *ℤ table_sine 0 +ℤ b *ℤ table_sine (3 * k)) sum_scale)
  unfolding line_of rounded_sum line_sum
  two_samples-line k = rw (partial_sum table_cosine k 2044, partial_sum table_sine k 2044)

-- A is 1000 × 2^30 / 2^29, and B is 0
pulse-squares : square (nearestℤ (pos 1000 *ℤ table_cosine 0) sum_scale) + square (nearestℤ (pos 1000 *ℤ table_sine 0) sum_scale) ≡ 4000000
unfolding square nearestℤ floor_over table_cosine table_sine over_turn over_half table_entry nearest quarter_sine added taken_away term factorial denominator
pulse-squares = refl

pulse-is : pulse ≡ two_samples (pos 1000) (pos 0)
unfolding pulse two_samples
pulse-is = refl

pub pulse-line : (k : ℕ) → line_of pulse k ≡ 4000000
pulse-line k = rw (pulse-is, two_samples-line) (simp (zero-*ℤ, +ℤ_idr) pulse-squares)

pub pulse-lines : (first count : ℕ) → lines_from first count pulse ≡ replicate count 4000000
unfolding lines_from
pulse-lines first count = tabulate-same count _ 4000000 (λ i inside. pulse-line (first + i))

-- no signal
unfoldable pub silence : List ℤ
silence = replicate 2048 (pos 0)

silence-is : silence ≡ two_samples (pos 0) (pos 0)
unfolding silence two_samples
silence-is = refl

silence-line : (k : ℕ) → line_of silence k ≡ 0
unfolding square nearestℤ floor_over
silence-line k = rw (silence-is, two_samples-line) (simp zero-*ℤ)

pub silence-lines : (first count : ℕ) → lines_from first count silence ≡ replicate count 0
unfolding lines_from
silence-lines first count = tabulate-same count _ 0 (λ i inside. silence-line (first + i))

-- 1000 at the samples 0 and 3, whose spectrum is not flat
abbrev pair : List ℤ
pair = two_samples (pos 1000) (pos 1000)

-- line k has the angle 3k
pair-lines : line_of pair 0 ∷ line_of pair 1 ∷ line_of pair 100 ∷ line_of pair 256 ∷ line_of pair 511 ∷ line_of pair 700 ∷ []
    ≡ 16000000 ∷ 16000324 ∷ 12844985 ∷ 2342792 ∷ 7928324 ∷ 15901749 ∷ []
unfolding square nearestℤ floor_over table_cosine table_sine over_turn over_half table_entry nearest quarter_sine added taken_away term factorial denominator
pair-lines = simp two_samples-line

-- the last two of the lines 0..1,023
pair-last-lines : lines_from 1022 2 pair ≡ 1369 ∷ 324 ∷ []
unfolding lines_from tabulate square nearestℤ floor_over table_cosine table_sine over_turn over_half table_entry nearest quarter_sine added taken_away term factorial denominator
pair-last-lines = simp two_samples-line

-- what a call for them leaves in a buffer
pub pair-exit : lines_from_exit pair 0 1022 (7 ∷ 7 ∷ []) ≡ 1369 ∷ 324 ∷ []
unfolding lines_from_exit lines_from_refusal window_at out_of_range two_samples
pair-exit = pair-last-lines
