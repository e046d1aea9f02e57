-- A turn made of its first quarter: what holds over the quarter holds at every index, and the wave repeats after a turn.
use mathlib.Core.Path.{◌≡◌}
use mathlib.Core.Logic.{⊎_elim}
use Prim.Native.Nat.{ℕ, ◌-◌, ◌%◌, ◌≤◌, ◌<◌}
use native.Mathlib.Nat.{mod-mod}
use native.Mathlib.Omega.{arith}
use lib.IntN.{ℤ, pos, neg_ℤ}
use borrow.Author.Tests.{lt-ltb, le-ltb, le-leb, lt-leb}
use Rattle.std.proofs.lemmas.Bool.{cases_lt}
use Rattle.sine.specs.Turn.{over_half, over_turn, turn, half_turn, quarter_turn}

-- the four quarters
module _ (f : ℕ → ℕ) where
  pub over_half-up : (r : ℕ) → r ≤ quarter_turn → over_half f r ≡ f r
  unfolding over_half
  over_half-up r h = rw (le-leb r quarter_turn h)

  pub over_half-back : (r : ℕ) → quarter_turn < r → over_half f r ≡ f (half_turn - r)
  unfolding over_half
  over_half-back r h = rw (lt-leb r quarter_turn h)

  pub over_turn-first : (i : ℕ) → i % turn < half_turn → over_turn f i ≡ pos (over_half f (i % turn))
  unfolding over_turn
  over_turn-first i h = rw (lt-ltb (i % turn) half_turn h)

  pub over_turn-second : (i : ℕ) → half_turn ≤ i % turn → over_turn f i ≡ neg_ℤ (pos (over_half f (i % turn - half_turn)))
  unfolding over_turn
  over_turn-second i h = rw (le-ltb (i % turn) half_turn h)

-- a relation of two waves that holds over the quarter and is kept by a minus on both holds at every index
module _ (P : ℤ → ℤ → Type 0) (f g : ℕ → ℕ)
    (over-quarter : (m : ℕ) → m ≤ quarter_turn → P (pos (f m)) (pos (g m)))
    (negated : (a b : ℕ) → P (pos a) (pos b) → P (neg_ℤ (pos a)) (neg_ℤ (pos b))) where
  over-half : (r : ℕ) → r ≤ half_turn → P (pos (over_half f r)) (pos (over_half g r))
  over-half r h =
      ⊎_elim
      (λ back. rw (over_half-back f r back, over_half-back g r back) (over-quarter (half_turn - r) (omega arith)))
      (λ up. rw (over_half-up f r up, over_half-up g r up) (over-quarter r up))
      (cases_lt quarter_turn r)

  pub over-turn : (i : ℕ) → P (over_turn f i) (over_turn g i)
  over-turn i =
      ⊎_elim
      (λ first. rw (over_turn-first f i first, over_turn-first g i first) (over-half (i % turn) (omega arith)))
      (λ second.
      rw (over_turn-second f i second, over_turn-second g i second)
      (negated (over_half f (i % turn - half_turn)) (over_half g (i % turn - half_turn))
      (over-half (i % turn - half_turn) (omega arith))))
      (cases_lt (i % turn) half_turn)

-- the wave repeats after a turn
pub over_turn-mod : (f : ℕ → ℕ) (i : ℕ) → over_turn f (i % turn) ≡ over_turn f i
unfolding over_turn
over_turn-mod f i = rw mod-mod
