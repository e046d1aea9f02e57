-- The table's points keep within a circle: at each index the squares of sine and cosine add up to at most (2^30 + 1)², on which card 14 rests.
use mathlib.Core.Path.{◌≡◌, ap, ◌∙◌}
use mathlib.Core.Logic.{⊎_elim}
use Prim.Native.Nat.{ℕ, ◌+◌, ◌-◌, ◌*◌, ◌%◌, ◌≤◌}
use native.Mathlib.Omega.{arith}
use lib.Dec.{leb, leb→le}
use lib.IntN.{pos, nat_abs}
use Rattle.std.proofs.lemmas.Bool.{cases_lt}
use Rattle.algebra.specs.Integers.{square}
use Rattle.algebra.specs.Rounding.{nearest}
use Rattle.algebra.proofs.Computed.{pass_below}
use Rattle.algebra.proofs.Integer.{nat_abs-negℤ}
use Rattle.sine.specs.Turn.{over_half, over_turn, turn, half_turn, quarter_turn}
use Rattle.sine.specs.ExactSine.{denominator, term, factorial, added, taken_away, quarter_sine}
use Rattle.sine.specs.Wave.{full_scale, table_entry, table_sine, table_cosine}
use Rattle.sine.proofs.Turn.{over_half-up, over_turn-first, over_turn-second}
use Rattle.sine.proofs.Symmetry.{over_half-mirrored}

-- ---- any wave that is made of a quarter

module _ (f : ℕ → ℕ) where
  -- but for the sign, both halves of a turn are alike
  nat_abs-over_turn : (i : ℕ) → nat_abs (over_turn f i) ≡ over_half f (i % half_turn)
  nat_abs-over_turn i =
      ⊎_elim
      (λ early.
      let same : i % turn ≡ i % half_turn = omega arith in
      ap nat_abs (over_turn-first f i early) ∙ ap (over_half f) same)
      (λ late.
      let same : i % turn - half_turn ≡ i % half_turn = omega arith in
      ap nat_abs (over_turn-second f i late) ∙ nat_abs-negℤ (pos (over_half f (i % turn - half_turn))) ∙ ap (over_half f) same)
      (cases_lt (i % turn) half_turn)

  -- the wave at an index and a quarter turn later are, but for the sign, the quarter at m and at 512 − m
  over-circle :
      (P : ℕ → ℕ → Type 0) →
      ((m : ℕ) → m ≤ quarter_turn → P (f m) (f (quarter_turn - m))) →
      (i : ℕ) → P (nat_abs (over_turn f i)) (nat_abs (over_turn f (i + quarter_turn)))
  over-circle P over-quarter i =
      let r = i % half_turn in
      let s = (i + quarter_turn) % half_turn in
      rw (nat_abs-over_turn i, nat_abs-over_turn (i + quarter_turn))
      (⊎_elim
      (λ up.
      let cosine : over_half f s ≡ f (quarter_turn - r) =
      over_half-mirrored f s (quarter_turn - r) (omega arith) ∙ over_half-up f (quarter_turn - r) (omega arith) in
      rw (over_half-up f r (omega arith), cosine) (over-quarter r (omega arith)))
      (λ back.
      let sine : over_half f r ≡ f (half_turn - r) = over_half-mirrored f r (half_turn - r) (omega arith) ∙ over_half-up f (half_turn - r) (omega arith) in
      let mirror : s ≡ quarter_turn - (half_turn - r) = omega arith in
      let cosine : over_half f s ≡ f (quarter_turn - (half_turn - r)) = over_half-up f s (omega arith) ∙ ap f mirror in
      rw (sine, cosine) (over-quarter (half_turn - r) (omega arith)))
      (cases_lt r quarter_turn))

-- ---- the table

-- the radius: a unit more than the full scale, since the entries are rounded
abbrev pub largest_radius : ℕ
largest_radius = full_scale + 1

-- a point's distance from the centre, squared
abbrev distance_squared : ℕ → ℕ → ℕ
distance_squared sine cosine = sine * sine + cosine * cosine

abbrev radius_squared : ℕ
radius_squared = largest_radius * largest_radius

-- that of the entries at m and 512 − m
abbrev entries_squared : ℕ → ℕ
entries_squared m = distance_squared (table_entry m) (table_entry (quarter_turn - m))

-- one computed test over the quarter
entries-circle : (m : ℕ) → m ≤ quarter_turn → entries_squared m ≤ radius_squared
unfolding table_entry nearest quarter_sine denominator added taken_away term factorial
entries-circle m h =
    leb→le (entries_squared m) radius_squared
    (pass_below (λ k. leb (entries_squared k) radius_squared) (quarter_turn + 1) tt m (omega arith))

-- and so at each index
pub table-circle : (i : ℕ) → square (table_sine i) + square (table_cosine i) ≤ largest_radius * largest_radius
unfolding square table_sine table_cosine
table-circle = over-circle table_entry (λ sine cosine. distance_squared sine cosine ≤ radius_squared) entries-circle
