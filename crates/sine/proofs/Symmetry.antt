-- The exact symmetries of the table's sine, on which card 13 rests: two indices that add up to half a turn have the same value, two that add up to a whole turn opposite ones, and half a turn more changes the sign.
-- They hold of every wave that is made of a quarter which begins with 0.
use mathlib.Core.Path.{◌≡◌, refl, sym, ap, ◌∙◌}
use mathlib.Core.Logic.{⊎_elim}
use Prim.Native.Nat.{ℕ, ◌+◌, ◌-◌, ◌*◌, ◌%◌, ◌≤◌, ◌<◌}
use native.Mathlib.Nat.{mul-add-mod_self_left}
use native.Mathlib.Omega.{arith}
use lib.IntN.{pos, neg_ℤ, neg_ℤ-neg_ℤ}
use Rattle.std.proofs.lemmas.Bool.{cases_lt}
use Rattle.algebra.specs.Rounding.{nearest}
use Rattle.sine.specs.Turn.{over_half, over_turn, turn, half_turn, quarter_turn}
use Rattle.sine.specs.ExactSine.{denominator, term, factorial, added, taken_away, quarter_sine}
use Rattle.sine.specs.Wave.{table_entry, table_sine, table_cosine}
use Rattle.sine.proofs.Turn.{over_half-up, over_half-back, over_turn-first, over_turn-second}
use Rattle.sine.proofs.Wave.{table_sine-mod}

module _ (f : ℕ → ℕ) where
  -- the first half turn goes back as it came
  pub over_half-mirrored : (r s : ℕ) → r + s ≡ half_turn → over_half f r ≡ over_half f s
  over_half-mirrored r s sum = ⊎_elim down (λ up. ⊎_elim (back up) (both-up up) (cases_lt quarter_turn s)) (cases_lt quarter_turn r)
    where
      both-up : r ≤ quarter_turn → s ≤ quarter_turn → over_half f r ≡ over_half f s
      both-up x y = let same : r ≡ s = omega arith in ap (over_half f) same

      back : r ≤ quarter_turn → quarter_turn < s → over_half f r ≡ over_half f s
      back up past =
          let mirror : r ≡ half_turn - s = omega arith in
          over_half-up f r up ∙ ap f mirror ∙ sym (over_half-back f s past)

      down : quarter_turn < r → over_half f r ≡ over_half f s
      down past =
          let mirror : half_turn - r ≡ s = omega arith in
          over_half-back f r past ∙ ap f mirror ∙ sym (over_half-up f s (omega arith))

  -- the second half turn is the negative of the first
  over_turn-half : (i : ℕ) → over_turn f (i + half_turn) ≡ neg_ℤ (over_turn f i)
  over_turn-half i =
      ⊎_elim
      (λ early.
      let on : (i + half_turn) % turn - half_turn ≡ i % turn = omega arith in
      over_turn-second f (i + half_turn) (omega arith)
      ∙ ap (λ n. neg_ℤ (pos (over_half f n))) on
      ∙ sym (ap neg_ℤ (over_turn-first f i early)))
      (λ late.
      let back : (i + half_turn) % turn ≡ i % turn - half_turn = omega arith in
      over_turn-first f (i + half_turn) (omega arith)
      ∙ ap (λ n. pos (over_half f n)) back
      ∙ sym (ap neg_ℤ (over_turn-second f i late) ∙ neg_ℤ-neg_ℤ (pos (over_half f (i % turn - half_turn)))))
      (cases_lt (i % turn) half_turn)

  module _ (begins : f 0 ≡ 0) where
    -- the wave is 0 where a half turn begins
    over_turn-start : (i : ℕ) → i % half_turn ≡ 0 → over_turn f i ≡ pos 0
    over_turn-start i h =
        ⊎_elim
        (λ early.
        let start : i % turn ≡ 0 = omega arith in
        over_turn-first f i early ∙ ap (λ n. pos (over_half f n)) start ∙ ap pos nothing)
        (λ late.
        let start : i % turn - half_turn ≡ 0 = omega arith in
        over_turn-second f i late ∙ ap (λ n. neg_ℤ (pos (over_half f n))) start ∙ ap (λ n. neg_ℤ (pos n)) nothing)
        (cases_lt (i % turn) half_turn)
      where
        nothing : over_half f 0 ≡ 0
        nothing = over_half-up f 0 (omega arith) ∙ begins

    -- in the first half turn, and then anywhere
    mirrored-early : (a b : ℕ) → (a + b) % turn ≡ half_turn → a % turn < half_turn → over_turn f a ≡ over_turn f b
    mirrored-early a b sum early =
        ⊎_elim
        (λ both.
        over_turn-first f a early
        ∙ ap pos (over_half-mirrored (a % turn) (b % turn) (omega arith))
        ∙ sym (over_turn-first f b both))
        (λ late. over_turn-start a (omega arith) ∙ sym (over_turn-start b (omega arith)))
        (cases_lt (b % turn) half_turn)

    over_turn-mirrored : (a b : ℕ) → (a + b) % turn ≡ half_turn → over_turn f a ≡ over_turn f b
    over_turn-mirrored a b sum =
        ⊎_elim
        (mirrored-early a b sum)
        (λ late.
        let negated = mirrored-early (a + half_turn) (b + half_turn) (omega arith) (omega arith) in
        sym (neg_ℤ-neg_ℤ (over_turn f a))
        ∙ ap neg_ℤ (sym (over_turn-half a) ∙ negated ∙ over_turn-half b)
        ∙ neg_ℤ-neg_ℤ (over_turn f b))
        (cases_lt (a % turn) half_turn)

    over_turn-odd : (a b : ℕ) → (a + b) % turn ≡ 0 → over_turn f a ≡ neg_ℤ (over_turn f b)
    over_turn-odd a b sum = over_turn-mirrored a (b + half_turn) (omega arith) ∙ over_turn-half b

-- ---- the table

table-begins : table_entry 0 ≡ 0
unfolding table_entry nearest quarter_sine denominator added taken_away term factorial
table-begins = refl

-- the sine at half a turn less the index, and at a whole turn less the index
pub table_sine-mirrored : (a b : ℕ) → (a + b) % turn ≡ half_turn → table_sine a ≡ table_sine b
unfolding table_sine
table_sine-mirrored = over_turn-mirrored table_entry table-begins

pub table_sine-odd : (a b : ℕ) → (a + b) % turn ≡ 0 → table_sine a ≡ neg_ℤ (table_sine b)
unfolding table_sine
table_sine-odd = over_turn-odd table_entry table-begins

pub table_sine-start : (i : ℕ) → i % half_turn ≡ 0 → table_sine i ≡ pos 0
unfolding table_sine
table_sine-start = over_turn-start table_entry table-begins

-- the same index but for turns, and half a turn more
pub table_sine-turns : (a b m n : ℕ) → turn * m + a ≡ turn * n + b → table_sine a ≡ table_sine b
table_sine-turns a b m n same =
    let residues : a % turn ≡ b % turn = sym (mul-add-mod_self_left turn m a) ∙ ap (λ i. i % turn) same ∙ mul-add-mod_self_left turn n b in
    sym (table_sine-mod a) ∙ ap table_sine residues ∙ table_sine-mod b

pub table_sine-half : (i : ℕ) → table_sine (i + half_turn) ≡ neg_ℤ (table_sine i)
unfolding table_sine
table_sine-half = over_turn-half table_entry

-- the same of the cosine, which is a quarter turn ahead
pub table_cosine-mirrored : (a b : ℕ) → (a + b) % turn ≡ half_turn → table_cosine a ≡ neg_ℤ (table_cosine b)
unfolding table_cosine
table_cosine-mirrored a b sum = table_sine-odd (a + quarter_turn) (b + quarter_turn) (omega arith)

pub table_cosine-even : (a b : ℕ) → (a + b) % turn ≡ 0 → table_cosine a ≡ table_cosine b
unfolding table_cosine
table_cosine-even a b sum = table_sine-mirrored (a + quarter_turn) (b + quarter_turn) (omega arith)

pub table_cosine-quarter : (i : ℕ) → i % half_turn ≡ quarter_turn → table_cosine i ≡ pos 0
unfolding table_cosine
table_cosine-quarter i h = table_sine-start (i + quarter_turn) (omega arith)
