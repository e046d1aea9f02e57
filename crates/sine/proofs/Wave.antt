-- The table's sine: its bound, its distance from the exact sine, its period, its list, and worked values.
-- What holds of every index is shown over the quarter once.
use mathlib.Core.Path.{◌≡◌, refl, ap, ◌∙◌}
use mathlib.Core.Logic.{⊎_elim}
use mathlib.Core.List.{[], ◌∷◌, map}
use Prim.Native.Nat.{ℕ, zero, suc, ◌+◌, ◌*◌, ◌%◌, ◌≤◌, ◌<◌}
use native.Mathlib.Nat.{mod-lt}
use native.Mathlib.Omega.{arith}
use lib.Dec.{leb, leb→le, le→leb, lit<}
use lib.IntN.{pos, neg_ℤ, nat_abs, ◌-ℤ◌, ◌*ℤ◌, neg_ℤ-+ℤ}
use lib.ListN.{get_or}
use borrow.Author.Tests.{lt-ltb, le-ltb}
use Rattle.std.proofs.lemmas.Bool.{cases_lt}
use Rattle.algebra.specs.Rounding.{nearest}
use Rattle.algebra.proofs.Integer.{*ℤ-negℤ, nat_abs-negℤ}
use Rattle.algebra.proofs.Lists.{get_or-tabulate}
use Rattle.sine.specs.Turn.{over_half, over_turn, turn, quarter_turn}
use Rattle.sine.specs.ExactSine.{denominator, term, factorial, added, taken_away, quarter_sine, exact_sine, exact_cosine}
use Rattle.sine.specs.Wave.{full_scale, table_entry, table_sine, table_cosine, WithinHalfUnit, quarter_list, height_in, wave_list}
use Rattle.algebra.proofs.Computed.{pass_below}
use Rattle.algebra.proofs.Rounding.{nearest-is}
use Rattle.sine.proofs.Turn.{over-turn, over_turn-mod}
use Rattle.sine.proofs.ExactSine.{denominator-pos}

-- the table is at most the full scale
pub table_entry-le : (m : ℕ) → m ≤ quarter_turn → table_entry m ≤ full_scale
unfolding table_entry nearest quarter_sine denominator added taken_away term factorial
table_entry-le m h =
    leb→le (table_entry m) full_scale
    (pass_below (λ k. leb (table_entry k) full_scale) (quarter_turn + 1) tt m (omega arith))

pub table_sine-le : (i : ℕ) → nat_abs (table_sine i) ≤ full_scale
unfolding table_sine
table_sine-le =
    over-turn (λ table _. nat_abs table ≤ full_scale) table_entry table_entry table_entry-le
    (λ a b h. rw (nat_abs-negℤ (pos a)) h)

pub table_cosine-le : (i : ℕ) → nat_abs (table_cosine i) ≤ full_scale
unfolding table_cosine
table_cosine-le i = table_sine-le (i + quarter_turn)

-- two whole numbers of which neither is more than d/2 above the other
half-apart : (x y d : ℕ) → 2 * x ≤ 2 * y + d → 2 * y ≤ 2 * x + d → 2 * nat_abs (pos x -ℤ pos y) ≤ d
half-apart x zero d h k = omega arith
half-apart x (suc y) d h k =
    ⊎_elim
    (λ (below : x < suc y). rw (lt-ltb x (suc y) below) (omega arith))
    (λ (above : suc y ≤ x). rw (le-ltb x (suc y) above) (omega arith))
    (cases_lt x (suc y))

-- the table is at most half a unit from 2^30 times the exact sine
table_entry-near : (m : ℕ) → m ≤ quarter_turn → WithinHalfUnit (pos (quarter_sine m)) (pos (table_entry m))
unfolding table_entry
table_entry-near m h =
    let rounded = nearest-is (full_scale * quarter_sine m) denominator denominator-pos in
    half-apart (full_scale * quarter_sine m) (denominator * table_entry m) denominator (omega arith) (omega arith)

near-negℤ : (a b : ℕ) → WithinHalfUnit (pos a) (pos b) → WithinHalfUnit (neg_ℤ (pos a)) (neg_ℤ (pos b))
near-negℤ a b h =
    rw (
      *ℤ-negℤ (pos full_scale) (pos a),
      *ℤ-negℤ (pos denominator) (pos b),
      ← neg_ℤ-+ℤ (pos (full_scale * a)) (neg_ℤ (pos (denominator * b))),
      nat_abs-negℤ (pos (full_scale * a) -ℤ pos (denominator * b)),
    )
    h

pub table_sine-near : (i : ℕ) → WithinHalfUnit (exact_sine i) (table_sine i)
unfolding exact_sine table_sine
table_sine-near = over-turn WithinHalfUnit quarter_sine table_entry table_entry-near near-negℤ

pub table_cosine-near : (i : ℕ) → WithinHalfUnit (exact_cosine i) (table_cosine i)
unfolding exact_cosine table_cosine
table_cosine-near i = table_sine-near (i + quarter_turn)

-- the next whole number is not
table_sine-next-not-near : WithinHalfUnit (exact_sine 1) (pos 3294194) → ⊥
unfolding exact_sine over_turn over_half quarter_sine denominator added taken_away term factorial
table_sine-next-not-near h =
    le→leb (2 * nat_abs (pos full_scale *ℤ exact_sine 1 -ℤ pos denominator *ℤ pos 3294194)) denominator h

-- an index may be reduced modulo a turn
pub table_sine-mod : (i : ℕ) → table_sine (i % turn) ≡ table_sine i
unfolding table_sine
table_sine-mod = over_turn-mod table_entry

-- the lists at each place
pub quarter_list-at : (m : ℕ) → m ≤ quarter_turn → get_or quarter_list m 0 ≡ table_entry m
unfolding quarter_list
quarter_list-at m h = get_or-tabulate (quarter_turn + 1) table_entry m 0 (omega arith)

-- a wave that is made of the table's list is the table's sine
pub quarter_list-wave : (i : ℕ) → over_turn (height_in quarter_list) i ≡ table_sine i
unfolding table_sine
quarter_list-wave =
    over-turn (λ made table. made ≡ table) (height_in quarter_list) table_entry
    (λ m h. ap pos (quarter_list-at m h))
    (λ a b same. ap neg_ℤ same)

pub wave_list-at : (i : ℕ) → i < turn → get_or wave_list i (pos 0) ≡ table_sine i
unfolding wave_list
wave_list-at i h = get_or-tabulate turn table_sine i (pos 0) h

pub wave_list-at-mod : (i : ℕ) → get_or wave_list (i % turn) (pos 0) ≡ table_sine i
wave_list-at-mod i = wave_list-at (i % turn) (mod-lt i (lit< tt)) ∙ table_sine-mod i

-- worked values, the four quarters with their edges, one index past the turn, and the cosine
table_sine-worked :
    map table_sine (0 ∷ 1 ∷ 256 ∷ 511 ∷ 512 ∷ 513 ∷ 768 ∷ 1023 ∷ 1024 ∷ 1025 ∷ 1280 ∷ 1536 ∷ 1792 ∷ 2047 ∷ 2049 ∷ [])
    ≡ pos 0
    ∷ pos 3294193
    ∷ pos 759250125
    ∷ pos 1073736771
    ∷ pos 1073741824
    ∷ pos 1073736771
    ∷ pos 759250125
    ∷ pos 3294193
    ∷ pos 0
    ∷ neg_ℤ (pos 3294193)
    ∷ neg_ℤ (pos 759250125)
    ∷ neg_ℤ (pos 1073741824)
    ∷ neg_ℤ (pos 759250125)
    ∷ neg_ℤ (pos 3294193)
    ∷ pos 3294193
    ∷ []
unfolding table_sine over_turn over_half table_entry nearest quarter_sine denominator added taken_away term factorial
table_sine-worked = refl

table_cosine-worked :
    map table_cosine (0 ∷ 256 ∷ 512 ∷ 1024 ∷ 1536 ∷ [])
    ≡ pos 1073741824 ∷ pos 759250125 ∷ pos 0 ∷ neg_ℤ (pos 1073741824) ∷ pos 0 ∷ []
unfolding table_cosine table_sine over_turn over_half table_entry nearest quarter_sine denominator added taken_away term factorial
table_cosine-worked = refl
