-- A line from a folded window (card 13): the two sums over the places where the line's foldings end are document 01's.
use mathlib.Core.Bool.{Bool, true, false, cond}
use mathlib.Core.List.{List}
use mathlib.Core.Path.{◌≡◌, refl, sym, ap, ap₂, ◌∙◌}
use Prim.Native.Nat.{ℕ, suc, ◌+◌, ◌-◌, ◌*◌, ◌%◌, ◌^◌, ◌≤◌, ◌<◌}
use native.Mathlib.Nat.{mod-lt, mod-eq_of_lt, mod-eq-sub-mod, mod-mod_of_dvd, dvd-mul_right}
use native.Mathlib.Decide.{dec_lt}
use native.Mathlib.Omega.{arith}
use borrow.Author.Tests.{eqb-true, eqb-false}
use lib.Dec.{eqb, lit<}
use lib.IntN.{ℤ, pos, neg_ℤ, nat_abs, ◌+ℤ◌, ◌*ℤ◌, zero-*ℤ, *ℤ-zero, +ℤ_idl}
use mir.Syntax.{w32, w64}
use mir.Val.{SFits}
use mir.ValLaws.{to_z-of_z}
use Rattle.algebra.specs.Sums.{sum_to}
use Rattle.algebra.specs.Rounding.{nearest}
use Rattle.algebra.proofs.Signed.{sfits-nat_abs}
use Rattle.algebra.proofs.Integer.{+ℤ-*ℤ, *ℤ-negℤ, nat_abs-*ℤ}
use Rattle.algebra.proofs.SumTo.{sum_to-same, sum_to-*ℤ, sum_to-negℤ}
use Rattle.sine.specs.Turn.{over_half, over_turn, turn, half_turn, quarter_turn}
use Rattle.sine.specs.ExactSine.{factorial, denominator, term, added, taken_away, quarter_sine}
use Rattle.sine.specs.Wave.{full_scale, table_entry, table_sine, table_cosine, wave_list}
use Rattle.sine.proofs.Symmetry.{table_sine-start}
use Rattle.sine.proofs.Wave.{table_cosine-le, wave_list-at}
use Rattle.windows.specs.Window.{window_length, InRange}
use Rattle.spectral_lines.specs.Line.{line_sum}
use Rattle.spectral_lines.specs.Folding.{held_by, place_sum, cosine_of, sine_of}
use Rattle.spectral_lines.proofs.Bounds.{line_sum-le, sum_read}
use Rattle.spectral_lines.proofs.NextSum.{read}
use Rattle.folding.specs.Halving.{folded_window}
use Rattle.folding.proofs.HalvedSums.{folded-cosine, folded-sine, folded-0}
use Rattle.folding.proofs.FoldedBounds.{folded_window-left}
use Rattle.spectrum.specs.LinePlaces.{EndsAt, sine_ahead}
use Rattle.spectrum.specs.Prepared.{SumsFit, SumOfFolded}
use Rattle.spectrum.proofs.LineSums.{ahead}
use Rattle.spectrum.proofs.SineAhead.{sine-is-cosine, sine-is-opposite}

-- ---- the sine's sum over the cosine's places

module _ (half k : ℕ) (most : half ≤ 512) (f : ℕ → ℤ) where
  moved : place_sum (2049 - 2 * half) half f (sine_of k) ≡ place_sum (suc half) half (λ p. f (p + sine_ahead half)) (λ p. sine_of k (p + sine_ahead half))
  unfolding place_sum
  moved = sum_to-same half _ _ (λ i below.
      let place : 2049 - 2 * half + i ≡ suc half + i + sine_ahead half = omega arith in
      ap (λ p. f p *ℤ sine_of k p) place)

  sine-ahead : (half * k) % turn ≡ quarter_turn → place_sum (2049 - 2 * half) half f (sine_of k) ≡ place_sum (suc half) half (λ p. f (p + sine_ahead half)) (cosine_of k)
  unfolding place_sum
  sine-ahead h = moved ∙ sum_to-same half _ _ (λ i below. ap (λ w. f (suc half + i + sine_ahead half) *ℤ w) (sine-is-cosine half k most h (suc half + i)))

  sine-ahead-opposite : (half * k) % turn ≡ 3 * quarter_turn → place_sum (2049 - 2 * half) half f (sine_of k) ≡ neg_ℤ (place_sum (suc half) half (λ p. f (p + sine_ahead half)) (cosine_of k))
  unfolding place_sum
  sine-ahead-opposite h =
      moved
      ∙ sum_to-same half _ _ (λ i below. ap (λ w. f (suc half + i + sine_ahead half) *ℤ w) (sine-is-opposite half k most h (suc half + i)) ∙ *ℤ-negℤ (f (suc half + i + sine_ahead half)) (cosine_of k (suc half + i)))
      ∙ sum_to-negℤ half (λ i. f (suc half + i + sine_ahead half) *ℤ cosine_of k (suc half + i))

-- ---- what they are

-- an odd number of quarter turns is one or three of them
one-or-three : (angle : ℕ) → angle % half_turn ≡ quarter_turn → (angle % turn ≡ quarter_turn → ⊥) → angle % turn ≡ 3 * quarter_turn
one-or-three angle odd not-one = go (angle % turn) (mod-lt angle (lit< tt)) (mod-mod_of_dvd half_turn angle (dvd-mul_right half_turn 2) ∙ odd) not-one
  where
    go : (r : ℕ) → r < turn → r % half_turn ≡ quarter_turn → (r ≡ quarter_turn → ⊥) → r ≡ 3 * quarter_turn
    go r below odd not-one = by-half (dec_lt r half_turn)
      where
        by-half : Dec (r < half_turn) → r ≡ 3 * quarter_turn
        by-half (yes h) = let same : r % half_turn ≡ r = mod-eq_of_lt h in absurd (not-one (sym same ∙ odd))
        by-half (no h) =
            let over : r % half_turn ≡ r - half_turn = mod-eq-sub-mod (omega arith) ∙ mod-eq_of_lt (omega arith) in
            omega (arith, over, odd)

module _ (folded window : List ℤ) (is-folded : held_by folded ≡ folded_window window) where
  module _ (k half : ℕ) (ends : EndsAt k half) where
    odd : (2 ^ ends.power * k) % half_turn ≡ quarter_turn
    odd = rw ends.is-power at ends.odd

    pub cosine-is : place_sum (suc half) half (held_by folded) (cosine_of k) ≡ line_sum table_cosine window k
    cosine-is =
        ap (λ f. place_sum (suc half) half f (cosine_of k)) is-folded
        ∙ rw ends.is-power (folded-cosine ends.power k ends.few odd window)

    -- the sine's, with the sign by the angle at the last halving
    abbrev ahead_sum : ℤ
    ahead_sum = place_sum (suc half) half (ahead (held_by folded) half) (cosine_of k)

    sine-places : place_sum (2049 - 2 * half) half (folded_window window) (sine_of k) ≡ line_sum table_sine window k
    sine-places = rw ends.is-power (folded-sine ends.power k ends.few odd window)

    pub sine-is : cond (eqb ((half * k) % turn) quarter_turn) ahead_sum (neg_ℤ ahead_sum) ≡ line_sum table_sine window k
    sine-is = by_sign (eqb ((half * k) % turn) quarter_turn) refl
      where
        same : ahead_sum ≡ place_sum (suc half) half (λ p. folded_window window (p + sine_ahead half)) (cosine_of k)
        same = ap (λ f. place_sum (suc half) half (λ p. f (p + sine_ahead half)) (cosine_of k)) is-folded

        by_sign : (test : Bool) → eqb ((half * k) % turn) quarter_turn ≡ test → cond test ahead_sum (neg_ℤ ahead_sum) ≡ line_sum table_sine window k
        by_sign true one =
            same
            ∙ sym (sine-ahead half k ends.most (folded_window window) (eqb-true _ _ one))
            ∙ sine-places
        by_sign false three =
            ap neg_ℤ same
            ∙ sym (sine-ahead-opposite half k ends.most (folded_window window) (one-or-three (half * k) ends.odd (eqb-false _ _ three)))
            ∙ sine-places

  pub line-0-sum : place_sum 0 2 (held_by folded) (cosine_of 0) ≡ line_sum table_cosine window 0
  line-0-sum = ap (λ f. place_sum 0 2 f (cosine_of 0)) is-folded ∙ folded-0 window

-- line 0 has no sine
no-sine : (window : List ℤ) → line_sum table_sine window 0 ≡ pos 0
unfolding line_sum
no-sine window =
    sum_to-same window_length _ (λ j. pos 0 *ℤ pos 0)
    (λ j below. ap (λ w. held_by window j *ℤ w) (table_sine-start (j * 0) (omega arith)) ∙ *ℤ-zero (held_by window j))
    ∙ sum_to-*ℤ window_length (pos 0) (λ j. pos 0)
    ∙ zero-*ℤ (sum_to window_length (λ j. pos 0))

-- the cosine of 0 is the full scale
cosine-at-0 : nat_abs (table_cosine 0) ≡ full_scale
unfolding table_cosine table_sine over_turn over_half table_entry nearest quarter_sine added taken_away term factorial denominator
cosine-at-0 = refl

module _ (folded : List ℤ) where
  abbrev f : ℕ → ℤ
  f = held_by folded

  -- a line that ends at half
  module _ (k half : ℕ) (ends : EndsAt k half) (sum : ℤ) where
    pub cosine-of-folded : sum ≡ place_sum (suc half) half f (cosine_of k) → SumOfFolded table_cosine folded k sum
    cosine-of-folded is window is-folded = is ∙ cosine-is folded window is-folded k half ends

    pub sine-of-folded : sum ≡ place_sum (suc half) half (ahead f half) (cosine_of k) → SumOfFolded table_sine folded k (cond (eqb ((half * k) % turn) quarter_turn) sum (neg_ℤ sum))
    sine-of-folded is window is-folded = ap (λ z. cond (eqb ((half * k) % turn) quarter_turn) z (neg_ℤ z)) is ∙ sine-is folded window is-folded k half ends

  -- line 0: over the two places that are left the cosine is that of 0
  two-places : (f 0 +ℤ f 1) *ℤ table_cosine 0 ≡ place_sum 0 2 f (cosine_of 0)
  unfolding place_sum sum_to
  two-places = +ℤ-*ℤ (f 0) (f 1) (table_cosine 0) ∙ sym (ap (λ z. z +ℤ f 1 *ℤ table_cosine 0) (+ℤ_idl (f 0 *ℤ table_cosine 0)))

  pub cosine-of-0 : SumOfFolded table_cosine folded 0 ((f 0 +ℤ f 1) *ℤ table_cosine 0)
  cosine-of-0 window is-folded = two-places ∙ line-0-sum folded window is-folded

  pub sine-of-0 : SumOfFolded table_sine folded 0 (pos 0)
  sine-of-0 window is-folded = sym (no-sine window)

  -- a folded window in range has such small numbers
  pub sums-fit : (window : List ℤ) → InRange window → f ≡ folded_window window → SumsFit f
  sums-fit window in-range is-folded = record {
    left = λ c few p above below.
        let held : f p ≡ folded_window window p = ap (λ g. g p) is-folded in
        rw held (folded_window-left window in-range.samples c few p above below);
    last_two = last-two;
  }
    where
      product : nat_abs (f 0 +ℤ f 1) * nat_abs (table_cosine 0) ≡ nat_abs (line_sum table_cosine window 0)
      product = sym (nat_abs-*ℤ (f 0 +ℤ f 1) (table_cosine 0)) ∙ ap nat_abs (cosine-of-0 window is-folded)

      last-two : nat_abs (f 0 +ℤ f 1) < 2 ^ 28
      last-two = omega (arith, rw cosine-at-0 at product, line_sum-le window in-range.samples table_cosine table_cosine-le 0)

  -- so the sum of line 0 is small
  pub last-sum-small : SumsFit f → nat_abs ((f 0 +ℤ f 1) *ℤ table_cosine 0) < 2 ^ 58
  last-sum-small fit = rw (nat_abs-*ℤ, cosine-at-0) (omega (arith, fit.last_two))

  -- and is the product that the machine reads from bits
  pub last-sum-read : (wave : List ℤ) (product : ℤ) → SumsFit f → wave ≡ wave_list → SFits w32 (f 0) → SFits w32 (f 1) →
      product ≡ read w32 (read w32 (f 0) +ℤ read w32 (f 1)) *ℤ read w32 (held_by wave quarter_turn) →
      read w64 product ≡ (f 0 +ℤ f 1) *ℤ table_cosine 0
  unfolding table_cosine
  last-sum-read wave product fit one-turn fits-0 fits-1 product-is =
      let two = f 0 +ℤ f 1 in
      let factor : read w32 (held_by wave quarter_turn) ≡ table_cosine 0 =
      rw one-turn (ap (read w32) (wave_list-at quarter_turn (omega arith)) ∙ to_z-of_z w32 (table_cosine 0) (sfits-nat_abs w32 (table_cosine 0) (omega (arith, cosine-at-0)))) in
      let number : read w32 (read w32 (f 0) +ℤ read w32 (f 1)) ≡ two =
      ap₂ (λ a b. read w32 (a +ℤ b)) (to_z-of_z w32 (f 0) fits-0) (to_z-of_z w32 (f 1) fits-1) ∙ to_z-of_z w32 two (sfits-nat_abs w32 two (omega (arith, fit.last_two))) in
      rw (product-is ∙ ap₂ ◌*ℤ◌ number factor) (sum_read (two *ℤ table_cosine 0) (last-sum-small fit))
