-- What a verdict says, for the theorems above it: what is known of a call that is not refused, and how the average and the peak lie to their limits in each of the three cases.
use mathlib.Core.Path.{◌≡◌, refl}
use mathlib.Core.Bool.{Bool, true, false, cond, ◌&&◌, ◌||◌}
use mathlib.Core.Logic.{◌⊎◌, inl, inr, ⊎_map}
use Prim.Native.Nat.{ℕ, ◌≤◌, ◌<◌}
use native.Mathlib.Omega.{arith}
use borrow.Author.Tests.{eqb-false, not-false}
use Rattle.algebra.specs.Fraction.{Fraction, whole, ◌+ᶠ◌, ◌≤ᶠ◌, ◌<ᶠ◌}
use Rattle.algebra.proofs.Tests.{leb-range}
use Rattle.rows.specs.Orders.{order_count}
use Rattle.refusals.specs.Numbers.{no_refusal, unsound_record, no_window, order_out_of_range, unknown_class, scale_out_of_range}
use Rattle.refusals.proofs.Answers.{no-faults}
use Rattle.records.specs.declared.Observation.{Observation}
use Rattle.records.specs.Soundness.{is_sound}
use Rattle.books.specs.Smoothing.{smoothed_margin}
use Rattle.records.specs.Average.{average_of, peak_of}
use Rattle.fractions.specs.declared.Ratio.{Ratio}
use Rattle.classes.specs.declared.Class.{Class}
use Rattle.classes.specs.Letters.{is_class}
use Rattle.limits.specs.Limit.{first_limited, has_limit}
use Rattle.limits.proofs.Limits.{limited-ge, limited-le}
use Rattle.limit_tests.specs.Limit.{limit_in_units, peak_limit_in_units}
use Rattle.limit_tests.specs.Tests.{is_within, is_over, Touches}
use Rattle.limit_tests.proofs.TestLaws.{within-le, over-gt, neither-touches}
use Rattle.verdict.specs.declared.Question.{Question}
use Rattle.verdict.specs.declared.Verdict.{Verdict}
use Rattle.verdict.specs.declared.Verdict.TheVariants.{Within, Close, Over}
use Rattle.verdict.specs.Question.{largest_scale}
use Rattle.verdict.specs.Call.{Given, combined, verdict_in, verdict_of, verdict_checks, verdict_refusal, verdict_answer, order_number}

-- ---- a call that is not refused

pub record Accepted (o : Observation) (q : Question) : Type 0 where
  pub sound : is_sound o ≡ true
  pub some-window : 0 < o.windows
  pub has-limit : has_limit q.order ≡ true
  pub order-ge : first_limited ≤ q.order
  pub order_le : q.order ≤ order_count
  pub known-class : is_class q.letter ≡ true
  pub scale-ge : 1 ≤ q.scale
  pub scale-le : q.scale ≤ largest_scale

module _ (o : Observation) (q : Question) (passed : verdict_refusal o q ≡ no_refusal) where
  pub accepted : Accepted o q
  unfolding verdict_refusal
  accepted =
      let no-fault = no-faults (verdict_checks o q) refl passed in
      let some = eqb-false o.windows 0 (no-fault no_window) in
      let limited : has_limit q.order ≡ true = not-false _ (no-fault order_out_of_range) in
      let scales = leb-range 1 q.scale largest_scale (not-false _ (no-fault scale_out_of_range)) in
      record {
        sound = not-false _ (no-fault unsound_record);
        some-window = omega arith;
        has-limit = limited;
        order-ge = limited-ge q.order limited;
        order_le = limited-le q.order limited;
        known-class = not-false _ (no-fault unknown_class);
        scale-ge = scales.0;
        scale-le = scales.1;
      }

  pub accepted-given : verdict_answer o q ≡ Given (verdict_of o q)
  unfolding verdict_answer
  accepted-given = rw passed

-- ---- the three cases

-- what a choice by two tests gives: over only if a test is over, within only if both are within, and close only if neither is over and one is not within
module _ (average limit peak peak_limit : Ratio) (order : ℕ) where
  pub by_tests :
      (P : Verdict → Type 0) →
      ((is_over average limit ≡ true) ⊎ (is_over peak peak_limit ≡ true) → P (Over order)) →
      (is_within average limit ≡ true → is_within peak peak_limit ≡ true → P (Within order)) →
      (is_over average limit ≡ false → is_over peak peak_limit ≡ false → (is_within average limit ≡ false) ⊎ (is_within peak peak_limit ≡ false) → P (Close order)) →
      P (combined average limit peak peak_limit order)
  unfolding combined
  by_tests P over within close =
      go (is_over average limit) (is_over peak peak_limit) (is_within average limit) (is_within peak peak_limit) refl refl refl refl
    where
      go :
          (a p b q : Bool) →
          is_over average limit ≡ a →
          is_over peak peak_limit ≡ p →
          is_within average limit ≡ b →
          is_within peak peak_limit ≡ q →
          P (cond (a || p) (Over order) (cond (b && q) (Within order) (Close order)))
      go true p b q e f g h = over (inl e)
      go false true b q e f g h = over (inr f)
      go false false true true e f g h = within g h
      go false false true false e f g h = close e f (inr h)
      go false false false q e f g h = close e f (inl g)

-- how an average and a peak lie to their limits, in each case
abbrev pub Says : (limit peak_limit average peak : Fraction) → Verdict → Type 0
Says limit peak_limit average peak (Over h) =
    (limit +ᶠ whole smoothed_margin <ᶠ average) ⊎ (peak_limit +ᶠ whole smoothed_margin <ᶠ peak)
Says limit peak_limit average peak (Within h) =
    (average +ᶠ whole smoothed_margin ≤ᶠ limit) × (peak +ᶠ whole smoothed_margin ≤ᶠ peak_limit)
Says limit peak_limit average peak (Close h) = Touches average limit ⊎ Touches peak peak_limit

module _ (class : Class) (o : Observation) (order scale : ℕ) where
  pub verdict-says :
      Says (limit_in_units class order scale) (peak_limit_in_units class order scale) (average_of o order) (peak_of o order)
      (verdict_in class o order scale)
  unfolding verdict_in
  verdict-says =
      let average = average_of o order in
      let limit = limit_in_units class order scale in
      let peak = peak_of o order in
      let peak_limit = peak_limit_in_units class order scale in
      by_tests _ _ _ _ _
      (Says limit peak_limit average peak)
      (⊎_map (over-gt average limit) (over-gt peak peak_limit))
      (λ e f. (within-le average limit e, within-le peak peak_limit f))
      (λ e f. ⊎_map (neither-touches average limit e) (neither-touches peak peak_limit f))

  pub verdict-order : order_number (verdict_in class o order scale) ≡ order
  unfolding verdict_in order_number
  verdict-order = by_tests _ _ _ _ _ (λ v. order_number v ≡ order) (λ _. refl) (λ _ _. refl) (λ _ _ _. refl)
