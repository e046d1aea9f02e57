-- The distance of 7 units: a group value is within 7 units of the exact group, for every window in range, every kind, order and setup.
-- It is one fact over weights, of which every group is an instance: each line gives two places, its cosine sum and its sine sum,
-- each within 3/4 of the exact one, and the norm bound does the rest.
use mathlib.Core.Path.{◌≡◌}
use mathlib.Core.Bool.{true, false}
use mathlib.Core.List.{List}
use Prim.Native.Nat.{ℕ, ◌*◌, ◌≤◌}
use native.Mathlib.Omega.{arith}
use lib.IntN.{ℤ}
use borrow.Author.Tests.{eq-eqb, lt-ltb, le-leb}
use Rattle.refusals.specs.Numbers.{no_refusal}
use Rattle.algebra.specs.Fraction as Fraction
use Rattle.algebra.specs.Fraction.{whole}
use Rattle.std.specs.List.{list_any}
use Rattle.algebra.specs.Weighted.{Place, Everywhere, Near, NearVector, WithinUnits}
use Rattle.algebra.proofs.Norm.{near-differences, group-spread}
use Rattle.algebra.proofs.Weighted.{everywhere-imp}
use Rattle.sine.specs.ExactSine.{denominator, exact_sine, exact_cosine}
use Rattle.sine.proofs.ExactSine.{denominator-pos}
use Rattle.spectral_lines.specs.Line.{line_of, lines_of}
use Rattle.spectral_lines.specs.Exact.{exact_sum, exact_line}
use Rattle.windows.specs.Window.{InRange, out_of_range}
use Rattle.spectral_lines.proofs.Distance.{cosine-sum-near, sine-sum-near}
use Rattle.spectral_lines.proofs.Lines.{length-lines_of, get_or-lines_of, no-line-too-large}
use Rattle.kinds.specs.declared.Kind.{Kind}
use Rattle.kinds.specs.Kinds.{largest_total}
use Rattle.spans.specs.Spans.{Weighted, weights_of, total_twice_weight, weighted_sum, line_at}
use Rattle.groups.specs.Exact.{exact_over, exact_group}
use Rattle.groups.specs.Group.{value_over, group_value, group_refusal, group_answer}
use Rattle.rows.specs.Setups.{is_setup}
use Rattle.rows.specs.declared.Setup.{Setup}
use Rattle.rows.specs.Orders.{order_count, is_order}
use Rattle.rows.proofs.Setups.{setup-parts}
use Rattle.spans.proofs.Weights.{weights_of-total-le, weights_of-line-lt, weighted_sum-eq}
use Rattle.accuracy.specs.Distance.{EveryOrder, WeightsNear, GroupsNear, group_margin}
use Rattle.accuracy.proofs.Places.{Sums, rounded_sums, places_of, everywhere-places_of, total_weight-places_of, value-within}

-- the exact sums of a window's lines
abbrev exact_sums : List ℤ → Sums
exact_sums window = record { cosine = exact_sum exact_cosine window; sine = exact_sum exact_sine window }

module _ (window : List ℤ) (in-range : list_any out_of_range window ≡ false) where
  abbrev places : List Weighted → List Place
  places = places_of (rounded_sums window) (exact_sums window)

  near-places : (xs : List Weighted) → Everywhere (Near denominator 3 4) (places xs)
  near-places =
      everywhere-places_of (rounded_sums window) (exact_sums window) _
      (λ x. (cosine-sum-near window in-range x.line, sine-sum-near window in-range x.line))

  -- any lines whose weights add up to at most 12 meet the hypotheses of the norm bound, with 6 for the norm of the differences
  near-vector :
      (xs : List Weighted) → total_twice_weight xs ≤ largest_total → NearVector (places xs) denominator 3 4 (2 * largest_total) 1 6
  near-vector xs total = record {
    exact-denominator-pos = denominator-pos;
    distance-denominator-pos = omega arith;
    near = near-places xs;
    weights = omega (arith, total_weight-places_of (rounded_sums window) (exact_sums window) xs);
    spread = group-spread;
  }

  -- so the whole part of the root of their sum is within 7 of the exact one
  within-seven :
      (xs : List Weighted) → total_twice_weight xs ≤ largest_total →
      WithinUnits 1 (weighted_sum (exact_line window) xs) denominator (value_over xs (line_of window)) group_margin
  unfolding exact_line
  within-seven xs total =
      value-within window in-range xs total (exact_sums window) (near-differences (near-vector xs total))

-- the one fact
pub weights-near : WeightsNear
unfolding WeightsNear exact_over whole Fraction.square
weights-near xs window total in-range =
    let within = within-seven window in-range.samples xs total in
    record { not-far-below = low _ _ _ within.low; not-far-above = high _ _ _ within.high }
  where
    low : (a d e : ℕ) → 1 * (a * a) * (d * d) ≤ e → a * a * (d * d) ≤ e * (1 * 1)
    low a d e h = omega arith

    high : (a d e : ℕ) → e ≤ 1 * (a * a) * (d * d) → e * (1 * 1) ≤ a * a * (d * d)
    high a d e h = omega arith

-- the lines of a window in range are not refused
pub lines-accepted :
    (setup : Setup) (order : ℕ) (window : List ℤ) →
    is_setup setup ≡ true →
    is_order order ≡ true →
    InRange window →
    group_refusal setup order (lines_of window) ≡ no_refusal
unfolding group_refusal
lines-accepted setup order window known-setup known-order in-range =
    let known = setup-parts setup known-setup in
    rw (
      known.system-known,
      known.edition-known,
      known-order,
      eq-eqb _ _ (length-lines_of window),
      no-line-too-large window in-range.samples,
    )

pub is-order : EveryOrder (λ order. is_order order ≡ true)
unfolding is_order
is-order order above_zero at_most = rw (lt-ltb 0 order above_zero, le-leb order order_count at_most)

-- the lines of a group stand in the spectrum
pub lines-of-group :
    (kind : Kind) (setup : Setup) (order : ℕ) (window : List ℤ) →
    is_setup setup ≡ true →
    is_order order ≡ true →
    weighted_sum (line_at (lines_of window)) (weights_of kind setup order) ≡ weighted_sum (line_of window) (weights_of kind setup order)
lines-of-group kind setup order window known-setup known-order =
    let xs = weights_of kind setup order in
    weighted_sum-eq _ _ xs
    (everywhere-imp _ _ (λ x inside. get_or-lines_of window x.line inside) xs
    (weights_of-line-lt kind setup order known-setup known-order))

-- every group, under both editions, is an instance: its weights add up to at most 12, and its lines stand in the spectrum
pub groups-near : GroupsNear
unfolding GroupsNear WeightsNear group_answer group_value value_over exact_group
groups-near kind setup window known-setup in-range order above_zero at_most =
    let known-order = is-order order above_zero at_most in
    let accepted = lines-accepted setup order window known-setup known-order in-range in
    record {
      answered = accepted;
      value-near =
          rw (accepted, lines-of-group kind setup order window known-setup known-order)
          (weights-near (weights_of kind setup order) window (weights_of-total-le kind setup order known-setup known-order) in-range);
    }
