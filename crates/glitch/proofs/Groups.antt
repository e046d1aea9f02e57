-- What a glitch does to a group: by the norm bound of demand 3, of any lines whose weights add up to at most 12, with the other window's
-- sums in the place of the exact ones.
use mathlib.Core.Path.{◌≡◌, ◌∙◌}
use mathlib.Core.Bool.{true}
use mathlib.Core.List.{List}
use Prim.Native.Nat.{ℕ, ◌+◌, ◌*◌, ◌-◌, ◌/◌, ◌≤◌}
use native.Mathlib.Nat.{mul-le-mul, mul-le-mul_right}
use native.Mathlib.Omega.{arith, by_contra}
use lib.IntN.{ℤ}
use Rattle.algebra.specs.Weighted.{Place, weighted_squares, difference, DifferencesWithin, WithinUnits}
use Rattle.algebra.proofs.Integer.{one-*ℤ}
use Rattle.algebra.proofs.Weighted.{le-of-square-le}
use Rattle.square_root.proofs.RootLaws.{Root}
use Rattle.refusals.specs.Numbers.{no_refusal}
use Rattle.sine.specs.Wave.{table_sine, table_cosine}
use Rattle.spectral_lines.specs.Line.{rounded_sum, line_of}
use Rattle.windows.specs.Window.{InRange}
use Rattle.rows.specs.Orders.{is_order}
use Rattle.rows.specs.Setups.{is_setup}
use Rattle.rows.specs.declared.Setup.{Setup}
use Rattle.kinds.specs.declared.Kind.{Kind}
use Rattle.kinds.specs.Kinds.{largest_total}
use Rattle.spans.specs.Spans.{Weighted, weights_of, total_twice_weight, weighted_sum}
use Rattle.groups.specs.Group.{value_over, group_refusal, group_answer, group_value}
use Rattle.groups.proofs.GroupSum.{accepted-value}
use Rattle.spans.proofs.Weights.{weights_of-total-le, weighted_sum-le-total}
use Rattle.accuracy.proofs.AcceptedWindows.{window-in-range, lines_left as lines-left}
use Rattle.accuracy.proofs.Places.{rounded_sums, places_of, squares-at, value-root, value-within}
use Rattle.accuracy.proofs.GroupDistance.{is-order, lines-accepted, lines-of-group}
use Rattle.glitch.specs.Windows.{AcceptedWindow, samples_of, lines_left, AlikeBut, glitch_size}
use Rattle.glitch.specs.Claim.{group_shift, Apart, GroupsBounded}
use Rattle.glitch.proofs.NormMost.{norm_most}
use Rattle.glitch.proofs.Lines.{line_move, line_move-le}

-- r is within u of the root of a sum, so it is within u of the whole part of that root
roots-apart : (sum r root u : ℕ) → WithinUnits 1 sum 1 r u → Root sum root → Apart u r root
roots-apart sum r root u within is-root = record {
  one-le = by_contra r (root + u) (λ far. let next : root + 1 ≤ r - u = omega arith in omega (arith, mul-le-mul next next, within.low, is-root.1));
  other-le = le-of-square-le root (r + u) (omega (arith, is-root.0, within.high));
}

module _ (place : ℕ) (one other : List ℤ) (alike : AlikeBut place one other) where
  abbrev d : ℕ
  d = glitch_size place one other

  abbrev places : List Weighted → List Place
  places = places_of (rounded_sums one) (rounded_sums other)

  differences-are : (xs : List Weighted) → weighted_squares (λ p. p.weight) (difference 1) (places xs) ≡ weighted_sum (line_move place one other alike) xs
  differences-are =
      squares-at (rounded_sums one) (rounded_sums other) (difference 1) (line_move place one other alike)
      (λ x. rw (one-*ℤ (rounded_sum table_cosine one x.line), one-*ℤ (rounded_sum table_sine one x.line)))

  -- the norm of the differences
  differences-within : (xs : List Weighted) → total_twice_weight xs ≤ largest_total → DifferencesWithin (places xs) 1 1 (norm_most d)
  differences-within xs total =
      let most = norm_most d * norm_most d / largest_total in
      record {
        exact-denominator-pos = omega arith;
        spread = omega (
          arith,
          differences-are xs,
          weighted_sum-le-total (line_move place one other alike) most (λ k. omega (arith, line_move-le place one other alike k)) xs,
          mul-le-mul_right most total,
        );
      }

  -- so the values of any such lines are at most 10×d + 14 apart
  weights-apart :
      InRange one → InRange other → (xs : List Weighted) → total_twice_weight xs ≤ largest_total →
      Apart (group_shift d) (value_over xs (line_of one)) (value_over xs (line_of other))
  unfolding line_of
  weights-apart one-in-range other-in-range xs total =
      let within = value-within one one-in-range.samples xs total (rounded_sums other) (differences-within xs total) in
      let apart = roots-apart _ _ _ (norm_most d + 1) within (value-root other other-in-range.samples xs total) in
      record { one-le = omega (arith, apart.one-le); other-le = omega (arith, apart.other-le) }

-- ---- accepted windows

module _ (w : AcceptedWindow) where
  pub in-range : InRange (samples_of w)
  in-range = window-in-range w.recording w.start w.buffer w.accepted

  -- a group is answered, with the value of its lines
  module _ (setup : Setup) (order : ℕ) (known : is_setup setup ≡ true) (known-order : is_order order ≡ true) where
    pub answered : group_refusal setup order (lines_left w) ≡ no_refusal
    answered =
        rw (lines-left w.recording w.start w.buffer w.accepted)
        (lines-accepted setup order (samples_of w) known known-order in-range)

    pub answered-value : (kind : Kind) → (group_answer kind setup order (lines_left w)).value ≡ value_over (weights_of kind setup order) (line_of (samples_of w))
    unfolding group_value value_over
    answered-value kind =
        accepted-value kind setup order (lines_left w) answered
        ∙ rw (lines-left w.recording w.start w.buffer w.accepted, lines-of-group kind setup order (samples_of w) known known-order)

-- every group is an instance: its weights add up to at most 12, and its lines stand in the spectrum
pub groups-bounded : GroupsBounded group_shift
unfolding GroupsBounded group_answer
groups-bounded kind setup one other place known alike order positive le =
    let known-order = is-order order positive le in
    record {
      one-answered = answered one setup order known known-order;
      other-answered = answered other setup order known known-order;
      values =
          rw (answered-value one setup order known known-order kind, answered-value other setup order known known-order kind)
          (weights-apart place (samples_of one) (samples_of other) alike (in-range one) (in-range other)
          (weights_of kind setup order) (weights_of-total-le kind setup order known known-order));
    }
