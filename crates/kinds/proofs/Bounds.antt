-- Laws of the kinds' spans, for systems 10 and 12 and orders 1..40: the span of a group ends among the 512 lines, has two ends
-- where they are half, and has so few lines that twice their weights add up to at most 24.
use mathlib.Core.Path.{◌≡◌, sym}
use mathlib.Core.Bool.{true, cond, true≢false}
use Prim.Native.Nat.{ℕ, ◌+◌, ◌*◌, ◌≤◌}
use native.Mathlib.Nat.{mul-le-mul, mul-le-mul_left}
use native.Mathlib.Omega.{arith}
use Rattle.rows.specs.Orders.{order_count, is_order}
use Rattle.rows.specs.Systems.{is_system}
use Rattle.rows.specs.Setups.{is_setup}
use Rattle.rows.specs.declared.Setup.{Setup}
use Rattle.rows.proofs.Orders.{order-bounds}
use Rattle.rows.proofs.Systems.{SystemBounds, system-bounds}
use Rattle.rows.proofs.Setups.{setup-parts}
use Rattle.spectral_lines.specs.Line.{line_count}
use Rattle.kinds.specs.declared.Kind.{Kind}
use Rattle.kinds.specs.declared.Kind.TheVariants.{Component, HarmonicGroup, HarmonicSubgroup, InterharmonicGroup, InterharmonicCentredSubgroup}
use Rattle.kinds.specs.declared.Span.{Span}
use Rattle.kinds.specs.Kinds.{span_of, grouped_as, group_span, largest_total}

-- a span with half ends has two
abbrev pub TwoEnds : Span → Type 0
TwoEnds span = span.half_ends ≡ true → 2 ≤ span.count

-- what the sum over a span rests on
pub record SpanBounds (span : Span) : Type 0 where
  pub two_ends : TwoEnds span
  pub count-le : 2 * span.count ≤ largest_total + cond span.half_ends 2 0
  pub end-le : span.first + span.count ≤ line_count

-- the line n×h, from which the lines of an order are counted
pub record CentreBounds (n h : ℕ) : Type 0 where
  pub least : n ≤ n * h
  pub most : n * h ≤ 12 * order_count

pub centre-bounds : (n h : ℕ) → is_system n ≡ true → is_order h ≡ true → CentreBounds n h
centre-bounds n h e o =
    let s = system-bounds n e in
    let b = order-bounds h o in
    record {
      least = omega (arith, mul-le-mul_left n b.0);
      most = omega (arith, mul-le-mul s.most b.1);
    }

pub span_of-bounds : (kind : Kind) (n h : ℕ) → is_system n ≡ true → is_order h ≡ true → SpanBounds (span_of kind n h)
unfolding span_of
span_of-bounds kind n h e o = of-kind kind (system-bounds n e) (centre-bounds n h e o)
  where
    of-kind : (kind : Kind) → SystemBounds n → CentreBounds n h → SpanBounds (span_of kind n h)
    of-kind Component s b = record { two_ends = λ half. absurd (true≢false (sym half)); count-le = omega arith; end-le = omega arith }
    of-kind HarmonicGroup s b = record { two_ends = λ half. omega arith; count-le = omega arith; end-le = omega arith }
    of-kind HarmonicSubgroup s b = record { two_ends = λ half. omega arith; count-le = omega arith; end-le = omega arith }
    of-kind InterharmonicGroup s b = record { two_ends = λ half. omega arith; count-le = omega arith; end-le = omega arith }
    of-kind InterharmonicCentredSubgroup s b = record { two_ends = λ half. omega arith; count-le = omega arith; end-le = omega arith }

-- the bounds hold for every kind, so for the one whose lines a group takes under its edition
pub group_span-bounds : (kind : Kind) (setup : Setup) (h : ℕ) → is_setup setup ≡ true → is_order h ≡ true → SpanBounds (group_span kind setup h)
group_span-bounds kind setup h e o =
    span_of-bounds (grouped_as kind setup.edition h) setup.system h (setup-parts setup e).system-known o
