-- The distance of 7 units (document 01, "Groups"; document 02, card 7): what it says of the group value R that is answered for the lines of a window, and of the exact group G.
use Rattle.std.specs.Prelude.{◌≡◌, true, List, ℕ, ◌+◌, ◌-◌, ◌<◌, ◌≤◌, ℤ}
use Rattle.algebra.specs.Fraction.{Fraction, whole, square, ◌≤ᶠ◌}
use Rattle.refusals.specs.Numbers.{no_refusal}
use Rattle.spectral_lines.specs.Line.{line_of, lines_of}
use Rattle.windows.specs.Window.{InRange}
use Rattle.kinds.specs.declared.Kind.{Kind}
use Rattle.kinds.specs.Kinds.{largest_total}
use Rattle.spans.specs.Spans.{Weighted, total_twice_weight}
use Rattle.groups.specs.Group.{value_over, group_answer}
use Rattle.rows.specs.Setups.{is_setup}
use Rattle.rows.specs.declared.Setup.{Setup}
use Rattle.rows.specs.Orders.{order_count}
use Rattle.groups.specs.Exact.{exact_over, exact_group}

-- the units that a group value may be off
abbrev pub group_margin : ℕ
group_margin = 7

-- for every order 1..40
abbrev pub EveryOrder : (ℕ → Type 0) → Type 0
EveryOrder holds = (order : ℕ) → 0 < order → order ≤ order_count → holds order

-- a value R against an exact square G, as with the 7 units of a group: "R less 7 (not below
-- 0), squared, is at most G, and G is at most R plus 7, squared"
pub record WithinMargin (margin value : ℕ) (exact : Fraction) : Type 0 where
  pub not-far-below : square (whole (value - margin)) ≤ᶠ exact
  pub not-far-above : exact ≤ᶠ square (whole (value + margin))

-- "one fact over weights" (document 02, card 7): for every window in range, of any lines, in the spectrum or past it, whose weights add up to at most 12
unfoldable pub WeightsNear : Type 0
WeightsNear =
    (xs : List Weighted) (window : List ℤ) →
    total_twice_weight xs ≤ largest_total →
    InRange window →
    WithinMargin group_margin (value_over xs (line_of window)) (exact_over xs window)

-- the group value of an order for the lines of a window
abbrev pub value_of : Kind → Setup → ℕ → List ℤ → ℕ
value_of kind setup order window = (group_answer kind setup order (lines_of window)).value

-- a value against the exact group of a window
abbrev pub ValueNear : Kind → Setup → ℕ → List ℤ → ℕ → Type 0
ValueNear kind setup order window value = WithinMargin group_margin value (exact_group kind setup order window)

-- the group value that is answered for the lines of the window
pub record GroupNear (kind : Kind) (setup : Setup) (order : ℕ) (window : List ℤ) : Type 0 where
  pub answered : (group_answer kind setup order (lines_of window)).refusal ≡ no_refusal
  pub value-near : ValueNear kind setup order window (value_of kind setup order window)

-- "for every window in range, every kind, order and system", and every edition (document 02, card 7)
unfoldable pub GroupsNear : Type 0
GroupsNear =
    (kind : Kind) (setup : Setup) (window : List ℤ) →
    is_setup setup ≡ true →
    InRange window →
    EveryOrder (λ order. GroupNear kind setup order window)
