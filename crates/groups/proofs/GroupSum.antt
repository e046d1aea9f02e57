-- What is known of a group call that is not refused: its sum of 2×w×L fits 64 bits without sign, its value 32. A row is refused where the values of its orders are.
use mathlib.Core.Path.{◌≡◌, refl, sym, ap, ◌∙◌}
use mathlib.Core.Bool.{true, false}
use mathlib.Core.List.{List}
use Prim.Native.Nat.{ℕ, ◌+◌, ◌-◌, ◌^◌, ◌≤◌, ◌<◌}
use native.Mathlib.Nat.{mod-eq_of_lt}
use native.Mathlib.Decide.{ℕ_discrete}
use native.Mathlib.Omega.{arith}
use lib.Dec.{ltb, lit<}
use lib.IntN.{ℤ}
use lib.ListN.{length, get_or, replicate}
use borrow.Author.Tests.{eqb-true, eq-eqb, ne_eqb, not-false}
use Rattle.algebra.specs.Lists.{tabulate}
use Rattle.std.specs.List.{list_any}
use Rattle.algebra.proofs.Lists.{length-tabulate, get_or-tabulate, get_or-tabulate-le, tabulate-same, tabulate-eq, tabulate-whole}
use Rattle.square_root.proofs.RootLaws.{lt-root_limit, root-of-largest, root-le-of-le}
use Rattle.refusals.specs.Numbers.{no_refusal, unknown_system, unknown_edition, order_out_of_range, wrong_line_count, line_too_large}
use Rattle.refusals.proofs.Answers.{no-faults, unless_refused-accepted, unless_refused-refused}
use Rattle.rows.specs.Systems.{is_system}
use Rattle.rows.specs.Editions.{is_edition, edition2}
use Rattle.rows.specs.Setups.{is_setup, setup_of}
use Rattle.rows.specs.declared.Setup.{Setup}
use Rattle.rows.proofs.Setups.{is_setup-known, setup-parts}
use Rattle.rows.specs.Orders.{order_count, is_order}
use Rattle.rows.specs.Rows.{largest_value, refused_row, ValuesFit}
use Rattle.rows.proofs.Orders.{order-of-place}
use Rattle.spectral_lines.specs.Line.{line_count, largest_line, lines_of}
use Rattle.windows.specs.Window.{out_of_range}
use Rattle.spectral_lines.proofs.Lines.{length-lines_of, no-line-too-large}
use Rattle.kinds.specs.declared.Kind.{Kind}
use Rattle.spans.specs.Spans.{weights_of, weighted_sum, line_at}
use Rattle.groups.specs.Group.{group_checks, group_refusal, value_over, group_value, group_answer, group_values, group_row_refusal, group_row_answer, window_row}
use Rattle.spans.proofs.Weights.{weights_of-total-le}
use Rattle.spans.proofs.SumBounds.{weighted_sum-lt}

-- ---- a group that is not refused

pub record Accepted (setup : Setup) (order : ℕ) (lines : List ℕ) : Type 0 where
  pub known-setup : is_setup setup ≡ true
  pub known-order : is_order order ≡ true
  pub line-count : length lines ≡ line_count
  pub in-range : list_any (ltb largest_line) lines ≡ false

pub accepted : (setup : Setup) (order : ℕ) (lines : List ℕ) → group_refusal setup order lines ≡ no_refusal → Accepted setup order lines
unfolding group_refusal
accepted setup order lines e =
    let passed = no-faults (group_checks setup order lines) refl e in
    record {
      known-setup = is_setup-known setup (not-false _ (passed unknown_system)) (not-false _ (passed unknown_edition));
      known-order = not-false _ (passed order_out_of_range);
      line-count = eqb-true _ _ (not-false _ (passed wrong_line_count));
      in-range = passed line_too_large;
    }

module _ (kind : Kind) (setup : Setup) (order : ℕ) (lines : List ℕ) where
  -- the sum of every group that is not refused
  pub group-sum-lt : group_refusal setup order lines ≡ no_refusal → weighted_sum (line_at lines) (weights_of kind setup order) < 2 ^ 64
  group-sum-lt e =
      let a = accepted setup order lines e in
      weighted_sum-lt lines a.in-range (weights_of kind setup order)
      (weights_of-total-le kind setup order a.known-setup a.known-order)

  -- so its value is a number of 32 bits
  pub group_value-le : group_refusal setup order lines ≡ no_refusal → group_value kind setup order lines ≤ largest_value
  unfolding group_value value_over
  group_value-le e =
      let sum = weighted_sum (line_at lines) (weights_of kind setup order) in
      let fits : sum ≤ 2 ^ 64 - 1 = omega (arith, group-sum-lt e) in
      rw root-of-largest at (root-le-of-le sum (2 ^ 64 - 1) fits (lt-root_limit (2 ^ 64 - 1) (lit< tt)))

  -- what is answered for an order that is not refused, and for one that is
  pub accepted-value : group_refusal setup order lines ≡ no_refusal
      → (group_answer kind setup order lines).value ≡ group_value kind setup order lines
  unfolding group_answer
  accepted-value = unless_refused-accepted (group_refusal setup order lines) (group_value kind setup order lines) 0

  refused-value : (group_refusal setup order lines ≡ no_refusal → ⊥) → (group_answer kind setup order lines).value ≡ 0
  unfolding group_answer
  refused-value = unless_refused-refused (group_refusal setup order lines) (group_value kind setup order lines) 0

  -- both are numbers of 32 bits
  pub answered-value-le : (group_answer kind setup order lines).value ≤ largest_value
  answered-value-le = by-refusal (ℕ_discrete (group_refusal setup order lines) no_refusal)
    where
      by-refusal : Dec (group_refusal setup order lines ≡ no_refusal) → (group_answer kind setup order lines).value ≤ largest_value
      by-refusal (yes e) = rw (accepted-value e) (group_value-le e)
      by-refusal (no f) = rw (refused-value f) (omega arith)

-- ---- a row

-- an order 1..40 is refused where the row is, with the same number
pub group_refusal-of-place : (setup : Setup) (i : ℕ) (lines : List ℕ) → i < order_count
    → group_refusal setup (i + 1) lines ≡ group_row_refusal setup lines
unfolding group_refusal group_row_refusal
group_refusal-of-place setup i lines inside = rw (order-of-place i inside)

module _ (kind : Kind) (setup : Setup) (lines : List ℕ) where
  pub group_values-length : length (group_values kind setup lines) ≡ order_count
  unfolding group_values
  group_values-length = length-tabulate order_count _

  pub group_values-le : (i : ℕ) → get_or (group_values kind setup lines) i 0 ≤ largest_value
  unfolding group_values
  group_values-le = get_or-tabulate-le order_count _ largest_value (λ j inside. answered-value-le kind setup (j + 1) lines)

  -- the value of an order in a row
  pub group_values-at :
      (order : ℕ) → 0 < order → order ≤ order_count →
      get_or (group_values kind setup lines) (order - 1) 0 ≡ (group_answer kind setup order lines).value
  unfolding group_values
  group_values-at order positive le =
      get_or-tabulate order_count _ (order - 1) 0 (omega arith) ∙ ap (λ h. (group_answer kind setup h lines).value) (omega arith)

  -- the values of a row that is refused are 0
  refused-values : (group_row_refusal setup lines ≡ no_refusal → ⊥) → group_values kind setup lines ≡ replicate order_count 0
  unfolding group_values
  refused-values f =
      tabulate-same order_count _ 0
      (λ i inside. refused-value kind setup (i + 1) lines (λ e. f (sym (group_refusal-of-place setup i lines inside) ∙ e)))

  -- so the row that is answered always holds the values that are answered for its orders
  pub group_row_answer-values : (group_row_answer kind setup lines).row.values ≡ group_values kind setup lines
  unfolding group_row_answer refused_row
  group_row_answer-values = by-refusal (ℕ_discrete (group_row_refusal setup lines) no_refusal)
    where
      by-refusal : Dec (group_row_refusal setup lines ≡ no_refusal)
          → (group_row_answer kind setup lines).row.values ≡ group_values kind setup lines
      by-refusal (yes e) = rw e
      by-refusal (no f) = rw (ne_eqb (group_row_refusal setup lines) no_refusal f) (sym (refused-values f))

  -- 40 numbers that are the values of their orders, where the row is not refused
  pub group_values-filled :
      (values : List ℕ) → group_row_refusal setup lines ≡ no_refusal → length values ≡ order_count →
      ((i : ℕ) → i < order_count → get_or values i 0 ≡ group_value kind setup (i + 1) lines) →
      values ≡ group_values kind setup lines
  unfolding group_values
  group_values-filled values e orders each =
      sym (tabulate-whole 0 values order_count orders)
      ∙ tabulate-eq order_count _ _
      (λ i inside. each i inside ∙ sym (accepted-value kind setup (i + 1) lines (group_refusal-of-place setup i lines inside ∙ e)))

-- what the code of a value rests on
pub ruleset value_steps = (group-sum-lt, mod-eq_of_lt)

-- what the code of a row rests on
pub ruleset row_steps = (order-of-place, group_values-filled)

-- the hypotheses can be met: the last order, at lines as large as any that is taken
largest-lines-accepted : group_refusal (setup_of 12 edition2) order_count (tabulate line_count (λ k. largest_line)) ≡ no_refusal
unfolding group_refusal is_system is_edition is_order tabulate
largest-lines-accepted = refl

-- ---- the row of a window

-- it is never refused for its lines
pub window_row-accepted : (setup : Setup) (window : List ℤ) → is_setup setup ≡ true → list_any out_of_range window ≡ false
    → group_row_refusal setup (lines_of window) ≡ no_refusal
unfolding group_row_refusal
window_row-accepted setup window known in-range =
    let parts = setup-parts setup known in
    rw (
      parts.system-known,
      parts.edition-known,
      eq-eqb (length (lines_of window)) line_count (length-lines_of window),
      no-line-too-large window in-range,
    )

-- the values of a window's row have 32 bits
pub window_row-fits : (kind : Kind) (setup : Setup) (window : List ℤ) → ValuesFit (window_row kind setup window)
unfolding ValuesFit window_row
window_row-fits kind setup window = group_values-le kind setup (lines_of window)

pub window_row-setup : (kind : Kind) (setup : Setup) (window : List ℤ) → (window_row kind setup window).setup ≡ setup
unfolding window_row
window_row-setup kind setup window = refl
