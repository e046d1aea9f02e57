-- The panel's buffer (document 02, card 6): what is known of a call that is not refused, and the value of an order from a buffer that holds the lines of its harmonic group.
use mathlib.Core.Bool.{Bool, true, false, cond, not, ◌&&◌}
use mathlib.Core.List.{List, ◌++◌}
use mathlib.Core.Path.{◌≡◌, refl, sym, ap, ◌∙◌}
use Prim.Native.Nat.{ℕ, ◌+◌, ◌-◌, ◌%◌, ◌^◌, ◌≤◌, ◌<◌}
use native.Mathlib.Nat.{mod-eq_of_lt}
use native.Mathlib.Decide.{dec_lt}
use native.Mathlib.Omega.{arith}
use borrow.Author.Tests.{eqb-true, not-false}
use lib.Dec.{eqb}
use lib.IntN.{ℤ}
use lib.ListN.{length, take, get_or, get_or-append}
use lib.Seq.{get_or-take, get_or-append-add, length-take-le}
use Rattle.std.proofs.lemmas.List.{places}
use Rattle.square_root.specs.Root.{root_of}
use Rattle.refusals.specs.Numbers.{no_refusal, unknown_system, unknown_edition}
use Rattle.refusals.proofs.Answers.{no-faults, unless_refused-accepted}
use Rattle.refusals.proofs.Appended.{first_fault-append-none}
use Rattle.refusals.proofs.Results.{number_is_positive}
use Rattle.rows.specs.Editions.{edition_a1}
use Rattle.rows.specs.Orders.{order_count, is_order}
use Rattle.rows.specs.Setups.{is_setup, setup_checks}
use Rattle.rows.specs.declared.Setup.{Setup}
use Rattle.rows.proofs.Setups.{is_setup-known, setup-parts}
use Rattle.rows.proofs.Systems.{system-bounds}
use Rattle.rows.proofs.Orders.{order-of-place}
use Rattle.spectral_lines.specs.Line.{line_count, line_limit, line_of, lines_from, lines_of}
use Rattle.windows.specs.Window.{window_at, InRange}
use Rattle.windows.specs.Checks.{window_checks, window_refusal}
use Rattle.spectral_lines.specs.Calls.{lines_from_refusal, lines_from_exit}
use Rattle.windows.proofs.Accepted.{window-accepted}
use Rattle.spectral_lines.proofs.PartAccepted.{part-accepted}
use Rattle.spectral_lines.proofs.Lines.{length-lines_from, get_or-lines_from, get_or-lines_of, no-line-too-large}
use Rattle.kinds.specs.declared.Kind.{Kind}
use Rattle.kinds.specs.declared.Kind.TheVariants.{Component, HarmonicGroup}
use Rattle.kinds.specs.declared.Span.{Span}
use Rattle.kinds.specs.Kinds.{span_of, grouped_as, group_span}
use Rattle.spans.specs.Spans.{weights_in, weights_of, weighted_sum, line_at}
use Rattle.groups.specs.Group.{value_over, group_value, group_values}
use Rattle.panel.specs.Panel.{panel_line_count, panel_refusal, first_line, panel_span}
use Rattle.kinds.proofs.Bounds.{centre-bounds, span_of-bounds, group_span-bounds}
use Rattle.spans.proofs.Weights.{weights_of-total-le, weighted_sum-moved}
use Rattle.spans.proofs.SumBounds.{weighted_sum-lt}
use Rattle.groups.proofs.GroupSum.{group_values-filled, window_row-accepted}

-- ---- a call that is not refused

pub record PanelAccepted (setup : Setup) (recording : List ℤ) (start : ℕ) (buffer : List ℕ) : Type 0 where
  pub known-setup : is_setup setup ≡ true
  pub line-count : length buffer ≡ panel_line_count
  pub in-range : InRange (window_at recording start)
  pub window-passed : window_refusal recording start (not (eqb (length buffer) panel_line_count)) ≡ no_refusal

pub panel-accepted :
    (setup : Setup) (recording : List ℤ) (start : ℕ) (buffer : List ℕ) →
    panel_refusal setup recording start buffer ≡ no_refusal →
    PanelAccepted setup recording start buffer
unfolding panel_refusal window_refusal
panel-accepted setup recording start buffer e =
    let wrong_count = not (eqb (length buffer) panel_line_count) in
    let passed = first_fault-append-none (setup_checks setup) (window_checks recording start wrong_count) refl e in
    let no-fault = no-faults (setup_checks setup) refl passed.0 in
    let window = window-accepted recording start wrong_count passed.1 in
    record {
      known-setup = is_setup-known setup (not-false _ (no-fault unknown_system)) (not-false _ (no-fault unknown_edition));
      line-count = eqb-true _ _ (not-false _ window.right-count);
      in-range = window.in-range;
      window-passed = passed.1;
    }

-- of the buffer the checks look at the length alone
pub panel_refusal-length :
    (setup : Setup) (recording : List ℤ) (start : ℕ) (buffer other : List ℕ) →
    length buffer ≡ length other →
    panel_refusal setup recording start buffer ≡ panel_refusal setup recording start other
unfolding panel_refusal
panel_refusal-length setup recording start buffer other same = rw same

-- ---- the lines of an order

-- the buffer holds so many lines of a window from a first one on
abbrev pub Holds : List ℤ → ℕ → ℕ → List ℕ → Type 0
Holds window first count buffer = (i : ℕ) → i < count → line_at buffer i ≡ line_of window (first + i)

-- lines that are put after those that it holds
pub holds_more :
    (window : List ℤ) (first have count total : ℕ) (buffer lines rest : List ℕ) →
    total ≡ have + count →
    have ≤ length buffer →
    lines ≡ lines_from (first + have) count window →
    Holds window first have buffer →
    Holds window first total (take have buffer ++ (lines ++ rest))
holds_more window first have count total buffer lines rest sum room more holds i below = by_place (dec_lt i have)
  where
    before : length (take have buffer) ≡ have
    before = length-take-le have buffer room

    by_place : Dec (i < have) → line_at (take have buffer ++ (lines ++ rest)) i ≡ line_of window (first + i)
    by_place (yes here) =
        get_or-append (take have buffer) _ 0 i (rw before here) ∙ get_or-take have buffer i 0 here ∙ holds i here
    by_place (no there) =
        let place : i ≡ length (take have buffer) + (i - have) = omega (arith, before) in
        let number : first + have + (i - have) ≡ first + i = omega arith in
        ap (line_at (take have buffer ++ (lines ++ rest))) place
        ∙ get_or-append-add (take have buffer) _ (i - have) 0
        ∙ get_or-append lines rest 0 (i - have) (rw (more, length-lines_from (first + have) count window) (omega arith))
        ∙ ap (λ l. line_at l (i - have)) more
        ∙ get_or-lines_from (first + have) count window (i - have) (omega arith)
        ∙ ap (line_of window) number

-- a part of the buffer, for a window that is accepted: the call for its lines is not refused, and leaves them there
module _
    (recording : List ℤ) (start first : ℕ) (part : List ℕ)
    (passed : window_refusal recording start false ≡ no_refusal) (within : first + length part ≤ line_limit) where
  pub part-taken : lines_from_refusal recording start first part ≡ no_refusal
  part-taken = part-accepted recording start false passed first part within

  pub part-left : lines_from_exit recording start first part ≡ lines_from first (length part) (window_at recording start)
  unfolding lines_from_exit
  part-left = unless_refused-accepted _ _ part part-taken

module _ (setup : Setup) (h : ℕ) (known : is_setup setup ≡ true) (order : is_order h ≡ true) where
  abbrev n : ℕ
  n = setup.system

  abbrev span : Span
  span = group_span HarmonicGroup setup h

  -- the lines of a kind lie within the harmonic group of document 01's table
  pub record Within (kind : Kind) : Type 0 where
    pub from : first_line setup h ≤ (span_of kind n h).first
    pub to : (span_of kind n h).first + (span_of kind n h).count ≤ first_line setup h + (n + 1)

  component-within : Within Component
  unfolding span_of
  component-within =
      let s = system-bounds n (setup-parts setup known).system-known in
      let c = centre-bounds n h (setup-parts setup known).system-known order in
      record { from = omega arith; to = omega arith }

  -- so do those of the group that is taken, which is that group or the component
  pub within : Within (grouped_as HarmonicGroup setup.edition h)
  unfolding grouped_as span_of
  within = by-test (eqb setup.edition edition_a1 && eqb h 1)
    where
      by-test : (a1 : Bool) → Within (cond a1 Component HarmonicGroup)
      by-test true = component-within
      by-test false = record { from = omega arith; to = omega arith }

  module _ (window : List ℤ) (buffer : List ℕ) (holds : Holds window (first_line setup h) (n + 1) buffer) where
    -- the sum over the buffer is that over the 512 lines
    pub panel-sum : weighted_sum (line_at buffer) (weights_in (panel_span setup h)) ≡ weighted_sum (line_at (lines_of window)) (weights_of HarmonicGroup setup h)
    unfolding panel_span
    panel-sum =
        weighted_sum-moved (line_at buffer) (line_at (lines_of window)) span (span.first - first_line setup h)
        (λ i below.
        let place : first_line setup h + (span.first - first_line setup h + i) ≡ span.first + i = omega (arith, within.from) in
        holds (span.first - first_line setup h + i) (omega (arith, within.from, within.to))
        ∙ ap (line_of window) place
        ∙ sym (get_or-lines_of window (span.first + i) (omega (arith, (group_span-bounds HarmonicGroup setup h known order).end-le))))

    pub panel-value : value_over (weights_in (panel_span setup h)) (line_at buffer) ≡ group_value HarmonicGroup setup h (lines_of window)
    unfolding value_over group_value
    panel-value = ap root_of panel-sum

    pub panel-sum-lt : InRange window → weighted_sum (line_at buffer) (weights_in (panel_span setup h)) < 2 ^ 64
    panel-sum-lt in-range =
        rw panel-sum
        (weighted_sum-lt (lines_of window) (no-line-too-large window in-range.samples) (weights_of HarmonicGroup setup h) (weights_of-total-le HarmonicGroup setup h known order))

-- the last line of a group is the first of the next
pub first_line-next : (setup : Setup) (h : ℕ) → is_setup setup ≡ true → is_order h ≡ true → first_line setup (h + 1) ≡ first_line setup h + setup.system
unfolding span_of
first_line-next setup h known order =
    let c = centre-bounds setup.system h (setup-parts setup known).system-known order in
    omega arith

-- every line of a group is among the 512
pub first_line-end : (setup : Setup) (h : ℕ) → is_setup setup ≡ true → is_order h ≡ true → first_line setup h + (setup.system + 1) ≤ line_count
unfolding span_of
first_line-end setup h known order = (span_of-bounds HarmonicGroup setup.system h (setup-parts setup known).system-known order).end-le

-- so is the first line of all
pub first_line-first : (setup : Setup) → is_setup setup ≡ true → first_line setup 1 + 1 ≤ line_limit
first_line-first setup known = omega (arith, first_line-end setup 1 known (order-of-place 0 (omega arith)))

-- a group has at most 13 lines, which the buffer holds
pub cycles-le : (setup : Setup) → is_setup setup ≡ true → setup.system + 1 ≤ panel_line_count
cycles-le setup known = omega (arith, (system-bounds setup.system (setup-parts setup known).system-known).most)

-- ---- what the code of the call rests on

-- the value of an order, from a buffer that held the first line of its group, and to which the others were put after it
pub panel-root :
    (setup : Setup) (h : ℕ) → is_setup setup ≡ true → is_order h ≡ true →
    (recording : List ℤ) (start : ℕ) → window_refusal recording start false ≡ no_refusal →
    (held rest : List ℕ) → length held ≡ panel_line_count → line_at held 0 ≡ line_of (window_at recording start) (first_line setup h) →
    let others = lines_from (first_line setup h + 1) setup.system (window_at recording start) in
    root_of (weighted_sum (line_at (take 1 held ++ (others ++ rest))) (weights_in (panel_span setup h)) % 2 ^ 64) ≡
    group_value HarmonicGroup setup h (lines_of (window_at recording start))
unfolding value_over
panel-root setup h known order recording start passed held rest room there =
    let window = window_at recording start in
    let first = first_line setup h in
    let in-range = (window-accepted recording start false passed).in-range in
    let holds = holds_more window first 1 setup.system (setup.system + 1) held _ rest (omega arith) (omega arith) refl
    (λ i below.
    let zeroth : i ≡ 0 = omega arith in
    let here : first + 0 ≡ first = omega arith in
    rw (zeroth, here) there) in
    rw (mod-eq_of_lt (panel-sum-lt setup h known order window _ holds in-range)) (panel-value setup h known order window _ holds)

-- 40 numbers that are the values of their orders are those of the window's row
pub panel-values :
    (setup : Setup) (recording : List ℤ) (start : ℕ) (values : List ℕ) →
    is_setup setup ≡ true → window_refusal recording start false ≡ no_refusal → length values ≡ order_count →
    ((i : ℕ) → i < order_count → get_or values i 0 ≡ group_value HarmonicGroup setup (i + 1) (lines_of (window_at recording start))) →
    values ≡ group_values HarmonicGroup setup (lines_of (window_at recording start))
panel-values setup recording start values known passed orders each =
    let window = window_at recording start in
    let in-range = (window-accepted recording start false passed).in-range in
    group_values-filled HarmonicGroup setup (lines_of window) values (window_row-accepted setup window known in-range.samples) orders each

-- the steps of an order's group
pub ruleset group_steps = (cycles-le, first_line-end, first_line-next, part-taken, part-left, get_or-lines_from, number_is_positive, places)

-- the steps of the row
pub ruleset row_steps = (group_steps, order-of-place, first_line-first, panel-values)
