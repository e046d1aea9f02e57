-- Group values in figures; the edges of the refusal table's row "group value" and of its order,
-- with the whole answers; and rows of values. Each is a table of rows and one computed theorem over it.
use mathlib.Core.List.{List, [], ◌∷◌, ◌++◌, map}
use mathlib.Core.Path.{◌≡◌, refl}
use Prim.Native.Nat.{ℕ, ◌+◌, ◌^◌}
use lib.ListN.{set, replicate}
use Rattle.algebra.specs.Largest.{largest}
use Rattle.algebra.specs.Lists.{tabulate}
use Rattle.algebra.specs.Weighted.{sum_over}
use Rattle.square_root.specs.Root.{root_of}
use Rattle.refusals.specs.Answers.{Answer}
use Rattle.rows.specs.Orders.{is_order}
use Rattle.rows.specs.Rows.{refused_row, RowAnswer}
use Rattle.rows.specs.Systems.{is_system}
use Rattle.rows.specs.Editions.{is_edition}
use Rattle.rows.specs.Setups.{setup_of}
use Rattle.rows.specs.declared.Setup.{Setup}
use Rattle.kinds.specs.declared.Kind.{Kind}
use Rattle.kinds.specs.declared.Kind.TheVariants.{Component, HarmonicGroup, HarmonicSubgroup, InterharmonicGroup, InterharmonicCentredSubgroup}
use Rattle.kinds.specs.Kinds.{span_of, grouped_as}
use Rattle.spans.specs.Spans.{weights_in, weighted_sum}
use Rattle.groups.specs.Group.{value_over, group_value, group_refusal, group_answer, group_values, group_row_refusal, group_row_answer}

-- 512 lines of which one is 50 and the others 0
abbrev one_line : ℕ → List ℕ
one_line line = set (replicate 512 0) line 50

-- the last line of each kind at order 3 of system 10: the root of 100 where it has weight 1, and that of 50 where it has weight 1/2
abbrev last_lines : List (Kind × ℕ × ℕ)
last_lines =
    (Component, 30, 10) ∷
    (HarmonicGroup, 35, 7) ∷
    (HarmonicSubgroup, 31, 10) ∷
    (InterharmonicGroup, 39, 10) ∷
    (InterharmonicCentredSubgroup, 38, 10) ∷
    []

last_lines-worked : map (λ c. group_value c.0 (setup_of 10 0) 3 (one_line c.1)) last_lines ≡ map (λ c. c.2) last_lines
unfolding group_value value_over span_of grouped_as weights_in tabulate weighted_sum sum_over root_of largest
last_lines-worked = refl

-- ---- the answers for components

-- a system, an edition, an order, so many lines before the last, the last, and what is answered
pub record Case : Type 0 where
  pub setup : Setup
  pub order : ℕ
  pub before : ℕ
  pub last : ℕ
  pub answered : Answer

abbrev case : ℕ → ℕ → ℕ → ℕ → ℕ → ℕ → ℕ → Case
case system edition order before last refusal value =
    record {
      setup = setup_of system edition;
      order = order;
      before = before;
      last = last;
      answered = record { refusal = refusal; value = value };
    }

abbrev cases : List Case
cases =
    -- neither 10 nor 12
    case 11 0 1 511 0 1 0 ∷
    -- the two editions, and one more
    case 12 0 1 511 0 0 10 ∷
    case 12 1 1 511 0 0 10 ∷
    case 12 2 1 511 0 19 0 ∷
    -- the first and the last order, and their neighbours
    case 10 0 0 511 0 6 0 ∷
    case 10 0 1 511 0 0 10 ∷
    case 12 0 40 511 0 0 10 ∷
    case 10 0 41 511 0 6 0 ∷
    -- a line too few, and one too many
    case 10 0 1 510 0 4 0 ∷
    case 10 0 1 512 0 4 0 ∷
    -- the largest line, and one more
    case 10 0 1 511 (2 ^ 59) 0 10 ∷
    case 10 0 1 511 (2 ^ 59 + 1) 5 0 ∷
    -- two faults: the earlier in the row decides
    case 11 2 1 511 0 1 0 ∷
    case 10 2 41 511 0 19 0 ∷
    case 10 1 41 510 0 6 0 ∷
    case 10 1 40 510 (2 ^ 59 + 1) 4 0 ∷
    []

-- the lines before the last are 50, so that the value of a component is the root of 2×50
abbrev lines_before : ℕ → ℕ → List ℕ
lines_before before last = replicate before 50 ++ (last ∷ [])

cases-worked :
    map (λ c. group_answer Component c.setup c.order (lines_before c.before c.last)) cases ≡
    map (λ c. c.answered) cases
unfolding group_answer group_refusal is_system is_edition is_order group_value value_over span_of grouped_as weights_in tabulate weighted_sum sum_over root_of largest
cases-worked = refl

-- ---- the answers for a row

-- a kind, a setup, the lines, and what is answered
pub record RowCase : Type 0 where
  pub kind : Kind
  pub setup : Setup
  pub lines : List ℕ
  pub answered : RowAnswer

-- refused: a row of system 10 and edition 2, and zeros
abbrev refused_case : ℕ → ℕ → List ℕ → ℕ → RowCase
refused_case system edition lines refusal =
    record {
      kind = Component;
      setup = setup_of system edition;
      lines = lines;
      answered = record { refusal = refusal; row = record { setup = setup_of 10 0; values = replicate 40 0 } };
    }

-- the lines beside those of the orders 1 and 2, in system 12
abbrev beside_orders : List ℕ
beside_orders = set (one_line 13) 25 200

-- the row of the harmonic groups of these lines, by the edition and the value of order 1
abbrev beside_case : ℕ → ℕ → RowCase
beside_case edition first =
    let setup = setup_of 12 edition in
    record {
      kind = HarmonicGroup;
      setup = setup;
      lines = beside_orders;
      answered = record { refusal = 0; row = record { setup = setup; values = first ∷ 20 ∷ replicate 38 0 } };
    }

abbrev row_cases : List RowCase
row_cases =
    -- the lines of the orders 1 and 40
    record {
      kind = Component;
      setup = setup_of 12 0;
      lines = set (one_line 12) 480 200;
      answered = record { refusal = 0; row = record { setup = setup_of 12 0; values = 10 ∷ replicate 38 0 ++ (20 ∷ []) } };
    } ∷
    -- under A1 the group of order 1 has no line beside its component, and the group of order 2 has
    beside_case 0 10 ∷
    beside_case 1 0 ∷
    -- each fault
    refused_case 11 0 (lines_before 511 0) 1 ∷
    refused_case 12 2 (lines_before 511 0) 19 ∷
    refused_case 12 0 (lines_before 510 0) 4 ∷
    refused_case 12 0 (lines_before 511 (2 ^ 59 + 1)) 5 ∷
    -- two faults: the earlier in the row decides
    refused_case 11 2 (lines_before 511 0) 1 ∷
    refused_case 12 2 (lines_before 510 0) 19 ∷
    refused_case 12 1 (lines_before 512 (2 ^ 59 + 1)) 4 ∷
    []

row_cases-worked : map (λ c. group_row_answer c.kind c.setup c.lines) row_cases ≡ map (λ c. c.answered) row_cases
unfolding group_row_answer group_row_refusal refused_row group_values group_answer group_refusal is_system is_edition is_order group_value value_over span_of grouped_as weights_in tabulate weighted_sum sum_over root_of largest
row_cases-worked = refl
