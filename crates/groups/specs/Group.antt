-- The group value, the row of them and what the calls answer (document 01, "Groups" and the refusal table's row "group value"; document 02, card 7, for the edition).
use Rattle.std.specs.Prelude.{Bool, List, ◌∷◌, ◌++◌, ℕ, ◌+◌, ℤ}
use Rattle.algebra.specs.Lists.{tabulate}
use Rattle.square_root.specs.Root.{root_of}
use Rattle.refusals.specs.Answers.{first_fault, unless_refused, Answer, answer}
use Rattle.rows.specs.Orders.{order_count, order_check}
use Rattle.rows.specs.Setups.{setup_checks}
use Rattle.rows.specs.declared.Setup.{Setup}
use Rattle.rows.specs.Rows.{refused_row, RowAnswer}
use Rattle.rows.specs.declared.Row.{Row}
use Rattle.spectral_lines.specs.Line.{line_count, lines_of}
use Rattle.kinds.specs.declared.Kind.{Kind}
use Rattle.spans.specs.Checks.{line_checks}
use Rattle.spans.specs.Spans.{Weighted, weights_of, weighted_sum, line_at}

-- the whole part of the square root of the sum of 2×w×L over some lines, L given by the line's number
unfoldable pub value_over : List Weighted → (ℕ → ℕ) → ℕ
value_over xs line_at = root_of (weighted_sum line_at xs)

-- that of a group
unfoldable pub group_value : Kind → Setup → ℕ → List ℕ → ℕ
group_value kind setup order lines = value_over (weights_of kind setup order) (line_at lines)

-- 4 not 512 lines; 5 any of the 512 above 2^59
abbrev pub spectrum_line_checks : List ℕ → List (Bool × ℕ)
spectrum_line_checks = line_checks line_count

-- 1 system not 10 or 12; 19 edition not 0 or 1; 6 order outside 1..40; 4; 5
abbrev pub group_checks : Setup → ℕ → List ℕ → List (Bool × ℕ)
group_checks setup order lines = setup_checks setup ++ order_check order ∷ spectrum_line_checks lines

unfoldable pub group_refusal : Setup → ℕ → List ℕ → ℕ
group_refusal setup order lines = first_fault (group_checks setup order lines)

unfoldable pub group_answer : Kind → Setup → ℕ → List ℕ → Answer
group_answer kind setup order lines = answer (group_refusal setup order lines) (group_value kind setup order lines)

-- the values that are answered for the orders 1..40, at the places 0..39: those of a row
unfoldable pub group_values : Kind → Setup → List ℕ → List ℕ
group_values kind setup lines = tabulate order_count (λ i. (group_answer kind setup (i + 1) lines).value)

-- all of them in one call, which is asked for no order: 1; 19; 4; 5
abbrev pub group_row_checks : Setup → List ℕ → List (Bool × ℕ)
group_row_checks setup lines = setup_checks setup ++ spectrum_line_checks lines

unfoldable pub group_row_refusal : Setup → List ℕ → ℕ
group_row_refusal setup lines = first_fault (group_row_checks setup lines)

unfoldable pub group_row_answer : Kind → Setup → List ℕ → RowAnswer
group_row_answer kind setup lines =
    record {
      refusal = group_row_refusal setup lines;
      row =
          unless_refused
          (group_row_refusal setup lines)
          (record { setup = setup; values = group_values kind setup lines })
          refused_row;
    }

-- the row of a kind that is worked from a window
unfoldable pub window_row : Kind → Setup → List ℤ → Row
window_row kind setup window = record { setup = setup; values = group_values kind setup (lines_of window) }
