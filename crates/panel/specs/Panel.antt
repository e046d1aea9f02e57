-- The row of a window's harmonic groups with 13 lines of scratch: what the call answers and what its buffer then holds (document 02, card 6; card 7 for the edition).
use Rattle.std.specs.Prelude.{Bool, not, List, ◌++◌, ℕ, ◌-◌, eqb, ℤ, length, replicate}
use Rattle.refusals.specs.Answers.{first_fault, unless_refused}
use Rattle.rows.specs.Setups.{setup_checks}
use Rattle.rows.specs.declared.Setup.{Setup}
use Rattle.rows.specs.Rows.{refused_row, RowAnswer}
use Rattle.windows.specs.Window.{window_at}
use Rattle.windows.specs.Checks.{window_checks}
use Rattle.kinds.specs.declared.Kind.TheVariants.{HarmonicGroup}
use Rattle.kinds.specs.declared.Span.{Span}
use Rattle.kinds.specs.Kinds.{span_of, group_span}
use Rattle.groups.specs.Group.{window_row}

-- lines of the lent buffer
abbrev pub panel_line_count : ℕ
panel_line_count = 13

-- 1 system not 10 or 12; 19 edition not 0 or 1; 2 fewer than 2,048 samples from start; 4 buffer not 13 lines; 3 a sample out of range
abbrev pub panel_checks : Setup → List ℤ → ℕ → List ℕ → List (Bool × ℕ)
panel_checks setup recording start buffer =
    setup_checks setup ++ window_checks recording start (not (eqb (length buffer) panel_line_count))

unfoldable pub panel_refusal : Setup → List ℤ → ℕ → List ℕ → ℕ
panel_refusal setup recording start buffer = first_fault (panel_checks setup recording start buffer)

-- "The row is that of the harmonic groups for every window"; "a refused row is zeros with system 10"
unfoldable pub panel_answer : Setup → List ℤ → ℕ → List ℕ → RowAnswer
panel_answer setup recording start buffer =
    record {
      refusal = panel_refusal setup recording start buffer;
      row =
          unless_refused
          (panel_refusal setup recording start buffer)
          (window_row HarmonicGroup setup (window_at recording start))
          refused_row;
    }

-- "the buffer then holds zeros"; refused, "the buffer stays"
unfoldable pub panel_exit : Setup → List ℤ → ℕ → List ℕ → List ℕ
panel_exit setup recording start buffer =
    unless_refused (panel_refusal setup recording start buffer) (replicate panel_line_count 0) buffer

-- ---- for the private functions: where the lines of an order stand in the buffer. No public contract cites it.

-- the number of the line at place 0: the first of the order's harmonic group
abbrev pub first_line : Setup → ℕ → ℕ
first_line setup h = (span_of HarmonicGroup setup.system h).first

-- the span of the order's group, counted from that line
unfoldable pub panel_span : Setup → ℕ → Span
panel_span setup h =
    record {
      first = (group_span HarmonicGroup setup h).first - first_line setup h;
      count = (group_span HarmonicGroup setup h).count;
      half_ends = (group_span HarmonicGroup setup h).half_ends;
    }
