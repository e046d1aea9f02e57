-- Rows that are worked from samples (document 01, "Exact book"; the edition, document 02, card 7), each with a window.
use Rattle.std.specs.Prelude.{◌≡◌, List, map, ℤ}
use Rattle.algebra.specs.Weighted.{Everywhere}
use Rattle.spectral_lines.specs.Line.{lines_of}
use Rattle.windows.specs.Window.{InRange}
use Rattle.rows.specs.declared.Row.{Row}
use Rattle.kinds.specs.declared.Kind.{Kind}
use Rattle.groups.specs.Group.{group_values}

-- a row is worked from samples if, with its system and its edition, it holds the 40 values of the kind that are answered for the lines of one window in range
pub record Worked (kind : Kind) (row : Row) (window : List ℤ) : Type 0 where
  pub in-range : InRange window
  pub values : row.values ≡ group_values kind row.setup (lines_of window)

-- a row with a window
pub record Sampled : Type 0 where
  pub row : Row
  pub window : List ℤ

-- of each of some rows in turn a window that it is worked from, all of one kind
pub record SampledRows (kind : Kind) (rows : List Row) : Type 0 where
  pub sampled : List Sampled
  pub same_rows : map (λ s. s.row) sampled ≡ rows
  pub worked : Everywhere (λ s. Worked kind s.row s.window) sampled
