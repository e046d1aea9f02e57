-- Lines by their numbers: how many there are, which line stands at a place, and that in a window in range none is above 2^59.
use mathlib.Core.Bool.{false}
use mathlib.Core.List.{List}
use mathlib.Core.Path.{◌≡◌, sym, ap, ◌∙◌}
use Prim.Native.Nat.{ℕ, ◌+◌, ◌<◌, ◌≤◌}
use native.Mathlib.Nat.{zero-add}
use borrow.Author.Tests.{le-ltb}
use lib.Dec.{ltb}
use lib.IntN.{ℤ}
use lib.ListN.{length, get_or}
use Rattle.std.specs.List.{list_any}
use Rattle.algebra.proofs.Lists.{length-tabulate, get_or-tabulate, get_or-tabulate-le, tabulate-eq, tabulate-whole, list_any-false}
use Rattle.spectral_lines.specs.Line.{line_count, line_of, largest_line, lines_from, lines_of}
use Rattle.windows.specs.Window.{out_of_range}
use Rattle.spectral_lines.proofs.Bounds.{line-le}

module _ (first count : ℕ) (window : List ℤ) where
  pub length-lines_from : length (lines_from first count window) ≡ count
  unfolding lines_from
  length-lines_from = length-tabulate count (λ i. line_of window (first + i))

  pub get_or-lines_from : (i : ℕ) → i < count → get_or (lines_from first count window) i 0 ≡ line_of window (first + i)
  unfolding lines_from
  get_or-lines_from i h = get_or-tabulate count (λ i. line_of window (first + i)) i 0 h

  -- a list that has a line at each place
  pub lines_from_places : (lines : List ℕ) → length lines ≡ count → ((i : ℕ) → i < count → get_or lines i 0 ≡ line_of window (first + i)) → lines ≡ lines_from first count window
  unfolding lines_from
  lines_from_places lines long each =
      sym (tabulate-whole 0 lines count long) ∙ tabulate-eq count (λ i. get_or lines i 0) (λ i. line_of window (first + i)) each

  -- no line is ever refused as too large, also none past the end
  module _ (in-range : list_any out_of_range window ≡ false) where
    pub lines_from-le : (i : ℕ) → get_or (lines_from first count window) i 0 ≤ largest_line
    unfolding lines_from
    lines_from-le =
        get_or-tabulate-le count (λ i. line_of window (first + i)) largest_line (λ i h. line-le window in-range (first + i))

    pub lines_from-taken : list_any (ltb largest_line) (lines_from first count window) ≡ false
    lines_from-taken =
        list_any-false (ltb largest_line) (lines_from first count window) 0
        (λ i h. le-ltb largest_line (get_or (lines_from first count window) i 0) (lines_from-le i))

-- ---- the 512 lines

pub length-lines_of : (window : List ℤ) → length (lines_of window) ≡ line_count
unfolding lines_of
length-lines_of = length-lines_from 0 line_count

pub get_or-lines_of : (window : List ℤ) (k : ℕ) → k < line_count → get_or (lines_of window) k 0 ≡ line_of window k
unfolding lines_of
get_or-lines_of window k h = get_or-lines_from 0 line_count window k h ∙ ap (line_of window) (zero-add k)

pub no-line-too-large : (window : List ℤ) → list_any out_of_range window ≡ false → list_any (ltb largest_line) (lines_of window) ≡ false
unfolding lines_of
no-line-too-large = lines_from-taken 0 line_count
