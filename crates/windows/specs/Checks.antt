-- The checks of a call that is lent a recording (document 01, the refusal table's row "spectrum").
use Rattle.std.specs.Prelude.{Bool, List, [], ◌∷◌, ℕ, ◌-◌, ltb, ℤ, length}
use Rattle.std.specs.List.{list_any}
use Rattle.refusals.specs.Numbers.{short_window, wrong_line_count, sample_out_of_range}
use Rattle.refusals.specs.Answers.{first_fault}
use Rattle.windows.specs.Window.{window_length, window_at, out_of_range}

-- 2 fewer than 2,048 samples from start
abbrev pub short_check : List ℤ → ℕ → Bool × ℕ
short_check recording start = (ltb (length recording - start) window_length, short_window)

-- 3 a sample of the window out of range
abbrev pub range_check : List ℤ → ℕ → Bool × ℕ
range_check recording start = (list_any out_of_range (window_at recording start), sample_out_of_range)

-- 2, 4, 3: the row of each call for lines, which has its own test for a buffer of the wrong length
abbrev pub window_checks : List ℤ → ℕ → Bool → List (Bool × ℕ)
window_checks recording start wrong_count =
    short_check recording start ∷ (wrong_count, wrong_line_count) ∷ range_check recording start ∷ []

-- the refusal of such a row
unfoldable pub window_refusal : List ℤ → ℕ → Bool → ℕ
window_refusal recording start wrong_count = first_fault (window_checks recording start wrong_count)
