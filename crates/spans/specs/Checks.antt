-- The checks of lines that a caller lends (document 01, the refusal table's row "group value").
use Rattle.std.specs.Prelude.{ℕ, Bool, not, List, [], ◌∷◌, length, ◌==◌, nat_lt}
use Rattle.std.specs.List.{list_any}
use Rattle.refusals.specs.Numbers.{wrong_line_count, line_too_large}
use Rattle.spectral_lines.specs.Line.{largest_line}

-- 4 not so many lines; 5 any of them above 2^59
abbrev pub line_checks : ℕ → List ℕ → List (Bool × ℕ)
line_checks count lines =
    (not (length lines == count), wrong_line_count) ∷ (list_any (nat_lt largest_line) lines, line_too_large) ∷ []
