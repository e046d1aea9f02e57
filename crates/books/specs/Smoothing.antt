-- Smoothing (document 01, "The observation record"): (1000×new + 7012×old) / 8012, a time constant of 1.5 s at 0.2 s a window.
use Rattle.std.specs.Prelude.{ℕ, ◌+◌, ◌*◌, max}
use Rattle.algebra.specs.Rounding.{nearest}
use Rattle.books.specs.Book.{Numbers}

abbrev pub new_weight : ℕ
new_weight = 1000

abbrev pub old_weight : ℕ
old_weight = 7012

-- to the nearest, halves up
unfoldable pub smoothed_value : ℕ → ℕ → ℕ
smoothed_value new old = nearest (new_weight * new + old_weight * old) (new_weight + old_weight)

-- the units that a smoothed value may be off
abbrev pub smoothed_margin : ℕ
smoothed_margin = 12

-- the numbers of the reported book: whole numbers, rounded
abbrev pub reported : Numbers
reported = record { Value = ℕ; none = 0; smooth = smoothed_value; plus = ◌+◌; greater = max }
