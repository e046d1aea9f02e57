-- Smoothing in figures: values of document 01's case 8, one that is rounded up and one that is rounded down, and the margin.
use mathlib.Core.List.{List, [], ◌∷◌, map}
use mathlib.Core.Path.{◌≡◌, refl}
use Prim.Native.Nat.{ℕ}
use Rattle.algebra.specs.Rounding.{nearest}
use Rattle.books.specs.Smoothing.{smoothed_value, smoothed_margin}

-- a new value, the old smoothed one, and the next
abbrev smoothed : List (ℕ × ℕ × ℕ)
smoothed = (0, 8944, 7828) ∷ (8944, 0, 1116) ∷ (8944, 5, 1121) ∷ (1, 0, 0) ∷ (0, 1, 1) ∷ (4294967295, 4294967295, 4294967295) ∷ []

smoothed-worked : map (λ c. (c.0, c.1, smoothed_value c.0 c.1)) smoothed ≡ smoothed
unfolding smoothed_value nearest
smoothed-worked = refl

margin-worked : smoothed_margin ≡ 12
margin-worked = refl
