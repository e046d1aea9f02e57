-- The edges of a window and of its checks, worked on the definitions in figures.
use mathlib.Core.Bool.{true, false}
use mathlib.Core.List.{List, [], ◌∷◌, ◌++◌, map}
use mathlib.Core.Path.{◌≡◌, refl}
use Prim.Native.Nat.{ℕ, ◌-◌, ◌^◌}
use lib.IntN.{ℤ, pos, negsuc}
use lib.ListN.{length, replicate}
use Rattle.windows.specs.Window.{window_at, sample_at, out_of_range}
use Rattle.windows.specs.Checks.{window_refusal}

-- 4,200 samples: 2,048 of 1, 2,048 of 2, and then 3
abbrev blocks : List ℤ
blocks = replicate 2048 (pos 1) ++ (replicate 2048 (pos 2) ++ replicate 104 (pos 3))

-- how many samples a window has, its first and its last: from the front, from later starts, and where the recording ends before
abbrev seen : ℕ → ℕ × ℤ × ℤ
seen start = (length (window_at blocks start), sample_at (window_at blocks start) 0, sample_at (window_at blocks start) 2047)

windows-worked :
    map seen (0 ∷ 1 ∷ 2048 ∷ 2049 ∷ 2152 ∷ 2153 ∷ (2 ^ 64 - 1) ∷ []) ≡
    (2048, pos 1, pos 1) ∷ (2048, pos 1, pos 2) ∷ (2048, pos 2, pos 2) ∷ (2048, pos 2, pos 3) ∷ (2048, pos 2, pos 3) ∷ (2047, pos 2, pos 0) ∷ (0, pos 0, pos 0) ∷ []
unfolding window_at
windows-worked = refl

range-worked : map out_of_range (pos 131071 ∷ negsuc 131070 ∷ pos 131072 ∷ negsuc 131071 ∷ []) ≡ false ∷ false ∷ true ∷ true ∷ []
unfolding out_of_range
range-worked = refl

-- each check alone, and two faults, of which the earlier in the row decides
abbrev silence : ℕ → List ℤ
silence count = replicate count (pos 0)

abbrev too_large : ℕ → List ℤ
too_large count = replicate count (pos 131072)

abbrev cases : List (ℕ × ℕ)
cases =
    (window_refusal (silence 2048) 0 false, 0) ∷
    (window_refusal (silence 2048) 1 false, 2) ∷
    (window_refusal (silence 2048) 0 true, 4) ∷
    (window_refusal (too_large 2048) 0 false, 3) ∷
    (window_refusal (silence 2047) 0 true, 2) ∷
    (window_refusal (too_large 2048) 0 true, 4) ∷
    (window_refusal (too_large 2047) 0 false, 2) ∷
    []

cases-worked : map (λ c. c.0) cases ≡ map (λ c. c.1) cases
unfolding window_refusal window_at out_of_range
cases-worked = refl
