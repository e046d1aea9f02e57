-- A window folded as far as the table's symmetries go (card 13). No contract of a call for lines cites it: proofs/HalvedSums.antt shows that the sums over what is left are document 01's.
use Rattle.std.specs.Prelude.{List, ℕ, zero, suc, ◌+◌, ◌-◌, ◌*◌, ◌^◌, ◌≤◌, ℤ, nat_abs}
use Rattle.windows.specs.Window.{window_length, largest_sample}
use Rattle.spectral_lines.specs.Folding.{held_by, last_place, folded, paired}

-- no number is larger in size than the bound
abbrev pub Bounded : ℕ → (ℕ → ℤ) → Type 0
Bounded bound f = (p : ℕ) → nat_abs (f p) ≤ bound

-- the places 0..2·half, the cosine's, and the last 2·half − 1, the sine's, each folded
unfoldable pub halved : ℕ → (ℕ → ℤ) → ℕ → ℤ
halved half f = folded (window_length + 1 - 2 * half) last_place (folded 0 (2 * half) f)

-- halved at 2^(d − 1), 2^(d − 2), .. 1
unfoldable pub halved_from : ℕ → (ℕ → ℤ) → ℕ → ℤ
halved_from zero f = f
halved_from (suc d) f = halved_from d (halved (2 ^ d) f)

-- a window folded as far as the table's symmetries go: the pairs, and then halved at 512, 256, .. 1
unfoldable pub folded_window : List ℤ → ℕ → ℤ
folded_window window = halved_from 10 (paired (held_by window))

-- no number of a folded window in range is above it: each is made of samples, all 2,048 at most
abbrev pub largest_folded : ℕ
largest_folded = window_length * largest_sample
