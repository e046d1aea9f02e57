-- One folding of a list of numbers, and the sums over its places (card 13). Where the wave at two places is the same, the sum of what they hold stands for both; where it is opposite, the difference does.
-- No contract of a call for lines cites it: that of `folding::fold_window` does.
use Rattle.std.specs.Prelude.{cond, ◌||◌, List, ℕ, ◌+◌, ◌-◌, ◌*◌, ltb, ℤ, ◌+ℤ◌, ◌-ℤ◌, ◌*ℤ◌}
use Rattle.algebra.specs.Sums.{sum_to}
use Rattle.sine.specs.Wave.{table_sine, table_cosine}
use Rattle.windows.specs.Window.{window_length, sample_at}

-- what a list holds at a place, read as a window's sample is: 0 past its end
abbrev pub held_by : List ℤ → ℕ → ℤ
held_by = sample_at

-- the last place of a window
abbrev pub last_place : ℕ
last_place = window_length - 1

-- what place p holds when a list is folded between its places first and last. The place meets its mirror, first + last − p: below the middle it then holds the sum, above the middle what it held less what the mirror held.
-- The middle, and every place outside, holds what it did.
unfoldable pub folded : ℕ → ℕ → (ℕ → ℤ) → ℕ → ℤ
folded first last f p =
    cond (ltb p first || ltb last p) (f p)
    (cond (ltb (p + p) (first + last)) (f p +ℤ f (first + last - p))
    (cond (ltb (first + last) (p + p)) (f p -ℤ f (first + last - p)) (f p)))

-- the pairs: sums at the places 1..1023, differences at 1025..2047
abbrev pub paired : (ℕ → ℤ) → ℕ → ℤ
paired = folded 1 last_place

-- the sum over some places, the first of which is given, of what they hold times a wave there
unfoldable pub place_sum : ℕ → ℕ → (ℕ → ℤ) → (ℕ → ℤ) → ℤ
place_sum first count f wave = sum_to count (λ i. f (first + i) *ℤ wave (first + i))

-- the waves of line k by their places
abbrev pub cosine_of : ℕ → ℕ → ℤ
cosine_of k p = table_cosine (p * k)

abbrev pub sine_of : ℕ → ℕ → ℤ
sine_of k p = table_sine (p * k)
