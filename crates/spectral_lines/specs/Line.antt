-- The spectral lines of a window (document 01, "From samples to spectrum").
use Rattle.std.specs.Prelude.{List, ℕ, ◌+◌, ◌*◌, ◌^◌, ℤ, ◌*ℤ◌}
use Rattle.algebra.specs.Integers.{square}
use Rattle.algebra.specs.Lists.{tabulate}
use Rattle.algebra.specs.Rounding.{nearestℤ}
use Rattle.algebra.specs.Sums.{sum_to}
use Rattle.sine.specs.Wave.{table_sine, table_cosine}
use Rattle.windows.specs.Window.{window_length, sample_at}

-- lines of a spectrum
abbrev pub line_count : ℕ
line_count = 512

-- line numbers are below it: half of the samples in a window
abbrev pub line_limit : ℕ
line_limit = 1024

-- what the sums are divided by
abbrev pub sum_scale : ℕ
sum_scale = 2 ^ 29

-- the sum over j = 0..2047 of sample j times the wave at jk, before any division
unfoldable pub line_sum : (ℕ → ℤ) → List ℤ → ℕ → ℤ
line_sum wave window k = sum_to window_length (λ j. sample_at window j *ℤ wave (j * k))

-- the sum divided by 2^29, to the nearest, halves up: document 01's A with the table's cosine as the wave, its B with the table's sine
unfoldable pub rounded_sum : (ℕ → ℤ) → List ℤ → ℕ → ℤ
rounded_sum wave window k = nearestℤ (line_sum wave window k) sum_scale

-- the line: the sum of the squares of A and B
unfoldable pub line_of : List ℤ → ℕ → ℕ
line_of window k =
    square (rounded_sum table_cosine window k) + square (rounded_sum table_sine window k)

-- the largest line that is taken: no line of a window in range is above it
abbrev pub largest_line : ℕ
largest_line = 2 ^ 59

-- so many lines, the first of which has the given number
unfoldable pub lines_from : ℕ → ℕ → List ℤ → List ℕ
lines_from first count window = tabulate count (λ i. line_of window (first + i))

-- the 512 lines
unfoldable pub lines_of : List ℤ → List ℕ
lines_of window = lines_from 0 line_count window
