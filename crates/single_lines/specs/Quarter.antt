-- Pairs j and 1024 − j together, for a line that is worked by itself (card 6). No public contract cites them: proofs/QuarterSums.antt shows that the sums over them are document 01's.
use Rattle.std.specs.Prelude.{Bool, cond, not, List, ℕ, ◌+◌, ◌-◌, ◌*◌, ◌%◌, eqb, ℤ, ◌+ℤ◌, ◌-ℤ◌, ◌*ℤ◌}
use Rattle.algebra.specs.Sums.{sum_to}
use Rattle.sine.specs.Wave.{table_sine, table_cosine}
use Rattle.windows.specs.Window.{sample_at}
use Rattle.spectral_lines.specs.Pairs.{pair_sum, pair_difference}

-- of two numbers the sum, or for a line with an odd number the first less the second
abbrev pub across : Bool → ℤ → ℤ → ℤ
across odd a b = cond odd (a -ℤ b) (a +ℤ b)

abbrev pub is_odd : ℕ → Bool
is_odd k = eqb (k % 2) 1

-- what the cosine, and what the sine, of line k takes at j: half a turn less an angle turns the sign of an odd line's cosine, and of an even line's sine
abbrev pub cosine_across : List ℤ → ℕ → ℕ → ℤ
cosine_across window k j = across (is_odd k) (pair_sum window j) (pair_sum window (1024 - j))

abbrev pub sine_across : List ℤ → ℕ → ℕ → ℤ
sine_across window k j = across (not (is_odd k)) (pair_difference window j) (pair_difference window (1024 - j))

-- the whole sum of the cosine, for j = 1..511, with the samples 0 and 1024 together and pair 512 alone
unfoldable pub cosine_over_quarter : List ℤ → ℕ → ℤ
cosine_over_quarter window k =
    sum_to 511 (λ i. cosine_across window k (1 + i) *ℤ table_cosine ((1 + i) * k))
    +ℤ across (is_odd k) (sample_at window 0) (sample_at window 1024) *ℤ table_cosine 0
    +ℤ pair_sum window 512 *ℤ table_cosine (512 * k)

-- that of the sine
unfoldable pub sine_over_quarter : List ℤ → ℕ → ℤ
sine_over_quarter window k =
    sum_to 511 (λ i. sine_across window k (1 + i) *ℤ table_sine ((1 + i) * k))
    +ℤ pair_difference window 512 *ℤ table_sine (512 * k)
