-- Card 13's pairs: sample j with sample 2048 − j, for j = 1..1023. No public contract cites them: proofs/PairedSums.antt shows that the sums over them are document 01's.
use Rattle.std.specs.Prelude.{List, ℕ, ◌+◌, ◌-◌, ◌*◌, ℤ, ◌+ℤ◌, ◌-ℤ◌, ◌*ℤ◌}
use Rattle.algebra.specs.Sums.{sum_to}
use Rattle.sine.specs.Wave.{table_sine, table_cosine}
use Rattle.windows.specs.Window.{window_length, sample_at}

abbrev pub pair_sum : List ℤ → ℕ → ℤ
pair_sum window j = sample_at window j +ℤ sample_at window (window_length - j)

abbrev pub pair_difference : List ℤ → ℕ → ℤ
pair_difference window j = sample_at window j -ℤ sample_at window (window_length - j)

-- the whole sum of the cosine over the pairs' sums, with the samples 0 and 1024 alone
unfoldable pub cosine_over_pairs : List ℤ → ℕ → ℤ
cosine_over_pairs window k =
    sample_at window 0 *ℤ table_cosine 0 +ℤ sample_at window 1024 *ℤ table_cosine (1024 * k)
    +ℤ sum_to 1023 (λ i. pair_sum window (1 + i) *ℤ table_cosine ((1 + i) * k))

-- the whole sum of the sine over the pairs' differences; at the samples 0 and 1024 the sine is 0
unfoldable pub sine_over_pairs : List ℤ → ℕ → ℤ
sine_over_pairs window k = sum_to 1023 (λ i. pair_difference window (1 + i) *ℤ table_sine ((1 + i) * k))
