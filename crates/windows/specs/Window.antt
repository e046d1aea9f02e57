-- The window of a recording and the range of its samples (document 01, "From samples to spectrum").
use Rattle.std.specs.Prelude.{Bool, false, List, ◌≡◌, ℕ, ltb, ℤ, pos, nat_abs, length, get_or, take, drop}
use Rattle.std.specs.List.{list_any}

-- samples in a window
abbrev pub window_length : ℕ
window_length = 2048

-- the window: the samples of the recording that begin at the start
unfoldable pub window_at : List ℤ → ℕ → List ℤ
window_at recording start = take window_length (drop start recording)

-- sample j of a window, 0 past its end
abbrev pub sample_at : List ℤ → ℕ → ℤ
sample_at window j = get_or window j (pos 0)

-- each sample must lie in −131,071..131,071
abbrev pub largest_sample : ℕ
largest_sample = 131071

unfoldable pub out_of_range : ℤ → Bool
out_of_range sample = ltb largest_sample (nat_abs sample)

-- a window in range: all its 2,048 samples are
pub record InRange (window : List ℤ) : Type 0 where
  pub whole-window : length window ≡ window_length
  pub samples : list_any out_of_range window ≡ false
