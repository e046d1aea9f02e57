-- "Two accepted windows alike but for one sample, with d the size of the difference" (document 02, card 14).
use Rattle.std.specs.Prelude.{◌≡◌, List, ℕ, ℤ, nat_abs, ◌-ℤ◌}
use Rattle.refusals.specs.Numbers.{no_refusal}
use Rattle.windows.specs.Window.{window_at, sample_at}
use Rattle.spectrum.specs.Spectrum.{spectrum_refusal, spectrum_exit}

-- an accepted window: what a call of `spectrum` is given that it does not refuse
pub record AcceptedWindow : Type 0 where
  pub recording : List ℤ
  pub start : ℕ
  pub buffer : List ℕ
  pub accepted : spectrum_refusal recording start buffer ≡ no_refusal

-- its samples
abbrev pub samples_of : AcceptedWindow → List ℤ
samples_of w = window_at w.recording w.start

-- its lines, which the call leaves in the buffer
abbrev pub lines_left : AcceptedWindow → List ℕ
lines_left w = spectrum_exit w.recording w.start w.buffer

-- "alike but for one sample", that at the place
abbrev pub AlikeBut : ℕ → List ℤ → List ℤ → Type 0
AlikeBut place one other = (j : ℕ) → ¬ (j ≡ place) → sample_at one j ≡ sample_at other j

-- "d the size of the difference"
abbrev pub glitch_size : ℕ → List ℤ → List ℤ → ℕ
glitch_size place one other = nat_abs (sample_at one place -ℤ sample_at other place)
