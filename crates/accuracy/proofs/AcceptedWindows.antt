-- A call of spectrum that is not refused: its window is in range, and it leaves the window's lines.
use mathlib.Core.Path.{◌≡◌}
use mathlib.Core.List.{List}
use Prim.Native.Nat.{ℕ}
use lib.IntN.{ℤ}
use Rattle.refusals.specs.Numbers.{no_refusal}
use Rattle.windows.specs.Window.{window_at, InRange}
use Rattle.spectral_lines.specs.Line.{lines_of}
use Rattle.spectrum.specs.Spectrum.{spectrum_refusal, spectrum_exit}
use Rattle.spectrum.proofs.Accepted.{accepted}

module _ (recording : List ℤ) (start : ℕ) (buffer : List ℕ) (taken : spectrum_refusal recording start buffer ≡ no_refusal) where
  pub window-in-range : InRange (window_at recording start)
  window-in-range = (accepted recording start buffer taken).in-range

  pub lines_left : spectrum_exit recording start buffer ≡ lines_of (window_at recording start)
  unfolding spectrum_exit
  lines_left = rw taken
