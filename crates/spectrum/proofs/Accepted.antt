-- What it tells that the call `spectrum` is not refused.
use mathlib.Core.Bool.{not}
use mathlib.Core.List.{List}
use mathlib.Core.Path.{◌≡◌}
use Prim.Native.Nat.{ℕ}
use lib.Dec.{eqb}
use lib.IntN.{ℤ}
use lib.ListN.{length}
use Rattle.refusals.specs.Numbers.{no_refusal}
use Rattle.windows.specs.Checks.{window_refusal}
use Rattle.windows.proofs.Accepted.{Accepted, window-accepted}
use Rattle.spectral_lines.specs.Line.{line_count}
use Rattle.spectrum.specs.Spectrum.{spectrum_refusal}

pub accepted :
    (recording : List ℤ) (start : ℕ) (buffer : List ℕ) →
    spectrum_refusal recording start buffer ≡ no_refusal →
    Accepted recording start (not (eqb (length buffer) line_count))
unfolding spectrum_refusal window_refusal
accepted recording start buffer = window-accepted recording start (not (eqb (length buffer) line_count))
