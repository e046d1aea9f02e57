-- What the call `spectrum` answers, and leaves in the buffer, for a window whose samples are in range; and the values of a row of groups.
use mathlib.Core.Bool.{false}
use mathlib.Core.List.{List}
use mathlib.Core.Path.{◌≡◌}
use Prim.Native.Nat.{ℕ}
use native.Mathlib.Omega.{arith}
use lib.IntN.{ℤ}
use lib.ListN.{length}
use lib.Seq.{take_all}
use Rattle.std.specs.List.{list_any}
use Rattle.refusals.specs.Numbers.{no_refusal}
use Rattle.windows.specs.Window.{window_length, window_at, out_of_range}
use Rattle.spectral_lines.specs.Line.{line_count, lines_of}
use Rattle.kinds.specs.declared.Kind.{Kind}
use Rattle.rows.specs.declared.Setup.{Setup}
use Rattle.groups.specs.Group.{group_values, group_row_answer}
use Rattle.groups.proofs.GroupSum.{group_row_answer-values}
use Rattle.spectrum.specs.Spectrum.{spectrum_refusal, spectrum_exit}

pub spectrum_exit-window : (window : List ℤ) (buffer : List ℕ) → length window ≡ window_length → length buffer ≡ line_count
    → list_any out_of_range window ≡ false → spectrum_exit window 0 buffer ≡ lines_of window
unfolding spectrum_exit spectrum_refusal window_at
spectrum_exit-window window buffer long count e =
    rw (take_all window_length window (omega arith), long, count, e)

pub spectrum_refusal-window : (window : List ℤ) (buffer : List ℕ) → length window ≡ window_length → length buffer ≡ line_count
    → list_any out_of_range window ≡ false → spectrum_refusal window 0 buffer ≡ no_refusal
unfolding spectrum_refusal window_at
spectrum_refusal-window window buffer long count e =
    rw (take_all window_length window (omega arith), long, count, e)

-- the values of the row that is answered, zeros where it is refused
pub row_values : (kind : Kind) (setup : Setup) (lines : List ℕ) → (group_row_answer kind setup lines).row.values ≡ group_values kind setup lines
row_values kind setup lines = group_row_answer-values kind setup lines
