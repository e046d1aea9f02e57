-- What it tells that a call for lines is not refused: the window is in range, and the buffer's length is one that the call takes. And every other call for its lines is accepted then, with such a buffer.
use mathlib.Core.Bool.{Bool, false}
use mathlib.Core.List.{List}
use mathlib.Core.Path.{◌≡◌, refl}
use Prim.Native.Nat.{ℕ, ◌-◌, ◌≤◌}
use native.Mathlib.Omega.{arith}
use borrow.Author.Tests.{ltb-false}
use lib.IntN.{ℤ}
use lib.ListN.{length, length-take, length-drop}
use Rattle.refusals.specs.Numbers.{no_refusal, short_window, wrong_line_count, sample_out_of_range}
use Rattle.refusals.proofs.Answers.{no-faults}
use Rattle.windows.specs.Window.{window_length, window_at, InRange}
use Rattle.windows.specs.Checks.{window_checks, window_refusal}

pub record Accepted (recording : List ℤ) (start : ℕ) (wrong_count : Bool) : Type 0 where
  pub in-range : InRange (window_at recording start)
  pub right-count : wrong_count ≡ false

pub window-accepted :
    (recording : List ℤ) (start : ℕ) (wrong_count : Bool) →
    window_refusal recording start wrong_count ≡ no_refusal →
    Accepted recording start wrong_count
unfolding window_refusal window_at
window-accepted recording start wrong_count passed =
    let no-fault = no-faults (window_checks recording start wrong_count) refl passed in
    let enough : window_length ≤ length recording - start = ltb-false _ _ (no-fault short_window) in
    record {
      in-range = record { whole-window = simp (length-take, length-drop) (omega arith); samples = no-fault sample_out_of_range };
      right-count = no-fault wrong_line_count;
    }

-- a window that one call for lines accepts is accepted by every other, with a buffer of a length that it takes
pub window-again :
    (recording : List ℤ) (start : ℕ) (wrong_count other : Bool) →
    window_refusal recording start wrong_count ≡ no_refusal →
    other ≡ false →
    window_refusal recording start other ≡ no_refusal
unfolding window_refusal
window-again recording start wrong_count other passed right =
    let no-fault = no-faults (window_checks recording start wrong_count) refl passed in
    rw (no-fault short_window, right, no-fault sample_out_of_range)
