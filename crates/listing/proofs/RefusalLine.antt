-- The line for a refusal below 1,000: its number fits, it has 11 bytes, and the call that writes it is accepted where the buffer has as many.
use mathlib.Core.Bool.{true}
use mathlib.Core.List.{List}
use mathlib.Core.Path.{◌≡◌, refl, ◌∙◌}
use Prim.Native.Nat.{ℕ, ◌^◌, ◌<◌}
use native.Mathlib.Omega.{arith}
use borrow.Author.Tests.{eq-eqb}
use lib.IntN.{pos}
use lib.ListN.{length, length-append}
use Rattle.columns.specs.Text.{bytes_of}
use Rattle.columns.specs.Column.{fits_column}
use Rattle.columns.proofs.Column.{length-of-text}
use Rattle.listing.specs.RefusalLine.{refusal_width, refusal_line_length, refusal_line, refusal_line_refusal, refusal_line_exit}
use Rattle.std.specs.Prelude.{Result, Ok, Err, IsOk}
use Rattle.refusals.specs.Numbers.{no_refusal}
use Rattle.refusals.specs.Answers.{refusal_of}
use Rattle.refusals.specs.declared.Refusal.{Refusal}
use Rattle.refusals.proofs.Results.{number_is_positive}
use Rattle.listing.proofs.Lengths.{fits_of_lt}

module _ (refusal : ℕ) (small : refusal < 10 ^ refusal_width) where
  refusal-fits : fits_column refusal_width (pos refusal) ≡ true
  refusal-fits = fits_of_lt refusal_width refusal (omega arith) small

  pub refusal_line_long : length (refusal_line refusal) ≡ refusal_line_length
  unfolding refusal_line bytes_of
  refusal_line_long = simp (length-append, length-of-text refusal_width (pos refusal) refusal-fits) (omega arith)

  pub refusal_line_accepted : (buffer : List ℕ) → length buffer ≡ refusal_line_length → refusal_line_refusal buffer refusal ≡ no_refusal
  refusal_line_accepted buffer long = rw (eq-eqb (length buffer) refusal_line_length long, refusal-fits)

  pub refusal_line_written :
      {A : Type 0} (result : Result A Refusal) (buffer : List ℕ) → length buffer ≡ refusal_line_length →
      refusal_of result ≡ refusal_line_refusal buffer refusal → IsOk result
  refusal_line_written result buffer long same = by-result result (same ∙ refusal_line_accepted buffer long)
    where
      by-result : {A : Type 0} (result : Result A Refusal) → refusal_of result ≡ no_refusal → IsOk result
      by-result (Ok value) none = refl
      by-result (Err r) none = absurd (omega (arith, number_is_positive r, none))

  pub refusal_line_exit_accepted : (buffer : List ℕ) → length buffer ≡ refusal_line_length
      → refusal_line_exit buffer refusal ≡ refusal_line refusal
  refusal_line_exit_accepted buffer long = rw (eq-eqb (length buffer) refusal_line_length long, refusal-fits)
