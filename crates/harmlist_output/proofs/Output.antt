-- What harmlist writes for a text, a law for each way.
use mathlib.Core.List.{List}
use mathlib.Core.Path.{◌≡◌, refl}
use Prim.Native.Nat.{ℕ, ◌+◌, ◌-◌, ◌*◌, ◌%◌, ◌<◌}
use native.Mathlib.Omega.{arith}
use borrow.Author.Tests.{ne_eqb}
use Rattle.refusals.specs.Numbers.{no_refusal, short_window, no_window}
use Rattle.listing.specs.RefusalLine.{refusal_line}
use Rattle.windows.specs.Window.{window_length}
use Rattle.recordings.specs.TextLines.{text_line_count}
use Rattle.recordings.specs.InputRefusal.{refusal_before, end_refusal, input_refusal}
use Rattle.harmlist_output.specs.Output.{listing_for, harmlist_output}

module _ (text : List ℕ) where
  -- the refusal of a line
  pub harmlist_output-text-line : (refusal : ℕ) → refusal_before text (text_line_count text) ≡ refusal
      → (refusal ≡ no_refusal → ⊥) → harmlist_output text ≡ refusal_line refusal
  unfolding harmlist_output input_refusal
  harmlist_output-text-line refusal e f = rw (e, ne_eqb refusal no_refusal f, ne_eqb refusal no_refusal f)

  module _ (none : refusal_before text (text_line_count text) ≡ no_refusal) where
    -- the refusal at the end
    pub harmlist_output-at-end : (refusal : ℕ) → end_refusal (text_line_count text) ≡ refusal → (refusal ≡ no_refusal → ⊥)
        → harmlist_output text ≡ refusal_line refusal
    unfolding harmlist_output input_refusal
    harmlist_output-at-end refusal e f = rw (none, e, ne_eqb refusal no_refusal f)

    pub harmlist_output-listing : end_refusal (text_line_count text) ≡ no_refusal → harmlist_output text ≡ listing_for text
    unfolding harmlist_output input_refusal
    harmlist_output-listing e = rw (none, e)

-- ---- the end after so many lines

pub end_refusal-no-window : end_refusal 1 ≡ no_window
unfolding end_refusal
end_refusal-no-window = refl

pub end_refusal-windows : (w : ℕ) → 0 < w → end_refusal (window_length * w + 1) ≡ no_refusal
unfolding end_refusal
end_refusal-windows w h =
    let lines = window_length * w + 1 in
    let rest : (lines - 1) % window_length ≡ 0 = omega arith in
    rw (ne_eqb lines 0 (λ e. omega arith), ne_eqb lines 1 (λ e. omega arith), rest)

pub end_refusal-short : (w n : ℕ) → 0 < n → n < window_length → end_refusal (window_length * w + 1 + n) ≡ short_window
unfolding end_refusal
end_refusal-short w n h l =
    let lines = window_length * w + 1 + n in
    let rest : (lines - 1) % window_length ≡ n = omega arith in
    rw (ne_eqb lines 0 (λ e. omega arith), ne_eqb lines 1 (λ e. omega arith), rest, ne_eqb n 0 (λ e. omega arith))
