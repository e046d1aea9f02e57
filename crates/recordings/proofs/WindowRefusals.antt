-- The first refusal of a text after one block more: that of the block's lines, or 9 at the last line of window 45,001.
use mathlib.Core.Bool.{cond}
use mathlib.Core.List.{List, ◌++◌}
use mathlib.Core.Path.{◌≡◌, refl, sym, ◌∙◌}
use Prim.Native.Nat.{ℕ, zero, suc, ◌+◌, ◌-◌, ◌*◌, ◌<◌, ◌≤◌}
use native.Mathlib.Decide.{ℕ_discrete}
use native.Mathlib.Omega.{arith}
use borrow.Author.Tests.{ne_eqb}
use lib.Dec.{eqb}
use lib.ListN.{length}
use Rattle.refusals.specs.Numbers.{no_refusal, not_a_column, largest_refusal}
use Rattle.windows.specs.Window.{window_length}
use Rattle.records.specs.Soundness.{most_windows}
use Rattle.recordings.specs.TextLines.{text_line_bytes, text_line_at, text_line_number}
use Rattle.recordings.specs.InputRefusal.{number_checks, number_refusal, text_line_refusal, first_of, refusal_before}
use Rattle.recordings.specs.Blocks.{window_bytes, sample_checks, sample_refusal, text_lines_refusal}
use Rattle.refusals.proofs.Answers.{first_fault-le}
use Rattle.recordings.proofs.FirstOf.{first_of-after-none, first_of-stays, first_of-same, first_of-with-last, first_of-le, first_of-none-at}
use Rattle.recordings.proofs.NumberOnLine.{text_line_number-cut}
use Rattle.recordings.proofs.TextLines.{lines_to, full_at, refusal_before-front, text_line_at-after, text_line_refusal-sample}

-- no further refusal at a place that is not the last line of window 45,001
full_at-none : (i : ℕ) → (i ≡ window_length * (most_windows + 1) → ⊥) → full_at i ≡ no_refusal
full_at-none i f = rw (ne_eqb i (window_length * (most_windows + 1)) f)

no-further : (x : ℕ) → cond (eqb x no_refusal) no_refusal x ≡ x
no-further zero = refl
no-further (suc x) = rw (ne_eqb (suc x) no_refusal (λ e. omega arith))

-- a line that is cut off is refused
sample_refusal-cut : (block : List ℕ) (i : ℕ) → length block - text_line_bytes * i < text_line_bytes
    → sample_refusal (text_line_at block i) ≡ not_a_column
unfolding sample_refusal
sample_refusal-cut block i h = rw (text_line_number-cut block i h)

module _ (p q : List ℕ) (w : ℕ) (long : length p ≡ text_line_bytes * lines_to w) where
  -- the refusal of a line of the second part
  text_line_refusal-after : (j : ℕ)
      → text_line_refusal (p ++ q) (lines_to w + j)
      ≡ cond (eqb (sample_refusal (text_line_at q j)) no_refusal) (full_at (lines_to w + j)) (sample_refusal (text_line_at q j))
  text_line_refusal-after j =
      rw (← text_line_at-after p q (lines_to w) j long)
      (text_line_refusal-sample (p ++ q) (lines_to w + j) (λ e. omega arith))

  -- it is the sample's own before the last line of a window
  text_line_refusal-within : (j : ℕ) → j < window_length - 1 → text_line_refusal (p ++ q) (lines_to w + j) ≡ sample_refusal (text_line_at q j)
  text_line_refusal-within j h =
      text_line_refusal-after j ∙ rw (full_at-none (lines_to w + j) (λ e. omega arith)) (no-further (sample_refusal (text_line_at q j)))

  pub refusal_before-stays : (n : ℕ) → (refusal_before p (lines_to w) ≡ no_refusal → ⊥)
      → refusal_before (p ++ q) (lines_to w + n) ≡ refusal_before p (lines_to w)
  unfolding refusal_before
  refusal_before-stays n f =
      let front = refusal_before-front p q (lines_to w) (omega arith) in
      first_of-stays (text_line_refusal (p ++ q)) (lines_to w) n (λ e. f (sym front ∙ e)) ∙ front

  module _ (none : refusal_before p (lines_to w) ≡ no_refusal) where
    front-none : first_of (text_line_refusal (p ++ q)) (lines_to w) ≡ no_refusal
    unfolding refusal_before
    front-none = refusal_before-front p q (lines_to w) (omega arith) ∙ none

    -- after a whole window
    pub refusal_before-window : refusal_before (p ++ q) (lines_to w + window_length)
        ≡ cond (eqb (text_lines_refusal q window_length) no_refusal) (full_at (lines_to w + (window_length - 1))) (text_lines_refusal q window_length)
    unfolding refusal_before text_lines_refusal
    refusal_before-window =
        first_of-after-none (text_line_refusal (p ++ q)) (lines_to w) window_length front-none
        ∙ first_of-with-last
        (λ j. text_line_refusal (p ++ q) (lines_to w + j))
        (λ j. sample_refusal (text_line_at q j))
        (window_length - 1)
        (full_at (lines_to w + (window_length - 1)))
        (λ j h. text_line_refusal-within j h)
        (text_line_refusal-after (window_length - 1))

    -- after fewer bytes than a window's lines, which have n lines
    pub refusal_before-short : (n : ℕ) → n ≤ window_length → length q < window_bytes
        → refusal_before (p ++ q) (lines_to w + n) ≡ text_lines_refusal q n
    unfolding refusal_before text_lines_refusal
    refusal_before-short n h short =
        first_of-after-none (text_line_refusal (p ++ q)) (lines_to w) n front-none
        ∙ first_of-same (λ j. text_line_refusal (p ++ q) (lines_to w + j)) (λ j. sample_refusal (text_line_at q j)) n (λ j l. each j (ℕ_discrete j (window_length - 1)) l)
      where
        each : (j : ℕ) → Dec (j ≡ window_length - 1) → j < n → text_line_refusal (p ++ q) (lines_to w + j) ≡ sample_refusal (text_line_at q j)
        each j (yes e) l =
            let cut = sample_refusal-cut q j (rw e (omega arith)) in
            text_line_refusal-after j ∙ rw cut
        each j (no f) l = text_line_refusal-within j (omega arith)

-- the last line of a window is cut off where the block is shorter
pub short-lines : (block : List ℕ) (n : ℕ) → n ≤ window_length → length block < window_bytes
    → text_lines_refusal block n ≡ no_refusal → n < window_length
unfolding text_lines_refusal
short-lines block n h short none = by_count (ℕ_discrete n window_length)
  where
    by_count : Dec (n ≡ window_length) → n < window_length
    by_count (yes e) =
        let cut = sample_refusal-cut block (window_length - 1) (omega arith) in
        let last = first_of-none-at (λ j. sample_refusal (text_line_at block j)) n (window_length - 1) none (omega arith) in
        absurd (omega arith)
    by_count (no f) = omega arith

-- ---- each refusal is one of document 01's numbers

pub sample_refusal-le : (line : List ℕ) → sample_refusal line ≤ largest_refusal
unfolding sample_refusal
sample_refusal-le line = first_fault-le (sample_checks line) refl

pub text_lines_refusal-le : (block : List ℕ) (n : ℕ) → text_lines_refusal block n ≤ largest_refusal
unfolding text_lines_refusal
text_lines_refusal-le block n = first_of-le (λ j. sample_refusal (text_line_at block j)) largest_refusal n (λ j. sample_refusal-le (text_line_at block j))

text_line_refusal-le : (text : List ℕ) (i : ℕ) → text_line_refusal text i ≤ largest_refusal
unfolding text_line_refusal number_refusal
text_line_refusal-le text i = first_fault-le (number_checks (text_line_number (text_line_at text i)) i) refl

pub refusal_before-le : (text : List ℕ) (n : ℕ) → refusal_before text n ≤ largest_refusal
unfolding refusal_before
refusal_before-le text n = first_of-le (text_line_refusal text) largest_refusal n (text_line_refusal-le text)
