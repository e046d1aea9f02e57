-- The lines of a text, cut at every ninth byte, and the samples that are read on them.
use mathlib.Core.Bool.{false}
use mathlib.Core.List.{List, ◌++◌}
use mathlib.Core.Path.{◌≡◌, refl, sym, ap, ◌∙◌}
use Prim.Native.Nat.{ℕ, min, ◌+◌, ◌*◌, ◌≤◌, ◌<◌}
use native.Mathlib.Decide.{dec_le}
use native.Mathlib.Omega.{arith}
use borrow.Author.Tests.{ltb-false}
use lib.IntN.{ℤ, pos, nat_abs}
use lib.ListN.{length, take, drop, length-append, length-drop}
use Rattle.std.specs.Prelude.{Ok, Err}
use Rattle.std.specs.List.{list_any}
use Rattle.std.proofs.lemmas.List.{take_min, take_at, drop_at, drop-drop, drop_all, nil_from_length}
use Rattle.algebra.specs.Lists.{tabulate}
use Rattle.algebra.proofs.Lists.{length-tabulate, get_or-tabulate, list_any-false}
use Rattle.refusals.specs.Numbers.{no_refusal, sample_out_of_range}
use Rattle.refusals.specs.Answers.{number_of}
use Rattle.refusals.specs.declared.Refusal.{Refusal}
use Rattle.refusals.proofs.Answers.{no-faults}
use Rattle.refusals.proofs.Results.{number_is_positive}
use Rattle.columns.specs.Calls.{NumberAnswer, number_answer_of}
use Rattle.windows.specs.Window.{window_length, largest_sample, out_of_range}
use Rattle.recordings.specs.TextLines.{text_line_bytes, text_line_count, text_line_at, text_line_number, number_or0, number_at}
use Rattle.recordings.specs.Blocks.{sample_checks, sample_refusal, text_lines_refusal, samples_of}
use Rattle.recordings.specs.Steps.{sample_on, ReadInto}
use Rattle.recordings.proofs.FirstOf.{first_of-next, first_of-found, first_of-none-at}

-- ---- the lines, one after the other

module _ (text left : List ℕ) (i : ℕ) (here : left ≡ drop (text_line_bytes * i) text) where
  -- the line begins in the text
  pub is_line : 0 < length left → i < text_line_count text
  unfolding text_line_count
  is_line some = omega (arith, length-drop (text_line_bytes * i) text, ap length here)

  -- after the last line
  pub no_line : length left ≡ 0 → text_line_bytes * i < length text + text_line_bytes → i ≡ text_line_count text
  unfolding text_line_count
  no_line none few = omega (arith, length-drop (text_line_bytes * i) text, ap length here)

-- the next piece of 9 bytes, or fewer at the end
module _ (text left line after : List ℕ) (size i : ℕ) (nine : size ≡ text_line_bytes) (here : left ≡ drop (text_line_bytes * i) text)
    (cut : left ≡ line ++ after) (long : length line ≡ min size (length left)) where
  pub line_is : line ≡ text_line_at text i
  unfolding text_line_at
  line_is =
      sym (take_at line after (length line) refl)
      ∙ ap (take (length line)) (sym cut)
      ∙ ap (λ (n : ℕ). take n left) long
      ∙ take_min size left
      ∙ rw (nine, here)

  pub left_is : after ≡ drop (text_line_bytes * (i + 1)) text
  left_is = by_length (dec_le text_line_bytes (length left))
    where
      by_length : Dec (text_line_bytes ≤ length left) → after ≡ drop (text_line_bytes * (i + 1)) text
      by_length (yes h) =
          let whole : length line ≡ text_line_bytes = omega (arith, long) in
          let next : text_line_bytes * (i + 1) ≡ text_line_bytes * i + text_line_bytes = omega arith in
          sym (drop_at line after text_line_bytes whole) ∙ ap (drop text_line_bytes) (sym cut ∙ here) ∙ rw (drop-drop, next)
      by_length (no f) =
          let none : length after ≡ 0 = omega (arith, long, length-append line after, ap length cut) in
          nil_from_length after none ∙ sym (drop_all (text_line_bytes * (i + 1)) text (omega (arith, length-drop (text_line_bytes * i) text, ap length here)))

-- ---- the sample on a line

sample_on-refusal : (line : List ℕ) → (sample_on line).refusal ≡ sample_refusal line
unfolding sample_on
sample_on-refusal line = refl

sample_on-value : (line : List ℕ) → sample_refusal line ≡ no_refusal → (sample_on line).value ≡ number_or0 (text_line_number line)
unfolding sample_on
sample_on-value line e = rw e

module _ (line : List ℕ) where
  refusal_read : (refusal : Refusal) → number_answer_of (Err refusal) ≡ sample_on line → sample_refusal line ≡ number_of refusal
  refusal_read refusal read = sym (ap (λ (n : NumberAnswer). n.refusal) read ∙ sample_on-refusal line)

  module _ (sample : ℤ) (read : number_answer_of (Ok sample) ≡ sample_on line) where
    none_read : sample_refusal line ≡ no_refusal
    none_read = sym (ap (λ (n : NumberAnswer). n.refusal) read ∙ sample_on-refusal line)

    sample_read : sample ≡ number_or0 (text_line_number line)
    sample_read = ap (λ (n : NumberAnswer). n.value) read ∙ sample_on-value line none_read

  -- a line that is not refused has a sample in range
  sample_refusal-in-range : sample_refusal line ≡ no_refusal → out_of_range (number_or0 (text_line_number line)) ≡ false
  unfolding sample_refusal
  sample_refusal-in-range e = no-faults (sample_checks line) refl e sample_out_of_range

pub sample-le : (z : ℤ) → out_of_range z ≡ false → nat_abs z ≤ largest_sample
unfolding out_of_range
sample-le z e = ltb-false largest_sample (nat_abs z) e

-- ---- the samples on all lines

module _ (text : List ℕ) where
  -- the first line that is refused
  pub stops_at :
      (i : ℕ) (before after : List ℤ) (refusal : Refusal) → i < text_line_count text → text_lines_refusal text i ≡ no_refusal →
      number_answer_of (Err refusal) ≡ sample_on (text_line_at text i) → ReadInto text before (number_of refusal) after
  unfolding text_lines_refusal
  stops_at i before after refusal inside none read =
      let positive = number_is_positive refusal in
      let here = refusal_read (text_line_at text i) refusal read in
      let other : sample_refusal (text_line_at text i) ≡ no_refusal → ⊥ = λ e. omega (arith, here, e) in
      record {
        refusal_is = sym (first_of-found (λ j. sample_refusal (text_line_at text j)) i (text_line_count text) none other inside ∙ here);
        samples-are = λ e. absurd (omega (arith, e));
      }

  pub sample_at : (i : ℕ) (sample : ℤ) → number_answer_of (Ok sample) ≡ sample_on (text_line_at text i) → sample ≡ number_at text i
  unfolding number_at
  sample_at i sample read = sample_read (text_line_at text i) sample read

  -- one line more
  pub accepted_more :
      (i : ℕ) (sample : ℤ) → text_lines_refusal text i ≡ no_refusal → number_answer_of (Ok sample) ≡ sample_on (text_line_at text i) →
      text_lines_refusal text (i + 1) ≡ no_refusal
  unfolding text_lines_refusal
  accepted_more i sample none read =
      first_of-next (λ j. sample_refusal (text_line_at text j)) i none ∙ none_read (text_line_at text i) sample read

pub samples_of-length : (block : List ℕ) → length (samples_of block) ≡ window_length
unfolding samples_of
samples_of-length block = length-tabulate window_length (number_at block)

-- the samples of a block that is not refused are in range
pub samples_of-in-range : (block : List ℕ) → text_lines_refusal block window_length ≡ no_refusal → list_any out_of_range (samples_of block) ≡ false
unfolding text_lines_refusal samples_of number_at
samples_of-in-range block e =
    list_any-false out_of_range (tabulate window_length (number_at block)) (pos 0)
    (λ i h.
    let inside : i < window_length = rw (length-tabulate window_length (number_at block)) at h in
    rw (get_or-tabulate window_length (number_at block) i (pos 0) inside)
    (sample_refusal-in-range (text_line_at block i) (first_of-none-at (λ j. sample_refusal (text_line_at block j)) window_length i e inside)))
