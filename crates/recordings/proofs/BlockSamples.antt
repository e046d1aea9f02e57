-- What is read of a block: the lines of one window at most, and the window's samples where none of them is refused.
use mathlib.Core.Bool.{false, cond}
use mathlib.Core.List.{List}
use mathlib.Core.Path.{◌≡◌, sym, ap, ◌∙◌}
use Prim.Native.Nat.{ℕ, min, ◌+◌, ◌-◌, ◌*◌, ◌≤◌, ◌<◌}
use native.Mathlib.Omega.{arith}
use borrow.Author.Tests.{ne_eqb, eq-eqb}
use lib.Dec.{ltb}
use lib.IntN.{ℤ}
use lib.ListN.{length, take, drop}
use lib.Seq.{take-take}
use Rattle.std.specs.List.{list_any}
use Rattle.std.proofs.lemmas.List.{take_min, drop-take}
use Rattle.algebra.specs.Lists.{tabulate}
use Rattle.algebra.proofs.Lists.{filled-tabulate}
use Rattle.refusals.specs.Numbers.{no_refusal, short_window}
use Rattle.windows.specs.Window.{window_length, out_of_range}
use Rattle.recordings.specs.TextLines.{text_line_bytes, text_line_count, text_line_at, number_at}
use Rattle.recordings.specs.Blocks.{window_bytes, sample_refusal, text_lines_refusal, block_lines, block_refusal, samples_of}
use Rattle.recordings.specs.Steps.{ReadInto}
use Rattle.recordings.proofs.FirstOf.{first_of-same}
use Rattle.recordings.proofs.TextLines.{tabulate-agree, number_at-same}
use Rattle.recordings.proofs.BlockLaws.{block_lines-whole, block_lines-le, block_refusal-none}
use Rattle.recordings.proofs.Samples.{samples_of-length, samples_of-in-range}

-- its first window's lines are those of the part that is cut off
line_of_cut : (block : List ℕ) (j : ℕ) → j < window_length → text_line_at (take window_bytes block) j ≡ text_line_at block j
unfolding text_line_at
line_of_cut block j inside =
    let start = text_line_bytes * j in
    let left = window_bytes - start in
    let parts : window_bytes ≡ start + left = omega arith in
    ap (λ (n : ℕ). take text_line_bytes (drop start (take n block))) parts
    ∙ ap (take text_line_bytes) (drop-take start left block)
    ∙ take-take text_line_bytes left (drop start block) (omega arith)

refusal_of_cut :
    (block : List ℕ) →
    text_lines_refusal (take window_bytes block) (text_line_count (take window_bytes block)) ≡ text_lines_refusal block (block_lines block)
unfolding text_lines_refusal block_lines
refusal_of_cut block =
    first_of-same _ _ (text_line_count (take window_bytes block))
    (λ j inside. ap sample_refusal (line_of_cut block j (omega (arith, block_lines-le block))))

samples_of_cut : (block : List ℕ) → tabulate window_length (number_at (take window_bytes block)) ≡ samples_of block
unfolding samples_of
samples_of_cut block =
    tabulate-agree window_length _ _ (λ j inside. number_at-same (take window_bytes block) block j j (line_of_cut block j inside))

-- the part that is cut off has at most a window's lines
pub few_lines : (block : List ℕ) (n : ℕ) → n ≡ min window_bytes (length block) → text_line_count (take n block) ≤ window_length
unfolding block_lines
few_lines block n cut = rw (cut, take_min) (block_lines-le block)

module _ (block : List ℕ) (n refusal : ℕ) (before after : List ℤ) (cut : n ≡ min window_bytes (length block))
    (read : ReadInto (take n block) before refusal after) where
  pub lines_read : refusal ≡ text_lines_refusal block (block_lines block)
  lines_read = rw (cut, take_min) at read.refusal_is ∙ refusal_of_cut block

  pub samples_read : refusal ≡ no_refusal → window_bytes ≤ length block → length before ≡ window_length → after ≡ samples_of block
  unfolding block_lines
  samples_read none whole long =
      let same = rw (cut, take_min) at (read.samples-are none) in
      rw (block_lines-whole block whole) at same ∙ filled-tabulate window_length _ before long ∙ samples_of_cut block

-- ---- the refusal of a block, by that of its lines

module _ (block : List ℕ) (first : ℕ) (is_first : first ≡ text_lines_refusal block (block_lines block)) where
  pub stops_at_line : (first ≡ no_refusal → ⊥) → first ≡ block_refusal block
  unfolding block_refusal
  stops_at_line other = let f = rw is_first at other in rw (ne_eqb (text_lines_refusal block (block_lines block)) no_refusal f) is_first

  pub goes_on : first ≡ no_refusal → cond (ltb (length block) window_bytes) short_window no_refusal ≡ block_refusal block
  unfolding block_refusal
  goes_on none = rw (eq-eqb (text_lines_refusal block (block_lines block)) no_refusal (sym is_first ∙ none))

-- a block that is not refused has a window of samples in range
pub samples_accepted :
    (block : List ℕ) → block_refusal block ≡ no_refusal →
    (length (samples_of block) ≡ window_length) × (list_any out_of_range (samples_of block) ≡ false)
samples_accepted block accepted =
    let passed = block_refusal-none block accepted in
    (samples_of-length block, samples_of-in-range block (rw (block_lines-whole block passed.1) at passed.0))
