-- What a block gives a reading, a law for each way: the reading is refused, the block is empty, a line is refused, the block is short, the block is a whole window.
use mathlib.Core.List.{List}
use mathlib.Core.Path.{◌≡◌, refl}
use Prim.Native.Nat.{ℕ, ◌+◌, ◌/◌, ◌≤◌, ◌<◌}
use native.Mathlib.Decide.{dec_le}
use native.Mathlib.Omega.{arith}
use borrow.Author.Tests.{eq-eqb, ne_eqb, lt-ltb, le-ltb, ltb-false}
use lib.IntN.{ℤ}
use lib.ListN.{length}
use lib.Seq.{length-take-le, take_all}
use Rattle.refusals.specs.Numbers.{no_refusal, short_window}
use Rattle.columns.specs.Calls.{column_width}
use Rattle.windows.specs.Window.{window_length}
use Rattle.refusals.proofs.Answers.{no-fault}
use Rattle.recordings.specs.declared.Reading.{Reading}
use Rattle.recordings.specs.TextLines.{text_line_bytes, text_line_count}
use Rattle.recordings.specs.Blocks.{window_bytes, text_lines_refusal, block_lines, block_refusal, samples_of, refused_with, window_taken, block_of}
use Rattle.spectral_lines.specs.Line.{lines_of}
use Rattle.groups.specs.Group.{window_row}
use Rattle.recordings.specs.Steps.{lines_taken}
use Rattle.recordings.proofs.FirstOf.{no-earlier}

pub block_lines-whole : (block : List ℕ) → window_bytes ≤ length block → block_lines block ≡ window_length
unfolding block_lines text_line_count
block_lines-whole block h = rw (length-take-le window_bytes block h)

pub block_lines-short : (block : List ℕ) → length block < window_bytes → block_lines block ≡ (length block + column_width) / text_line_bytes
unfolding block_lines text_line_count
block_lines-short block h = rw (take_all window_bytes block (omega arith))

-- a window has no more
pub block_lines-le : (block : List ℕ) → block_lines block ≤ window_length
block_lines-le block = by_length (dec_le window_bytes (length block))
  where
    by_length : Dec (window_bytes ≤ length block) → block_lines block ≤ window_length
    by_length (yes h) = rw (block_lines-whole block h) (omega arith)
    by_length (no f) = let h : length block < window_bytes = omega arith in rw (block_lines-short block h) (omega arith)

-- a block that is not refused is a whole window, and none of its lines is refused
pub block_refusal-none : (block : List ℕ) → block_refusal block ≡ no_refusal
    → (text_lines_refusal block (block_lines block) ≡ no_refusal) × (window_bytes ≤ length block)
unfolding block_refusal
block_refusal-none block e =
    let passed = no-earlier (text_lines_refusal block (block_lines block)) _ e in
    (passed.0, ltb-false (length block) window_bytes (no-fault _ short_window no_refusal (omega arith) passed.1).0)

module _ (reading : Reading) (block : List ℕ) where
  pub block_of-refused : (reading.refusal ≡ no_refusal → ⊥) → block_of reading block ≡ reading
  unfolding block_of
  block_of-refused f = rw (ne_eqb reading.refusal no_refusal f)

  module _ (goes_on : reading.refusal ≡ no_refusal) where
    pub block_of-empty : length block ≡ 0 → block_of reading block ≡ reading
    unfolding block_of
    block_of-empty e = rw (eq-eqb reading.refusal no_refusal goes_on, eq-eqb (length block) 0 e)

    module _ (some : length block ≡ 0 → ⊥) where
      pub block_of-text-line : (text_lines_refusal block (block_lines block) ≡ no_refusal → ⊥)
          → block_of reading block ≡ refused_with (text_lines_refusal block (block_lines block)) reading
      unfolding block_of block_refusal
      block_of-text-line f =
          let first = text_lines_refusal block (block_lines block) in
          rw (eq-eqb reading.refusal no_refusal goes_on, ne_eqb (length block) 0 some, ne_eqb first no_refusal f, ne_eqb first no_refusal f)

      module _ (none : text_lines_refusal block (block_lines block) ≡ no_refusal) where
        pub block_of-short : length block < window_bytes → block_of reading block ≡ refused_with short_window reading
        unfolding block_of block_refusal
        block_of-short h =
            let first = text_lines_refusal block (block_lines block) in
            rw (eq-eqb reading.refusal no_refusal goes_on, ne_eqb (length block) 0 some, eq-eqb first no_refusal none, lt-ltb (length block) window_bytes h)

        pub block_of-whole : window_bytes ≤ length block → block_of reading block ≡ window_taken reading (samples_of block)
        unfolding block_of block_refusal
        block_of-whole h =
            let first = text_lines_refusal block (block_lines block) in
            rw (eq-eqb reading.refusal no_refusal goes_on, ne_eqb (length block) 0 some, eq-eqb first no_refusal none, le-ltb (length block) window_bytes h)

-- a window by its samples, and by their spectral lines
pub lines_taken_is : (reading : Reading) (window : List ℤ) → lines_taken reading (lines_of window) ≡ window_taken reading window
unfolding lines_taken window_taken window_row
lines_taken_is reading window = refl
