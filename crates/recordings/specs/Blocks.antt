-- What the calls answer that read an input a block at a time: `begin` takes the first line, `take_block` the lines of one window.
-- That they follow the definition of what harmlist writes is stated in specs/Follows.antt.
use Rattle.std.specs.Prelude.{Bool, cond, not, ◌||◌, List, [], ◌∷◌, ℕ, ◌*◌, eqb, ltb, ℤ, is_none, length, take, replicate}
use Rattle.algebra.specs.Lists.{tabulate}
use Rattle.refusals.specs.Numbers.{no_refusal, short_window, sample_out_of_range, not_a_column}
use Rattle.refusals.specs.Answers.{first_fault, unless_refused}
use Rattle.windows.specs.Window.{window_length, out_of_range}
use Rattle.kinds.specs.declared.Kind.TheVariants.{HarmonicGroup, HarmonicSubgroup}
use Rattle.rows.specs.Orders.{order_count}
use Rattle.observation.specs.Calls.{empty_record, refused_record, add_row_answer}
use Rattle.recordings.specs.declared.Reading.{Reading}
use Rattle.recordings.specs.TextLines.{text_line_bytes, text_line_count, text_line_at, text_line_number, number_or0, number_at}
use Rattle.recordings.specs.InputRefusal.{text_line_refusal, first_of}
use Rattle.recordings.specs.Windows.{setup_in}
use Rattle.groups.specs.Group.{window_row}

-- the bytes of a window's lines
abbrev pub window_bytes : ℕ
window_bytes = text_line_bytes * window_length

-- the reading after the first line: 13, 1, or a fresh record of its system under edition 2; "a refused fresh record: system 10, zeros"
unfoldable pub begin_of : List ℕ → Reading
begin_of line =
    record {
      refusal = text_line_refusal line 0;
      observation = unless_refused (text_line_refusal line 0) (empty_record (setup_in line)) refused_record;
      group = replicate order_count 0;
      subgroup = replicate order_count 0;
    }

-- the checks of a sample's line: 13, then 3
abbrev pub sample_checks : List ℕ → List (Bool × ℕ)
sample_checks line =
    (is_none (text_line_number line), not_a_column) ∷
    (out_of_range (number_or0 (text_line_number line)), sample_out_of_range) ∷
    []

unfoldable pub sample_refusal : List ℕ → ℕ
sample_refusal line = first_fault (sample_checks line)

-- the first refusal of the first n lines of a block, all of them samples
unfoldable pub text_lines_refusal : List ℕ → ℕ → ℕ
text_lines_refusal block n = first_of (λ j. sample_refusal (text_line_at block j)) n

-- how many lines of a block are looked at, a last one that is cut off among them: at most a window's
unfoldable pub block_lines : List ℕ → ℕ
block_lines block = text_line_count (take window_bytes block)

-- the checks of a block, after the refusal of its lines: 2 where the block is shorter than a window's lines
abbrev pub block_checks : ℕ → List ℕ → List (Bool × ℕ)
block_checks refusal block =
    (not (eqb refusal no_refusal), refusal) ∷
    (ltb (length block) window_bytes, short_window) ∷
    []

unfoldable pub block_refusal : List ℕ → ℕ
block_refusal block = first_fault (block_checks (text_lines_refusal block (block_lines block)) block)

-- the samples of a block that is not refused
unfoldable pub samples_of : List ℕ → List ℤ
samples_of block = tabulate window_length (number_at block)

-- a reading that is refused keeps all else
abbrev pub refused_with : ℕ → Reading → Reading
refused_with refusal reading =
    record {
      refusal = refusal;
      observation = reading.observation;
      group = reading.group;
      subgroup = reading.subgroup;
    }

-- a whole window that is not refused: its harmonic groups are added to the record, 9 where that holds 45,000 windows
unfoldable pub window_taken : Reading → List ℤ → Reading
window_taken reading window =
    let row = window_row HarmonicGroup reading.observation.setup window in
    let added = add_row_answer reading.observation row in
    record {
      refusal = added.refusal;
      observation = added.observation;
      group = row.values;
      subgroup = (window_row HarmonicSubgroup reading.observation.setup window).values;
    }

-- the reading after a block; a reading that is refused stays as it is, and so does any at an empty block
unfoldable pub block_of : Reading → List ℕ → Reading
block_of reading block =
    cond (not (eqb reading.refusal no_refusal) || eqb (length block) 0)
    reading
    (unless_refused (block_refusal block)
    (window_taken reading (samples_of block))
    (refused_with (block_refusal block) reading))
