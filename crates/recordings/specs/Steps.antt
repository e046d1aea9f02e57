-- What the private functions of the reading are asked. No public contract cites it.
use Rattle.std.specs.Prelude.{cond, List, ◌++◌, ◌≡◌, ℕ, ◌^◌, ltb, ℤ, pos, negsuc, drop}
use Rattle.algebra.specs.Lists.{tabulate}
use Rattle.refusals.specs.Numbers.{no_refusal}
use Rattle.refusals.specs.Answers.{unless_refused}
use Rattle.columns.specs.Calls.{NumberAnswer}
use Rattle.kinds.specs.declared.Kind.TheVariants.{HarmonicGroup, HarmonicSubgroup}
use Rattle.groups.specs.Group.{group_values}
use Rattle.observation.specs.Calls.{RecordAnswer, empty_record, refused_record, add_row_answer}
use Rattle.recordings.specs.declared.Reading.{Reading}
use Rattle.recordings.specs.TextLines.{text_line_count, text_line_number, number_or0, number_at}
use Rattle.recordings.specs.InputRefusal.{text_line_refusal}
use Rattle.recordings.specs.Windows.{setup_in}
use Rattle.recordings.specs.Blocks.{sample_refusal, text_lines_refusal}

-- the sample on a line, or the line's refusal
unfoldable pub sample_on : List ℕ → NumberAnswer
sample_on line =
    record {
      refusal = sample_refusal line;
      value = unless_refused (sample_refusal line) (number_or0 (text_line_number line)) (pos 0);
    }

-- the samples on the lines of a text are read to the front of a list: the answer is their first refusal, and where there is none the list has them
pub record ReadInto (text : List ℕ) (before : List ℤ) (refusal : ℕ) (after : List ℤ) : Type 0 where
  pub refusal_is : refusal ≡ text_lines_refusal text (text_line_count text)
  pub samples-are : refusal ≡ no_refusal → after ≡ tabulate (text_line_count text) (number_at text) ++ drop (text_line_count text) before

-- the number of the system line as a system: 0, which is none, where 32 bits do not hold it
unfoldable pub system_word : ℤ → ℕ
system_word (pos n) = cond (ltb n (2 ^ 32)) n 0
system_word (negsuc n) = 0

-- the record that an input begins with, by its first line
unfoldable pub first_record : List ℕ → RecordAnswer
first_record line =
    record {
      refusal = text_line_refusal line 0;
      observation = unless_refused (text_line_refusal line 0) (empty_record (setup_in line)) refused_record;
    }

-- the reading with one more window, by its spectral lines: its harmonic groups are added to the record
unfoldable pub lines_taken : Reading → List ℕ → Reading
lines_taken reading lines =
    let setup = reading.observation.setup in
    let values = group_values HarmonicGroup setup lines in
    let added = add_row_answer reading.observation (record { setup = setup; values = values }) in
    record {
      refusal = added.refusal;
      observation = added.observation;
      group = values;
      subgroup = group_values HarmonicSubgroup setup lines;
    }
