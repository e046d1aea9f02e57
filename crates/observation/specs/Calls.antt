-- What the calls `fresh_record` and `add_row` answer (document 01, "The observation record" and the refusal table's rows of these names; document 02,
-- card 7, for the edition, and card 8, for the latest rows).
use Rattle.std.specs.Prelude.{Bool, not, List, [], ◌∷◌, ◌++◌, ℕ, ◌+◌, leb, get_or, replicate, Result, Ok, Err}
use Rattle.algebra.specs.Lists.{tabulate}
use Rattle.rows.specs.Orders.{order_count}
use Rattle.rows.specs.Setups.{setup_checks, same_setup, refused_setup}
use Rattle.rows.specs.declared.Setup.{Setup}
use Rattle.refusals.specs.Numbers.{no_refusal, other_setup, record_full}
use Rattle.refusals.specs.Answers.{number_of, first_fault, unless_refused}
use Rattle.refusals.specs.declared.Refusal.{Refusal}
use Rattle.rows.specs.declared.Row.{Row}
use Rattle.records.specs.declared.Observation.{Observation}
use Rattle.observation.specs.declared.RowRefused.{RowRefused}
use Rattle.books.specs.Book.{Book, book_step}
use Rattle.books.specs.Smoothing.{reported}
use Rattle.latest_rows.specs.Latest.{values_kept, with_latest}
use Rattle.records.specs.Soundness.{most_windows, sound_first}

-- what document 01 has a call for a record answer: a refusal's number, or that of none, and a record
pub record RecordAnswer : Type 0 where
  pub refusal : ℕ
  pub observation : Observation

-- a record of a setup with zeros
unfoldable pub empty_record : Setup → Observation
empty_record setup =
    record {
      setup = setup;
      windows = 0;
      smoothed = replicate order_count 0;
      sum = replicate order_count 0;
      peak = replicate order_count 0;
      latest = replicate values_kept 0;
    }

-- a refused fresh record: system 10, edition 2, zeros
abbrev pub refused_record : Observation
refused_record = empty_record refused_setup

-- what a result of the code answers: the record, or the refusal's number with the refused record
abbrev pub record_answer_of : Result Observation Refusal → RecordAnswer
record_answer_of (Ok o) = record { refusal = no_refusal; observation = o }
record_answer_of (Err refusal) = record { refusal = number_of refusal; observation = refused_record }

-- the same where the refusal hands the record back
abbrev pub added_answer_of : Result Observation RowRefused → RecordAnswer
added_answer_of (Ok o) = record { refusal = no_refusal; observation = o }
added_answer_of (Err refused) = record { refusal = number_of refused.refusal; observation = refused.observation }

-- 1 system not 10 or 12; 19 edition not 0 or 1
abbrev pub fresh_checks : Setup → List (Bool × ℕ)
fresh_checks setup = setup_checks setup

unfoldable pub fresh_refusal : Setup → ℕ
fresh_refusal setup = first_fault (fresh_checks setup)

unfoldable pub fresh_answer : Setup → RecordAnswer
fresh_answer setup =
    record {
      refusal = fresh_refusal setup;
      observation = unless_refused (fresh_refusal setup) (empty_record setup) refused_record;
    }

-- the reported book of the order at a place of the record
unfoldable pub book_at : Observation → ℕ → Book reported
book_at o i =
    record {
      count = o.windows;
      smoothed = get_or o.smoothed i 0;
      sum = get_or o.sum i 0;
      peak = get_or o.peak i 0;
    }

-- that book with the row's value added
unfoldable pub next_book : Observation → Row → ℕ → Book reported
next_book o row i = book_step reported (book_at o i) (get_or row.values i 0)

-- the record with a row added: each order's book takes its step, and the row is the latest of those kept
unfoldable pub with_row : Observation → Row → Observation
with_row o row =
    record {
      setup = o.setup;
      windows = o.windows + 1;
      smoothed = tabulate order_count (λ i. (next_book o row i).smoothed);
      sum = tabulate order_count (λ i. (next_book o row i).sum);
      peak = tabulate order_count (λ i. (next_book o row i).peak);
      latest = with_latest o.windows row.values o.latest;
    }

-- what a book with its own setup and count turns away, by the row's setup: 1 the row's system not 10 or 12; 19
-- its edition not 0 or 1; 8 one of the two differs from the record's; 9 45,000 windows held
unfoldable pub row_checks : Setup → ℕ → Setup → List (Bool × ℕ)
row_checks own count setup =
    setup_checks setup ++
    (not (same_setup setup own), other_setup) ∷
    (leb most_windows count, record_full) ∷
    []

-- 7 record not sound comes before these
abbrev pub add_row_checks : Observation → Row → List (Bool × ℕ)
add_row_checks o row = sound_first o (row_checks o.setup o.windows row.setup)

unfoldable pub add_row_refusal : Observation → Row → ℕ
add_row_refusal o row = first_fault (add_row_checks o row)

-- a refusal returns the record unchanged
unfoldable pub add_row_answer : Observation → Row → RecordAnswer
add_row_answer o row =
    record {
      refusal = add_row_refusal o row;
      observation = unless_refused (add_row_refusal o row) (with_row o row) o;
    }
