-- The record that an input begins with, by the number on its first line.
use mathlib.Core.Bool.{false, cond}
use mathlib.Core.List.{List}
use mathlib.Core.Path.{◌≡◌, refl, ap}
use Prim.Native.Nat.{ℕ, min, ◌^◌, ◌≤◌, ◌<◌}
use native.Mathlib.Decide.{dec_lt}
use native.Mathlib.Omega.{arith}
use borrow.Author.Tests.{ne_eqb, lt-ltb, le-ltb}
use lib.IntN.{ℤ, pos, negsuc}
use lib.ListN.{length, take}
use Rattle.std.proofs.lemmas.List.{take_min}
use Rattle.std.specs.Prelude.{Option, None, Some, Ok, Err, is_none}
use Rattle.refusals.specs.Numbers.{no_refusal, not_a_column, unknown_system}
use Rattle.refusals.specs.Answers.{number_of}
use Rattle.refusals.specs.declared.Refusal.{Refusal}
use Rattle.refusals.proofs.Results.{number_is_positive}
use Rattle.columns.specs.Calls.{NumberAnswer, number_answer_of, reading_of}
use Rattle.rows.specs.Systems.{is_system}
use Rattle.rows.specs.Editions.{is_edition, edition2}
use Rattle.rows.specs.Setups.{setup_of}
use Rattle.observation.specs.Calls.{RecordAnswer, refused_record, record_answer_of, fresh_refusal, fresh_answer}
use Rattle.recordings.specs.TextLines.{text_line_bytes, text_line_at, text_line_number, number_or0, number_at}
use Rattle.recordings.specs.InputRefusal.{no_system, number_refusal, text_line_refusal}
use Rattle.recordings.specs.Windows.{system_in}
use Rattle.recordings.specs.Steps.{system_word, first_record}

-- a number that 32 bits do not hold is no system, and neither is the 0 that stands for it
no-large-system : (n : ℕ) → 2 ^ 32 ≤ n → is_system n ≡ false
unfolding is_system
no-large-system n h = rw (ne_eqb n 10 (λ e. omega arith), ne_eqb n 12 (λ e. omega arith))

zero-no-system : is_system 0 ≡ false
unfolding is_system
zero-no-system = refl

-- the refusal of the first line
pub text_line_refusal-first :
    (line : List ℕ) →
    text_line_refusal line 0
    ≡ cond (is_none (text_line_number (text_line_at line 0))) not_a_column (cond (no_system (number_at line 0)) unknown_system no_refusal)
unfolding text_line_refusal number_refusal number_at
text_line_refusal-first line = refl

-- the record that the code begins with, by the number that was read
abbrev begun : Option ℤ → RecordAnswer
begun None = record { refusal = not_a_column; observation = refused_record }
begun (Some z) = fresh_answer (setup_of (system_word z) edition2)

begun-is : (line : List ℕ) (o : Option ℤ) → text_line_number (text_line_at line 0) ≡ o → begun o ≡ first_record line
unfolding first_record text_line_refusal number_refusal system_word number_at number_or0 system_in no_system fresh_answer fresh_refusal is_edition
begun-is line None e = rw e
begun-is line (Some (pos n)) e = by_size (dec_lt n (2 ^ 32))
  where
    by_size : Dec (n < 2 ^ 32) → begun (Some (pos n)) ≡ first_record line
    by_size (yes h) = rw (e, lt-ltb n (2 ^ 32) h)
    by_size (no f) = rw (e, le-ltb n (2 ^ 32) (omega arith), no-large-system n (omega arith), zero-no-system)
begun-is line (Some (negsuc n)) e = rw (e, zero-no-system)

module _ (line : List ℕ) where
  pub first_record_refused :
      (refusal : Refusal) → number_answer_of (Err refusal) ≡ reading_of (text_line_number (text_line_at line 0)) →
      record_answer_of (Err refusal) ≡ first_record line
  first_record_refused refusal read = by-number (text_line_number (text_line_at line 0)) refl read
    where
      by-number :
          (o : Option ℤ) → text_line_number (text_line_at line 0) ≡ o → number_answer_of (Err refusal) ≡ reading_of o →
          record_answer_of (Err refusal) ≡ first_record line
      by-number None e read = rw (ap (λ (n : NumberAnswer). n.refusal) read) (begun-is line None e)
      by-number (Some z) e read =
          let positive = number_is_positive refusal in
          let accepted : number_of refusal ≡ no_refusal = ap (λ (n : NumberAnswer). n.refusal) read in
          absurd (omega arith)

  pub first_record_read :
      (z : ℤ) → number_answer_of (Ok z) ≡ reading_of (text_line_number (text_line_at line 0)) →
      fresh_answer (setup_of (system_word z) edition2) ≡ first_record line
  first_record_read z read = by-number (text_line_number (text_line_at line 0)) refl read
    where
      by-number :
          (o : Option ℤ) → text_line_number (text_line_at line 0) ≡ o → number_answer_of (Ok z) ≡ reading_of o →
          fresh_answer (setup_of (system_word z) edition2) ≡ first_record line
      by-number None e read = let other : no_refusal ≡ not_a_column = ap (λ (n : NumberAnswer). n.refusal) read in absurd (omega arith)
      by-number (Some y) e read =
          let same : z ≡ y = ap (λ (n : NumberAnswer). n.value) read in
          rw same (begun-is line (Some y) e)

-- the bytes that are looked at
pub first_line_is : (line : List ℕ) (n : ℕ) → n ≡ min text_line_bytes (length line) → take n line ≡ text_line_at line 0
unfolding text_line_at
first_line_is line n e = rw e (take_min text_line_bytes line)
