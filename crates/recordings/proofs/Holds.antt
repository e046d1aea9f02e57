-- The invariant of an input that is read in blocks, over a text of w whole windows: the reading's refusal is the first of the
-- text's lines, and a reading that goes on holds the record of the text's windows and the rows of its last.
use mathlib.Core.Bool.{true, false, true≢false}
use mathlib.Core.List.{List}
use mathlib.Core.Path.{◌≡◌, refl, sym, ◌∙◌}
use Prim.Native.Nat.{ℕ, ◌-◌, ◌*◌, ◌<◌}
use native.Mathlib.Omega.{arith}
use borrow.Author.Tests.{not-false}
use lib.IntN.{ℤ, pos, negsuc, nat_abs}
use lib.ListN.{length}
use Rattle.algebra.specs.Lists.{tabulate}
use Rattle.refusals.specs.Numbers.{no_refusal, unknown_system}
use Rattle.kinds.specs.declared.Kind.TheVariants.{HarmonicGroup, HarmonicSubgroup}
use Rattle.rows.specs.Systems.{is_system}
use Rattle.rows.specs.Editions.{is_edition}
use Rattle.rows.specs.Setups.{is_setup}
use Rattle.rows.specs.declared.Setup.{Setup}
use Rattle.rows.proofs.Setups.{is_setup-known}
use Rattle.records.specs.Soundness.{is_sound}
use Rattle.observation.specs.Calls.{empty_record}
use Rattle.observation.specs.RecordAfter.{record_after}
use Rattle.observation.proofs.SoundRecord.{empty-record-sound, fresh-of-known}
use Rattle.refusals.proofs.Answers.{no-faults}
use Rattle.recordings.specs.declared.Reading.{Reading}
use Rattle.recordings.specs.TextLines.{text_line_bytes, text_line_at, text_line_number, number_or0, number_at}
use Rattle.recordings.specs.InputRefusal.{no_system, number_checks, number_refusal, text_line_refusal, first_of, refusal_before}
use Rattle.recordings.specs.Windows.{system_in, setup_in, window_in, rows_in, record_in}
use Rattle.groups.specs.Group.{window_row}
use Rattle.recordings.specs.Blocks.{begin_of}
use Rattle.recordings.proofs.TextLines.{lines_to}

-- a reading that goes on after w windows of a text
pub record GoesOn (text : List ℕ) (w : ℕ) (reading : Reading) : Type 0 where
  pub setup-is : reading.observation.setup ≡ setup_in text
  pub windows-are : reading.observation.windows ≡ w
  pub sound : is_sound reading.observation ≡ true
  pub record_is : reading.observation ≡ record_in text w
  pub group-is : 0 < w → reading.group ≡ (window_row HarmonicGroup (setup_in text) (window_in text (w - 1))).values
  pub subgroup-is : 0 < w → reading.subgroup ≡ (window_row HarmonicSubgroup (setup_in text) (window_in text (w - 1))).values

pub record Holds (text : List ℕ) (w : ℕ) (reading : Reading) : Type 0 where
  pub long : length text ≡ text_line_bytes * lines_to w
  pub refusal_is : reading.refusal ≡ refusal_before text (lines_to w)
  pub goes_on : reading.refusal ≡ no_refusal → GoesOn text w reading

-- ---- its start, after the first line

known-system : (z : ℤ) → no_system z ≡ false → is_system (nat_abs z) ≡ true
unfolding no_system
known-system (pos n) e = not-false (is_system n) e
known-system (negsuc n) e = absurd (true≢false e)

setup-of-first : (line : List ℕ) → text_line_refusal line 0 ≡ no_refusal → is_setup (setup_in line) ≡ true
unfolding system_in text_line_refusal number_refusal number_at is_edition
setup-of-first line e =
    let number = text_line_number (text_line_at line 0) in
    is_setup-known (setup_in line) (known-system (number_or0 number) (no-faults (number_checks number 0) refl e unknown_system)) refl

empty_record-setup : (setup : Setup) → (empty_record setup).setup ≡ setup
unfolding empty_record
empty_record-setup setup = refl

empty_record-windows : (setup : Setup) → (empty_record setup).windows ≡ 0
unfolding empty_record
empty_record-windows setup = refl

pub begins : (line : List ℕ) → length line ≡ text_line_bytes → Holds line 0 (begin_of line)
unfolding begin_of refusal_before first_of record_in rows_in tabulate record_after
begins line e = record {
  long = omega arith;
  refusal_is = refl;
  goes_on = λ none.
      let known = setup-of-first line none in
      let fresh = fresh-of-known (setup_in line) known in
      let empty : (begin_of line).observation ≡ empty_record (setup_in line) = rw none in
      record {
        setup-is = rw none (empty_record-setup (setup_in line));
        windows-are = rw none (empty_record-windows (setup_in line));
        sound = rw empty (empty-record-sound (setup_in line) known);
        record_is = empty ∙ sym fresh;
        group-is = λ h. absurd (omega arith);
        subgroup-is = λ h. absurd (omega arith);
      };
}
