-- What an accepted call says, and that a record stays sound: the empty record is, and a call and so a list of calls leaves a sound record sound.
-- A record's lists may have any length here: past its end a list holds zeros.
use mathlib.Core.Path.{◌≡◌, refl}
use mathlib.Core.Bool.{Bool, true, false, cond}
use mathlib.Core.List.{List, [], ◌∷◌}
use Prim.Native.Nat.{ℕ, ◌+◌, ◌*◌, ◌<◌, ◌≤◌}
use native.Mathlib.Nat.{max-le}
use native.Mathlib.Omega.{arith}
use borrow.Author.Tests.{eqb-true, ne_eqb, leb-false, le-leb, not-false}
use lib.Dec.{leb}
use lib.ListN.{get_or}
use Rattle.rows.specs.Setups.{is_setup}
use Rattle.rows.specs.declared.Setup.{Setup}
use Rattle.rows.proofs.Setups.{setup-parts, is_setup-known, same_setup-eq, same_setup-self}
use Rattle.rows.specs.Orders.{order_count}
use Rattle.refusals.specs.Numbers.{no_refusal, unknown_system, unknown_edition, other_setup, record_full}
use Rattle.refusals.specs.Answers.{first_fault}
use Rattle.refusals.proofs.Answers.{no-faults, unless_refused-accepted}
use Rattle.rows.specs.declared.Row.{Row}
use Rattle.records.specs.declared.Observation.{Observation}
use Rattle.books.specs.Book.{book_step, smoothed_next}
use Rattle.books.specs.Smoothing.{reported}
use Rattle.records.specs.Soundness.{most_windows, none_above, all_zero, is_sound}
use Rattle.rows.specs.Rows.{largest_value, ValuesFit}
use Rattle.observation.specs.Calls.{empty_record, fresh_refusal, fresh_answer, book_at, next_book, with_row, row_checks, add_row_refusal, add_row_answer}
use Rattle.observation.specs.RecordAfter.{record_after}
use Rattle.observation.specs.BookCalls.{accepts, accepted_calls, AcceptedFit}
use Rattle.records.proofs.NoneAbove.{none-above-tabulate}
use Rattle.records.proofs.SoundFirst.{sound_first-none}
use Rattle.books.proofs.Smoothed.{smoothed-next-le}
use Rattle.records.proofs.SoundParts.{sound-parts}
use Rattle.records.proofs.ZerosToCome.{zeros-with_latest}

pub empty-record-sound : (setup : Setup) → is_setup setup ≡ true → is_sound (empty_record setup) ≡ true
unfolding is_sound none_above all_zero empty_record
empty-record-sound setup e = rw e

pub fresh-of-known : (setup : Setup) → is_setup setup ≡ true → (fresh_answer setup).observation ≡ empty_record setup
unfolding fresh_answer fresh_refusal
fresh-of-known setup e =
    let known = setup-parts setup e in
    rw (known.system-known, known.edition-known)

-- a row that a book with this setup and count accepts
pub record AcceptedRow (setup : Setup) (count : ℕ) (row : Row) : Type 0 where
  pub setup-known : is_setup row.setup ≡ true
  pub setup-own : row.setup ≡ setup
  pub room : count < most_windows

pub accepted-row :
    (setup : Setup) (count : ℕ) (row : Row) → first_fault (row_checks setup count row.setup) ≡ no_refusal → AcceptedRow setup count row
unfolding row_checks
accepted-row setup count row e =
    let passed = no-faults (row_checks setup count row.setup) refl e in
    record {
      setup-known = is_setup-known _ (not-false _ (passed unknown_system)) (not-false _ (passed unknown_edition));
      setup-own = same_setup-eq _ _ (not-false _ (passed other_setup));
      room = leb-false _ _ (passed record_full);
    }

-- the same of the book's test
pub accepts-row : (setup : Setup) (count : ℕ) (row : Row) → accepts setup count row ≡ true → AcceptedRow setup count row
unfolding accepts
accepts-row setup count row e = accepted-row setup count row (eqb-true _ _ e)

-- a call that is not refused: its record is sound, and accepts the row
pub record AcceptedCall (o : Observation) (row : Row) : Type 0 where
  pub sound : is_sound o ≡ true
  pub row-accepted : AcceptedRow o.setup o.windows row

pub accepted-call : (o : Observation) (row : Row) → add_row_refusal o row ≡ no_refusal → AcceptedCall o row
unfolding add_row_refusal
accepted-call o row e =
    let passed = sound_first-none o (row_checks o.setup o.windows row.setup) e in
    record { sound = passed.0; row-accepted = accepted-row o.setup o.windows row passed.1 }

pub with-row-sound :
    (o : Observation) (row : Row) → is_sound o ≡ true → o.windows < most_windows → ValuesFit row →
    is_sound (with_row o row) ≡ true
unfolding is_sound with_row next_book book_at book_step ValuesFit
with-row-sound o row sound room fits =
    let parts = sound-parts o sound in
    let next : (i : ℕ) → smoothed_next reported (book_at o i) (get_or row.values i 0) ≤ largest_value =
    λ i. smoothed-next-le largest_value (book_at o i) _ (fits i) (parts.smoothed-le i) in
    rw (
      parts.setup-known,
      le-leb (o.windows + 1) most_windows (omega arith),
      none-above-tabulate ((o.windows + 1) * largest_value) order_count (λ i. (next_book o row i).sum)
          (λ i l. omega (arith, next i, parts.sum-le i)),
      none-above-tabulate largest_value order_count (λ i. (next_book o row i).peak)
          (λ i l. max-le (parts.peak-le i) (next i)),
      none-above-tabulate largest_value order_count (λ i. (next_book o row i).smoothed) (λ i l. next i),
      ne_eqb (o.windows + 1) 0 (λ e. omega arith),
      zeros-with_latest o.windows row.values o.latest parts.zeros-to-come,
    )

-- a sound record is refused a row by the row's own checks alone
add_row_answer-sound :
    (o : Observation) (row : Row) → is_sound o ≡ true →
    (add_row_answer o row).observation ≡ cond (accepts o.setup o.windows row) (with_row o row) o
unfolding add_row_answer add_row_refusal accepts
add_row_answer-sound o row sound = rw sound

-- and a row of its own setup only where it is full
pub add_row_refusal-own :
    (o : Observation) (row : Row) → is_sound o ≡ true → row.setup ≡ o.setup →
    add_row_refusal o row ≡ cond (leb most_windows o.windows) record_full no_refusal
unfolding add_row_refusal row_checks
add_row_refusal-own o row sound own =
    let known = setup-parts o.setup (sound-parts o sound).setup-known in
    rw (sound, own, known.system-known, known.edition-known, same_setup-self o.setup)

-- the record that an accepted call returns, and the one that a refused call returns
pub add_row_answer-accepted : (o : Observation) (row : Row) → add_row_refusal o row ≡ no_refusal → (add_row_answer o row).observation ≡ with_row o row
unfolding add_row_answer
add_row_answer-accepted o row e = unless_refused-accepted _ _ _ e

-- a call feeds the books of a sound record, or changes nothing where they do not accept the row
pub by-acceptance :
    (P : Observation → Type 0) (o : Observation) (row : Row) → is_sound o ≡ true →
    (accepts o.setup o.windows row ≡ true → P (with_row o row)) →
    (accepts o.setup o.windows row ≡ false → P o) →
    P (add_row_answer o row).observation
by-acceptance P o row sound taken left =
    rw (add_row_answer-sound o row sound) (either (accepts o.setup o.windows row) taken left)
  where
    either : (accepted : Bool) → (accepted ≡ true → P (with_row o row)) → (accepted ≡ false → P o) → P (cond accepted (with_row o row) o)
    either true a b = a refl
    either false a b = b refl

-- a call leaves a sound record sound, and leaves the later rows what they were to the record
pub answer-sound :
    (o : Observation) (row : Row) (rows : List Row) → is_sound o ≡ true → AcceptedFit o.setup o.windows (row ∷ rows) →
    let after = (add_row_answer o row).observation in
    (is_sound after ≡ true) × AcceptedFit after.setup after.windows rows
unfolding accepted_calls with_row
answer-sound o row rows sound fits =
    by-acceptance (λ after. (is_sound after ≡ true) × AcceptedFit after.setup after.windows rows) o row sound
    (λ e.
    let both : ValuesFit row × AcceptedFit o.setup (o.windows + 1) rows = rw e at fits in
    (with-row-sound o row sound (accepts-row o.setup o.windows row e).room both.0, both.1))
    (λ e. (sound, rw e at fits))

-- so the record after a list of calls is sound
pub record-after-sound :
    (o : Observation) (rows : List Row) → is_sound o ≡ true → AcceptedFit o.setup o.windows rows → is_sound (record_after o rows) ≡ true
unfolding record_after
record-after-sound o [] sound fits = sound
record-after-sound o (row ∷ rows) sound fits =
    let next = answer-sound o row rows sound fits in
    record-after-sound (add_row_answer o row).observation rows next.0 next.1

pub fresh-record-after-sound :
    (setup : Setup) (rows : List Row) → is_setup setup ≡ true → AcceptedFit setup 0 rows → is_sound (record_after (fresh_answer setup).observation rows) ≡ true
unfolding empty_record
fresh-record-after-sound setup rows known fits =
    rw (fresh-of-known setup known) (record-after-sound (empty_record setup) rows (empty-record-sound setup known) fits)
