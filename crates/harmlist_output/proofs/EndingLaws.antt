-- The end of a reading: its refusal, what is written, and what the buffer holds then, a law for each way.
use mathlib.Core.Bool.{Bool, true, cond, not}
use mathlib.Core.List.{List, [], ◌∷◌, ◌++◌}
use mathlib.Core.Path.{◌≡◌, refl, ap, ◌∙◌}
use Prim.Native.Nat.{ℕ, ◌<◌, ◌≤◌}
use native.Mathlib.Decide.{dec_le, dec_lt}
use native.Mathlib.Omega.{arith}
use borrow.Author.Tests.{ne_eqb, lt-ltb, le-ltb}
use lib.Dec.{eqb, ltb}
use lib.ListN.{length, drop, length-append, length-drop}
use Rattle.std.specs.Prelude.{Result, Ok, Err, IsOk}
use Rattle.refusals.specs.Numbers.{no_refusal, unsound_record, no_window, wrong_buffer_length, largest_refusal}
use Rattle.refusals.specs.Answers.{Answer, number_of, first_fault, answer, answer_of}
use Rattle.refusals.specs.declared.Refusal.{Refusal}
use Rattle.refusals.proofs.Answers.{no-fault}
use Rattle.refusals.proofs.Results.{number_is_positive}
use Rattle.listing.specs.Listing.{listing_text, listing_room, listing_refusal}
use Rattle.listing.specs.RefusalLine.{refusal_line}
use Rattle.records.specs.Soundness.{is_sound, sound_first}
use Rattle.records.proofs.SoundFirst.{sound_first-none}
use Rattle.recordings.specs.declared.Reading.{Reading}
use Rattle.harmlist_output.specs.Ending.{finish_refusal, output_of, output_exit}
use Rattle.recordings.proofs.FirstOf.{no-earlier, cond-le}

module _ (reading : Reading) where
  pub finish_refusal-unknown : largest_refusal < reading.refusal → finish_refusal reading ≡ unsound_record
  unfolding finish_refusal
  finish_refusal-unknown h = rw (lt-ltb largest_refusal reading.refusal h)

  pub finish_refusal-refused : reading.refusal ≤ largest_refusal → (reading.refusal ≡ no_refusal → ⊥)
      → finish_refusal reading ≡ reading.refusal
  unfolding finish_refusal
  finish_refusal-refused h f = rw (le-ltb largest_refusal reading.refusal h, ne_eqb reading.refusal no_refusal f)

  -- in figures: document 01's numbers end at 14
  finish_refusal-figures : (reading.refusal ≡ 14 → finish_refusal reading ≡ 14) × (reading.refusal ≡ 15 → finish_refusal reading ≡ 7)
  unfolding finish_refusal
  finish_refusal-figures = (λ e. rw e, λ e. rw e)

  pub finish_refusal-no-window : reading.refusal ≡ no_refusal → is_sound reading.observation ≡ true
      → reading.observation.windows ≡ 0 → finish_refusal reading ≡ no_window
  unfolding finish_refusal
  finish_refusal-no-window e s z = rw (e, s, z)

  pub finish_refusal-accepted : reading.refusal ≡ no_refusal → is_sound reading.observation ≡ true
      → (reading.observation.windows ≡ 0 → ⊥) → finish_refusal reading ≡ no_refusal
  unfolding finish_refusal
  finish_refusal-accepted e s f = rw (e, s, ne_eqb reading.observation.windows 0 f)

  -- it is one of document 01's numbers
  pub finish_refusal_le : finish_refusal reading ≤ largest_refusal
  unfolding finish_refusal
  finish_refusal_le = by_size (dec_le reading.refusal largest_refusal)
    where
      by_size : Dec (reading.refusal ≤ largest_refusal) → finish_refusal reading ≤ largest_refusal
      by_size (yes h) =
          let none = eqb reading.observation.windows 0 in
          let unsound = not (is_sound reading.observation) in
          let ended = not (eqb reading.refusal no_refusal) in
          cond-le (ltb largest_refusal reading.refusal) unsound_record _ largest_refusal (omega arith)
          (cond-le ended reading.refusal _ largest_refusal h
          (cond-le unsound unsound_record _ largest_refusal (omega arith)
          (cond-le none no_window no_refusal largest_refusal (omega arith) (omega arith))))
      by_size (no f) = rw (finish_refusal-unknown (omega arith)) (omega arith)

  -- a listing is written of a sound record only
  pub finish_refusal_sound : finish_refusal reading ≡ no_refusal → is_sound reading.observation ≡ true
  unfolding finish_refusal
  finish_refusal_sound e =
      let none : List (Bool × ℕ) = (eqb reading.observation.windows 0, no_window) ∷ [] in
      let of-record = first_fault (sound_first reading.observation none) in
      let ended = cond (not (eqb reading.refusal no_refusal)) reading.refusal of-record in
      let passed = (no-fault (ltb largest_refusal reading.refusal) unsound_record ended (omega arith) e).1 in
      (sound_first-none reading.observation none (no-earlier reading.refusal of-record passed).1).0

  pub output_of-refused : (refusal : ℕ) → finish_refusal reading ≡ refusal → (refusal ≡ no_refusal → ⊥)
      → output_of reading ≡ refusal_line refusal
  unfolding output_of
  output_of-refused refusal e f = rw (e, ne_eqb refusal no_refusal f)

  pub output_of-accepted : finish_refusal reading ≡ no_refusal
      → output_of reading ≡ listing_text reading.group reading.subgroup reading.observation.smoothed
  unfolding output_of
  output_of-accepted e = rw e

-- nothing refuses what is written to a buffer that is long enough
pub written_ok :
    (buffer : List ℕ) (count : ℕ) (result : Result ℕ Refusal) → listing_room ≤ length buffer →
    answer_of result ≡ answer (listing_refusal buffer) count → IsOk result
unfolding listing_refusal
written_ok buffer count (Ok bytes) room e = refl
written_ok buffer count (Err refusal) room e =
    let accepted : number_of refusal ≡ no_refusal = ap (λ (a : Answer). a.refusal) (rw (le-ltb (length buffer) listing_room room) at e) in
    absurd (omega (arith, number_is_positive refusal))

-- the bytes that are written lie in the buffer
pub written_count_le :
    (reading : Reading) (buffer after : List ℕ) (count : ℕ) → answer_of (Ok count) ≡ answer (listing_refusal buffer) (length (output_of reading)) →
    after ≡ output_exit reading buffer → length after ≡ length buffer → count ≤ length buffer
unfolding listing_refusal output_exit
written_count_le reading buffer after count e holds kept = by-room (dec_lt (length buffer) listing_room)
  where
    by-room : Dec (length buffer < listing_room) → count ≤ length buffer
    by-room (yes h) =
        let short = lt-ltb (length buffer) listing_room h in
        let refused : no_refusal ≡ wrong_buffer_length = ap (λ (a : Answer). a.refusal) (rw short at e) in
        absurd (omega arith)
    by-room (no f) =
        let room = le-ltb (length buffer) listing_room (omega arith) in
        let text = output_of reading in
        let bytes : count ≡ length text = ap (λ (a : Answer). a.value) (rw room at e) in
        let front : after ≡ text ++ drop (length text) buffer = holds ∙ rw room in
        omega (arith, bytes, simp (length-append, length-drop) at (ap length front), kept)
