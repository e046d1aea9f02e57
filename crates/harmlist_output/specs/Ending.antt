-- What the call `finish` writes at the end of a reading, and what it answers.
use Rattle.std.specs.Prelude.{Bool, not, List, [], ◌∷◌, ◌++◌, ℕ, eqb, ltb, length, drop}
use Rattle.refusals.specs.Numbers.{no_refusal, unsound_record, no_window, largest_refusal}
use Rattle.refusals.specs.Answers.{first_fault, unless_refused}
use Rattle.listing.specs.Listing.{listing_text, listing_refusal}
use Rattle.listing.specs.RefusalLine.{refusal_line}
use Rattle.records.specs.Soundness.{sound_first}
use Rattle.recordings.specs.declared.Reading.{Reading}

-- The refusal at the end: that of the reading, or 10 where no window came. A reading that no call gave, whose refusal is none of document 01's or whose record is not sound, is 7.
abbrev pub finish_checks : Reading → List (Bool × ℕ)
finish_checks reading =
    (ltb largest_refusal reading.refusal, unsound_record) ∷
    (not (eqb reading.refusal no_refusal), reading.refusal) ∷
    sound_first reading.observation ((eqb reading.observation.windows 0, no_window) ∷ [])

unfoldable pub finish_refusal : Reading → ℕ
finish_refusal reading = first_fault (finish_checks reading)

-- what is written at the end: the listing, or only the refused line
unfoldable pub output_of : Reading → List ℕ
output_of reading =
    unless_refused (finish_refusal reading)
    (listing_text reading.group reading.subgroup reading.observation.smoothed)
    (refusal_line (finish_refusal reading))

-- what the buffer holds after that: "14 buffer shorter than 1,640 bytes", "bytes after them stay"
unfoldable pub output_exit : Reading → List ℕ → List ℕ
output_exit reading buffer =
    unless_refused (listing_refusal buffer) (output_of reading ++ drop (length (output_of reading)) buffer) buffer
