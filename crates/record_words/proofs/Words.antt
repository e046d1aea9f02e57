-- A record and its words determine each other, and the record that is read of some words is the one that they hold, or neither is sound.
use mathlib.Core.Path.{◌≡◌, refl, sym, ap, ◌∙◌}
use mathlib.Core.Bool.{Bool, true, false}
use mathlib.Core.List.{List, [], ◌∷◌, ◌++◌, map, append_assoc, append-nil}
use Prim.Native.Nat.{ℕ, min, ◌+◌, ◌<◌}
use native.Mathlib.Nat.{le_of_eq}
use native.Mathlib.Omega.{arith}
use lib.ListN.{length, get_or, get_or-append}
use lib.Seq.{take_all, get_or-append-add}
use borrow.Author.Tests.{eq-eqb}
use Rattle.algebra.specs.Lists.{tabulate, joined}
use Rattle.rows.specs.Rows.{largest_value}
use Rattle.rows.proofs.Systems.{system-bounds}
use Rattle.rows.proofs.Editions.{edition-le}
use Rattle.rows.proofs.Setups.{setup-parts}
use Rattle.records.specs.declared.Observation.{Observation}
use Rattle.latest_rows.specs.Latest.{values_kept}
use Rattle.records.specs.Soundness.{is_sound}
use Rattle.records.proofs.SoundParts.{sound-parts}
use Rattle.lists.specs.LentWords.{words_from}
use Rattle.lists.proofs.LentWords.{words_from-length}
use Rattle.record_words.specs.Parts.{parts_from, total}
use Rattle.record_words.specs.Halves.{packed}
use Rattle.record_words.specs.Words.{latest_words, record_parts, record_words, smoothed_place, latest_place, parts_of, of_parts, words_of, record_of, record_read, Whole, words_with}
use Rattle.record_words.proofs.Halves.{unpacked-length, packed-unpacked, unpacked-packed}
use Rattle.record_words.proofs.Parts.{joined_length, parts_from-joined, joined-parts_from}

-- a part of one word
one_word : (place : ℕ) (words : List ℕ) → get_or (words_from place 1 words) 0 0 ∷ [] ≡ words_from place 1 words
unfolding words_from tabulate
one_word place words = refl

-- the parts of the record that some words hold are the parts of these words
parts-of-record : (words : List ℕ) → parts_of (record_of words) ≡ parts_from 0 record_parts words
unfolding record_of of_parts parts_of parts_from
parts-of-record words =
    rw (
      one_word 0 words,
      one_word 1 words,
      one_word 2 words,
      packed-unpacked (words_from latest_place latest_words words),
    )

-- 423 words are those of the record that they hold
pub words-of-record : (words : List ℕ) → length words ≡ record_words → words_of (record_of words) ≡ words
unfolding words_of
words-of-record words whole =
    rw (parts-of-record words)
    (joined-parts_from 0 record_parts words (omega arith) ∙ take_all record_words words (le_of_eq whole))

-- its latest rows have their count of values
pub latest-of-record : (words : List ℕ) → length (record_of words).latest ≡ values_kept
unfolding record_of of_parts parts_from
latest-of-record words =
    omega (arith, unpacked-length (words_from latest_place latest_words words), words_from-length latest_place latest_words words)

-- a record is the one of its parts
parts-of_parts : (o : Observation) → Whole o → of_parts (λ word. word) (parts_of o) ≡ o
unfolding of_parts parts_of
parts-of_parts o whole = rw (unpacked-packed o.latest latest_words whole.latest whole.latest-fit)

-- and the one that its words hold
pub record-of-words : (o : Observation) → Whole o → record_of (words_of o) ≡ o
unfolding words_of record_of of_parts
record-of-words o whole =
    rw (← whole.parts, parts_from-joined [] (parts_of o)) (parts-of_parts o whole)

-- its words are its parts, each put after those before it
pub words_of-parts :
    (o : Observation) →
    (o.setup.system ∷ o.setup.edition ∷ o.windows ∷ []) ++ o.smoothed ++ o.sum ++ o.peak ++ packed o.latest ≡ words_of o
unfolding words_of parts_of joined
words_of-parts o = simp (append_assoc, append-nil)

pub words_of-length : (o : Observation) → map length (parts_of o) ≡ record_parts → length (words_of o) ≡ record_words
unfolding words_of
words_of-length o parts = joined_length (parts_of o) ∙ ap total parts

-- the word of a smoothed value
pub smoothed-word :
    (o : Observation) (i : ℕ) → i < length o.smoothed → get_or (words_of o) (smoothed_place + i) 0 ≡ get_or o.smoothed i 0
unfolding words_of parts_of joined
smoothed-word o i inside =
    let later = joined (o.sum ∷ o.peak ∷ packed o.latest ∷ []) in
    get_or-append-add (o.setup.system ∷ o.setup.edition ∷ o.windows ∷ []) (o.smoothed ++ later) i 0
    ∙ get_or-append o.smoothed later 0 i inside

-- 423 words after a record is put into them
pub words_with-whole : (o : Observation) (words : List ℕ) → length words ≡ record_words → words_with o words ≡ words_of o
unfolding words_with
words_with-whole o words whole = rw (eq-eqb (length words) record_words whole)

-- ---- the record that is read of some words

-- the words of the system, the edition and the count of windows
abbrev system_word : List ℕ → ℕ
system_word words = get_or (words_from 0 1 words) 0 0

abbrev edition_word : List ℕ → ℕ
edition_word words = get_or (words_from 1 1 words) 0 0

abbrev windows_word : List ℕ → ℕ
windows_word words = get_or (words_from 2 1 words) 0 0

-- it is the one that they hold, where all three have 32 bits
read_same :
    (words : List ℕ) →
    min (system_word words) largest_value ≡ system_word words →
    min (edition_word words) largest_value ≡ edition_word words →
    min (windows_word words) largest_value ≡ windows_word words →
    record_read words ≡ record_of words
unfolding record_read record_of of_parts parts_from
read_same words system edition windows = rw (system, edition, windows)

-- so it is where one of the two is sound, each of which has the words in a way that keeps the small ones
sound-same :
    (counted : ℕ → ℕ) → ((word : ℕ) → counted word < largest_value → min word largest_value ≡ word) → (words : List ℕ) →
    is_sound (of_parts counted (parts_from 0 record_parts words)) ≡ true →
    record_read words ≡ record_of words
unfolding of_parts parts_from
sound-same counted keeps words sound =
    let parts = sound-parts (of_parts counted (parts_from 0 record_parts words)) sound in
    let known = setup-parts _ parts.setup-known in
    read_same words
    (keeps _ (omega (arith, (system-bounds _ known.system-known).most)))
    (keeps _ (omega (arith, edition-le _ known.edition-known)))
    (keeps _ (omega (arith, parts.windows-le)))

read-sound : (words : List ℕ) → is_sound (record_read words) ≡ true → record_read words ≡ record_of words
unfolding record_read
read-sound = sound-same (λ word. min word largest_value) (λ word small. omega arith)

held-sound : (words : List ℕ) → is_sound (record_of words) ≡ true → record_read words ≡ record_of words
unfolding record_of
held-sound = sound-same (λ word. word) (λ word small. omega arith)

-- what depends on a record only where it is sound is the same of both
pub record_read-same :
    {A : Type 0} (f : Observation → A) (unsound : A) →
    ((o : Observation) → is_sound o ≡ false → f o ≡ unsound) →
    (words : List ℕ) →
    f (record_read words) ≡ f (record_of words)
record_read-same f unsound else words = by_read (is_sound (record_read words)) refl
  where
    by-held : (sound : Bool) → is_sound (record_of words) ≡ sound → is_sound (record_read words) ≡ false → f (record_read words) ≡ f (record_of words)
    by-held true e read = ap f (held-sound words e)
    by-held false e read = else (record_read words) read ∙ sym (else (record_of words) e)

    by_read : (sound : Bool) → is_sound (record_read words) ≡ sound → f (record_read words) ≡ f (record_of words)
    by_read true e = ap f (read-sound words e)
    by_read false e = by-held (is_sound (record_of words)) refl e
