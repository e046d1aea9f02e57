-- An observation record (document 01, "The observation record"; its edition and its latest
-- rows, document 02, cards 7 and 8) as words that a caller keeps.
use Rattle.std.specs.Prelude.{cond, ◌≡◌, List, [], ◌∷◌, map, ℕ, ◌/◌, min, ◌<◌, eqb, length, get_or, take, Result, Ok, Err}
use Rattle.rows.specs.Orders.{order_count}
use Rattle.rows.specs.Rows.{largest_value}
use Rattle.rows.specs.Setups.{setup_of}
use Rattle.records.specs.declared.Observation.{Observation}
use Rattle.exported_answers.specs.declared.CallRefusal.{CallRefusal}
use Rattle.latest_rows.specs.Latest.{values_kept}
use Rattle.record_words.specs.Halves.{half_base, packed, unpacked}
use Rattle.record_words.specs.Parts.{parts_from, total}
use Rattle.algebra.specs.Lists.{joined}

-- the words of the latest rows, two values in a word
abbrev pub latest_words : ℕ
latest_words = values_kept / 2

-- the counts of words of a record's parts: its system, its edition, its count of windows, the
-- smoothed values, the sums and the peaks of the 40 orders, and the latest rows
abbrev pub record_parts : List ℕ
record_parts = 1 ∷ 1 ∷ 1 ∷ order_count ∷ order_count ∷ order_count ∷ latest_words ∷ []

-- the words of a record
abbrev pub record_words : ℕ
record_words = total record_parts

-- the place of the first smoothed value
abbrev pub smoothed_place : ℕ
smoothed_place = total (take 3 record_parts)

-- the place of the first word of the latest rows
abbrev pub latest_place : ℕ
latest_place = total (take 6 record_parts)

-- the parts of a record
unfoldable pub parts_of : Observation → List (List ℕ)
parts_of o =
    (o.setup.system ∷ []) ∷
    (o.setup.edition ∷ []) ∷
    (o.windows ∷ []) ∷
    o.smoothed ∷
    o.sum ∷
    o.peak ∷
    packed o.latest ∷
    []

-- the record of some parts, its system, its edition and its count of windows as a number of words has them
unfoldable pub of_parts : (ℕ → ℕ) → List (List ℕ) → Observation
of_parts counted parts =
    record {
      setup = setup_of (counted (get_or (get_or parts 0 []) 0 0)) (counted (get_or (get_or parts 1 []) 0 0));
      windows = counted (get_or (get_or parts 2 []) 0 0);
      smoothed = get_or parts 3 [];
      sum = get_or parts 4 [];
      peak = get_or parts 5 [];
      latest = unpacked (get_or parts 6 []);
    }

-- the words that hold a record
unfoldable pub words_of : Observation → List ℕ
words_of o = joined (parts_of o)

-- the record that some words hold
unfoldable pub record_of : List ℕ → Observation
record_of words = of_parts (λ word. word) (parts_from 0 record_parts words)

-- the same in the library's numbers: its system, its edition and its count of windows have 32 bits, and a word that has more counts as the largest of them, which is none of a sound record's
unfoldable pub record_read : List ℕ → Observation
record_read words = of_parts (λ word. min word largest_value) (parts_from 0 record_parts words)

-- each part of a record has its count of words, and the latest rows as many values of 32 bits as these hold
pub record Whole (o : Observation) : Type 0 where
  pub parts : map length (parts_of o) ≡ record_parts
  pub latest : length o.latest ≡ values_kept
  pub latest-fit : (i : ℕ) → get_or o.latest i 0 < half_base

-- some words after a record is put into them: its own where there are as many, and else what they were
unfoldable pub words_with : Observation → List ℕ → List ℕ
words_with o words = cond (eqb (length words) record_words) (words_of o) words

-- what lent words hold after a call for a record: those of the record, or what was there
abbrev pub words_left : Result Observation CallRefusal → List ℕ → List ℕ
words_left (Ok o) words = words_with o words
words_left (Err refusal) words = words
