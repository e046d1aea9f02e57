-- An input handed over in blocks: its first line, then the lines of one window each. What harmlist writes for the whole is what the calls write.
use Rattle.std.specs.Prelude.{List, [], ◌∷◌, ◌++◌, ◌⊎◌, ◌≡◌, ℕ, ◌≤◌, ◌<◌, length}
use Rattle.algebra.specs.Lists.{joined}
use Rattle.refusals.specs.Numbers.{no_refusal}
use Rattle.recordings.specs.declared.Reading.{Reading}
use Rattle.recordings.specs.TextLines.{text_line_bytes}
use Rattle.harmlist_output.specs.Output.{harmlist_output}
use Rattle.recordings.specs.Blocks.{window_bytes, begin_of, block_of}
use Rattle.harmlist_output.specs.Ending.{output_of}

-- the reading after some blocks
unfoldable pub reading_after : Reading → List (List ℕ) → Reading
reading_after reading [] = reading
reading_after reading (block ∷ blocks) = reading_after (block_of reading block) blocks

-- all blocks but the last have a window's lines, and the last at most so many bytes
unfoldable pub WholeButLast : List (List ℕ) → Type 0
WholeButLast [] = Unit
WholeButLast (block ∷ []) = length block ≤ window_bytes
WholeButLast (block ∷ next ∷ blocks) = (length block ≡ window_bytes) × WholeButLast (next ∷ blocks)

-- how an input is cut: a first line and such blocks, or fewer bytes than a line and nothing more
abbrev pub CutInBlocks : List ℕ → List (List ℕ) → Type 0
CutInBlocks first blocks =
    ((length first ≡ text_line_bytes) × WholeButLast blocks) ⊎ ((length first < text_line_bytes) × (blocks ≡ []))

-- what the calls write for an input in blocks is what harmlist writes for it
abbrev pub FollowsDefinition : Type 0
FollowsDefinition =
    (first : List ℕ) (blocks : List (List ℕ)) → CutInBlocks first blocks →
    output_of (reading_after (begin_of first) blocks) ≡ harmlist_output (first ++ joined blocks)

-- a reading that is refused stays as it is, so that nothing more need be read
abbrev pub RefusedStays : Type 0
RefusedStays =
    (reading : Reading) (blocks : List (List ℕ)) → (reading.refusal ≡ no_refusal → ⊥) →
    reading_after reading blocks ≡ reading

-- so what is written after the first blocks, where they give a refusal, is what harmlist writes for the whole input
abbrev pub StopsAtRefusal : Type 0
StopsAtRefusal =
    (first : List ℕ) (blocks more : List (List ℕ)) → CutInBlocks first (blocks ++ more) →
    ((reading_after (begin_of first) blocks).refusal ≡ no_refusal → ⊥) →
    output_of (reading_after (begin_of first) blocks) ≡ harmlist_output (first ++ joined (blocks ++ more))
