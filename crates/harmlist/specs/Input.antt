-- What harmlist's reading of its input answers. No contract of the system's read says which bytes come, so they are some bytes here; what they are read as is defined.
use Rattle.std.specs.Prelude.{Bool, true, false, List, [], ◌∷◌, ◌++◌, ◌⊎◌, ◌≡◌, ℕ, ◌≤◌, ltb, length, take}
use Rattle.refusals.specs.Numbers.{no_refusal}
use Rattle.recordings.specs.declared.Reading.{Reading}
use Rattle.recordings.specs.TextLines.{text_line_bytes}
use Rattle.harmlist_output.specs.Output.{harmlist_output}
use Rattle.recordings.specs.Blocks.{window_bytes, begin_of, block_of}
use Rattle.harmlist_output.specs.Ending.{output_of}
use Rattle.harmlist_output.specs.Follows.{WholeButLast, reading_after}
use Rattle.harmlist.specs.declared.Input.{Input}
use Rattle.harmlist.specs.declared.Input.TheVariants.{Ended, Whole}

-- what an input is read as
abbrev pub reading_of : Input → Reading
reading_of (Ended reading) = reading
reading_of (Whole reading) = reading

-- its last bytes were fewer than were asked for
abbrev pub has_ended : Input → Bool
has_ended (Ended reading) = true
has_ended (Whole reading) = false

-- a count of bytes that lie at the front of a buffer
abbrev pub IsPrefixLen : ℕ → List ℕ → Type 0
IsPrefixLen n buffer = (n ≤ length buffer) × (n ≡ length (take n buffer))

-- so many bytes were read, or fewer at the end, and what they are read as
pub record BytesRead (most : ℕ) (read_as : List ℕ → Reading) (input : Input) : Type 0 where
  pub bytes : List ℕ
  pub fits : length bytes ≤ most
  pub ended-is : has_ended input ≡ ltb (length bytes) most
  pub reading-is : reading_of input ≡ read_as bytes

-- the first line
abbrev pub LineRead : Input → Type 0
LineRead = BytesRead text_line_bytes begin_of

-- a window's lines
abbrev pub BlockRead : Reading → Input → Type 0
BlockRead before = BytesRead window_bytes (block_of before)

-- all blocks have a window's lines
unfoldable pub AllWhole : List (List ℕ) → Type 0
AllWhole [] = Unit
AllWhole (block ∷ blocks) = (length block ≡ window_bytes) × AllWhole blocks

-- why no more is read after some blocks: the input ended, or they are whole and the reading is refused
abbrev pub Ends : List (List ℕ) → Input → Type 0
Ends blocks input = (has_ended input ≡ true) ⊎ (AllWhole blocks × ((reading_of input).refusal ≡ no_refusal → ⊥))

-- blocks were read, whole but for the last
pub record BlocksRead (first : Reading) (input : Input) : Type 0 where
  pub blocks : List (List ℕ)
  pub cut : WholeButLast blocks
  pub reading-is : reading_of input ≡ reading_after first blocks
  pub ends : Ends blocks input

-- a text was read, and what its reading writes is what harmlist writes for it; where the input has not ended, also for the text with any more after it
pub record TextRead (input : Input) : Type 0 where
  pub text : List ℕ
  pub output-is : output_of (reading_of input) ≡ harmlist_output text
  pub any-more : has_ended input ≡ false → (more : List ℕ) → output_of (reading_of input) ≡ harmlist_output (text ++ more)
