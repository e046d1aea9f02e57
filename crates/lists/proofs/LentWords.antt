-- Words from a place on: their count, one of them, and all.
use mathlib.Core.Path.{◌≡◌, ◌∙◌}
use mathlib.Core.List.{List}
use Prim.Native.Nat.{ℕ, ◌+◌, ◌<◌}
use native.Mathlib.Nat.{add-zero, le_of_eq}
use native.Mathlib.Omega.{arith}
use lib.ListN.{length, get_or}
use lib.Seq.{take_all}
use Rattle.algebra.specs.Lists.{tabulate}
use Rattle.algebra.proofs.Lists.{length-tabulate, get_or-tabulate, tabulate-part}
use Rattle.lists.specs.LentWords.{words_from}

pub words_from-length : (place count : ℕ) (words : List ℕ) → length (words_from place count words) ≡ count
unfolding words_from
words_from-length place count words = length-tabulate count _

-- the word at a place of them
pub get_or-words_from : (place count : ℕ) (words : List ℕ) (i : ℕ) → i < count → get_or (words_from place count words) i 0 ≡ get_or words (place + i) 0
unfolding words_from
get_or-words_from place count words i inside = get_or-tabulate count (λ j. get_or words (place + j) 0) i 0 inside

-- one word
pub words_from-one : (place : ℕ) (words : List ℕ) → get_or (words_from place 1 words) 0 0 ≡ get_or words place 0
unfolding words_from tabulate
words_from-one place words = rw (add-zero place)

-- as many words from the first on are all
pub words_from-whole : (words : List ℕ) (count : ℕ) → length words ≡ count → words_from 0 count words ≡ words
unfolding words_from
words_from-whole words count whole = tabulate-part words 0 count (omega arith) ∙ take_all count words (le_of_eq whole)
