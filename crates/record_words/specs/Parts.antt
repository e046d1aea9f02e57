-- Words that hold parts one after the other.
use Rattle.std.specs.Prelude.{List, [], ◌∷◌, ℕ, ◌+◌}
use Rattle.lists.specs.LentWords.{words_from}

-- the parts of some words from a place on, by their counts of words: each begins where the part before it ends
unfoldable pub parts_from : ℕ → List ℕ → List ℕ → List (List ℕ)
parts_from place [] words = []
parts_from place (count ∷ counts) words = words_from place count words ∷ parts_from (place + count) counts words

-- the words of all parts
abbrev pub total : List ℕ → ℕ
total [] = 0
total (count ∷ counts) = count + total counts
