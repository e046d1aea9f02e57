-- Numbers of 32 bits, two in a word of 64: the first of each pair is the word's lower half. So the latest
-- rows of a record (document 02, card 8) take half as many words as they have values.
use Rattle.std.specs.Prelude.{List, [], ◌∷◌, ℕ, ◌+◌, ◌*◌, ◌/◌, ◌%◌, ◌^◌}

-- one more than the largest number of 32 bits
abbrev pub half_base : ℕ
half_base = 2 ^ 32

-- the words of some values; a last value that has none beside it is a word's lower half
unfoldable pub packed : List ℕ → List ℕ
packed [] = []
packed (low ∷ []) = low ∷ []
packed (low ∷ high ∷ values) = (low + half_base * high) ∷ packed values

-- the halves of some words
unfoldable pub unpacked : List ℕ → List ℕ
unpacked [] = []
unpacked (word ∷ words) = word % half_base ∷ word / half_base ∷ unpacked words
