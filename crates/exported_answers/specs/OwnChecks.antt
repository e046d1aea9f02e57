-- The checks of an exported call's own: what a number or a slice from another language may hold that a type of the library cannot. Their refusals are numbers past those of the documents, 1..22.
use Rattle.std.specs.Prelude.{Bool, false, not, List, [], ◌∷◌, ◌≡◌, ℕ, eqb, length}
use Rattle.std.specs.List.{list_any}
use Rattle.refusals.specs.Answers.{first_fault, unless_refused}

-- a number that stands for no kind
abbrev pub unknown_kind : ℕ
unknown_kind = 101

-- a slice of the wrong number of words for a row or a record
abbrev pub wrong_word_count : ℕ
wrong_word_count = 102

-- the check that some words are so many
abbrev pub word_count_check : ℕ → List ℕ → Bool × ℕ
word_count_check count words = (not (eqb (length words) count), wrong_word_count)

-- a call's own checks come first, and then the row of document 01's table
abbrev pub own_first : List (Bool × ℕ) → ℕ → ℕ
own_first own row = unless_refused (first_fault own) row (first_fault own)

-- a number that stands for no refusal of the documents and none of the calls', and not for none: each refusal has one form
abbrev pub IsOther : ℕ → Type 0
IsOther n = list_any (eqb n) (0 ∷ 1 ∷ 2 ∷ 3 ∷ 4 ∷ 5 ∷ 6 ∷ 7 ∷ 8 ∷ 9 ∷ 10 ∷ 11 ∷ 12 ∷ 13 ∷ 14 ∷ 15 ∷ 19 ∷ 20 ∷ unknown_kind ∷ wrong_word_count ∷ []) ≡ false
