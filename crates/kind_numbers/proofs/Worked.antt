-- The numbers of the kinds in figures, and what the own checks of a call refuse, with two faults too.
use mathlib.Core.Bool.{Bool, true, false}
use mathlib.Core.List.{List, [], ◌∷◌, map}
use mathlib.Core.Path.{◌≡◌, refl}
use Prim.Native.Nat.{ℕ}
use Rattle.kinds.specs.declared.Kind.TheVariants.{Component, HarmonicGroup, HarmonicSubgroup, InterharmonicGroup, InterharmonicCentredSubgroup}
use Rattle.refusals.specs.Answers.{first_fault}
use Rattle.exported_answers.specs.OwnChecks.{wrong_word_count}
use Rattle.kind_numbers.specs.Kinds.{kinds, is_kind, kind_with, kind_check}

numbers-worked :
    map kind_with (0 ∷ 1 ∷ 2 ∷ 3 ∷ 4 ∷ [])
    ≡ Component ∷ HarmonicGroup ∷ HarmonicSubgroup ∷ InterharmonicGroup ∷ InterharmonicCentredSubgroup ∷ []
unfolding kind_with kinds
numbers-worked = refl

-- a kind's number, whether the words are of another count, and the refusal
abbrev refusals : List (ℕ × Bool × ℕ)
refusals =
    (0, false, 0) ∷ (4, false, 0) ∷ (5, false, 101) ∷ (4294967295, false, 101) ∷ (4, true, 102) ∷ (5, true, 101) ∷ []

refusals-worked :
    map (λ c. (c.0, c.1, first_fault (kind_check c.0 ∷ (c.1, wrong_word_count) ∷ []))) refusals ≡ refusals
unfolding is_kind kinds
refusals-worked = refl
