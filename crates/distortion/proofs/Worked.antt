-- Worked distortions with the whole answers: a table of rows and one computed theorem over it.
use mathlib.Core.List.{List, [], ◌∷◌, ◌++◌, map}
use mathlib.Core.Path.{◌≡◌, refl}
use Prim.Native.Nat.{ℕ}
use lib.ListN.{replicate}
use Rattle.algebra.specs.Largest.{largest}
use Rattle.algebra.specs.Weighted.{sum_over}
use Rattle.refusals.specs.Answers.{Answer}
use Rattle.wide_numbers.specs.Squares.{sum_of_squares}
use Rattle.distortion.specs.Distortion.{distortion_of, distortion_answer}

-- the first value, the second, the last, and what is answered
pub record Distorted : Type 0 where
  pub first : ℕ
  pub second : ℕ
  pub last : ℕ
  pub answered : Answer

-- the values between are 0
abbrev distorted : ℕ → ℕ → ℕ → ℕ → ℕ → Distorted
distorted first second last refusal value =
    record { first = first; second = second; last = last; answered = record { refusal = refusal; value = value } }

abbrev distortions : List Distorted
distortions =
    -- 3/10 and 4/10 of the fundamental are together 5/10
    distorted 1000 300 400 0 500 ∷
    -- 2/3 in parts per thousand, not rounded up
    distorted 3 2 0 0 666 ∷
    distorted 1 0 0 0 0 ∷
    -- the largest values: the root of 2, in parts per thousand
    distorted 4294967295 4294967295 4294967295 0 1414 ∷
    distorted 1 0 4294967295 0 4294967295000 ∷
    distorted 0 1 1 12 0 ∷
    []

distortions-worked :
    map (λ c. distortion_answer (c.first ∷ c.second ∷ (replicate 37 0 ++ (c.last ∷ [])))) distortions ≡
    map (λ c. c.answered) distortions
unfolding distortion_answer distortion_of sum_of_squares sum_over largest
distortions-worked = refl
