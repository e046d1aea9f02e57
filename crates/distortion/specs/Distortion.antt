-- Group distortion of a row (document 01, "Groups" and the refusal table's row "distortion").
use Rattle.std.specs.Prelude.{Bool, List, [], ◌∷◌, ℕ, ◌*◌, eqb, leb, get_or, drop}
use Rattle.algebra.specs.Largest.{largest}
use Rattle.refusals.specs.Numbers.{no_fundamental}
use Rattle.refusals.specs.Answers.{first_fault, Answer, answer}
use Rattle.wide_numbers.specs.Squares.{sum_of_squares}

-- the square of the parts per thousand in 1
abbrev pub squared_thousand : ℕ
squared_thousand = 1000000

-- binary digits that are enough for the distortion of every row of 32-bit values: it is below 2^45
abbrev pub distortion_digits : ℕ
distortion_digits = 64

-- the largest whole t with t² × R1² at most 1,000,000 × the sum of the squares of R2..R40
unfoldable pub distortion_of : List ℕ → ℕ
distortion_of values =
    largest
    (λ t. leb (t * t * (get_or values 0 0 * get_or values 0 0)) (squared_thousand * sum_of_squares (drop 1 values)))
    distortion_digits

-- 12 group 1 is 0
abbrev pub distortion_checks : List ℕ → List (Bool × ℕ)
distortion_checks values = (eqb (get_or values 0 0) 0, no_fundamental) ∷ []

abbrev pub distortion_refusal : List ℕ → ℕ
distortion_refusal values = first_fault (distortion_checks values)

unfoldable pub distortion_answer : List ℕ → Answer
distortion_answer values = answer (distortion_refusal values) (distortion_of values)
