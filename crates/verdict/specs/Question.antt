-- What is asked of a verdict: an order, the letter of a class, and K, the units per ampere (document 01, "Class A verdicts"; document 02, card 1).
use Rattle.std.specs.Prelude.{Bool, ◌&&◌, ℕ, ◌^◌, leb}
use Rattle.classes.specs.declared.Class.{Class}
use Rattle.classes.specs.Letters.{class_with}
use Rattle.verdict.specs.declared.Question.{Question}

-- a question by its parts
abbrev pub asked : ℕ → ℕ → ℕ → Question
asked order letter scale = record { order = order; letter = letter; scale = scale }

-- the class that is asked: the one that the letter names
abbrev pub class_asked : Question → Class
class_asked q = class_with q.letter

-- K is 1..2^28
abbrev pub largest_scale : ℕ
largest_scale = 2 ^ 28

abbrev pub is_scale : ℕ → Bool
is_scale scale = leb 1 scale && leb scale largest_scale
