-- The classes of equipment of IEC 61000-3-2 whose limits the core knows, and the letters by which the calls name them (document 02, card 1).
use Rattle.std.specs.Prelude.{Bool, cond, ◌||◌, ℕ, eqb, Result, Ok, Err}
use Rattle.refusals.specs.declared.Refusal.{Refusal}
use Rattle.refusals.specs.declared.Refusal.TheVariants.{UnknownClass}
use Rattle.classes.specs.declared.Class.{Class}
use Rattle.classes.specs.declared.Class.TheVariants.{A, B}

-- the letter of a class: the byte of its capital
unfoldable pub letter_of : Class → ℕ
letter_of A = 65
letter_of B = 66

-- "A class letter other than A or B is 15": a letter names a class
unfoldable pub is_class : ℕ → Bool
is_class letter = eqb letter (letter_of A) || eqb letter (letter_of B)

-- the class that a letter names; of a letter that names none, where no call goes, A
unfoldable pub class_with : ℕ → Class
class_with letter = cond (eqb letter (letter_of B)) B A

-- the class that a letter names, and the refusal of a letter that names none
abbrev pub class_named : ℕ → Result Class Refusal
class_named letter = cond (is_class letter) (Ok (class_with letter)) (Err UnknownClass)
