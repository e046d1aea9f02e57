-- A letter names one class, and each class has one letter.
use mathlib.Core.Path.{◌≡◌, refl, sym}
use mathlib.Core.Bool.{Bool, true, false, cond, ◌||◌, true≢false}
use Prim.Native.Nat.{ℕ}
use lib.Dec.{eqb}
use borrow.Author.Tests.{eqb-true}
use Rattle.classes.specs.declared.Class.{Class}
use Rattle.classes.specs.declared.Class.TheVariants.{A, B}
use Rattle.classes.specs.Letters.{letter_of, is_class, class_with}

-- the letters are the capitals, by their bytes in ASCII
letters-worked : (letter_of A ≡ 65) × (letter_of B ≡ 66)
unfolding letter_of
letters-worked = (refl, refl)

-- every class is taken by its letter
pub letter_of-class : (class : Class) → (is_class (letter_of class) ≡ true) × (class_with (letter_of class) ≡ class)
unfolding is_class class_with letter_of
letter_of-class A = (refl, refl)
letter_of-class B = (refl, refl)

-- every letter that is taken is that of its class
pub class_with-letter : (letter : ℕ) → is_class letter ≡ true → letter_of (class_with letter) ≡ letter
unfolding is_class class_with
class_with-letter letter = go (eqb letter (letter_of A)) (eqb letter (letter_of B)) refl refl
  where
    go :
        (a b : Bool) →
        eqb letter (letter_of A) ≡ a →
        eqb letter (letter_of B) ≡ b →
        a || b ≡ true →
        letter_of (cond b B A) ≡ letter
    go a true e f taken = sym (eqb-true _ _ f)
    go true false e f taken = sym (eqb-true _ _ e)
    go false false e f taken = absurd (true≢false (sym taken))
