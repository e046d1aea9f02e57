-- Lists by their places, one list after the other, and a list of tests.
use Rattle.std.specs.Prelude.{Bool, true, ◌&&◌, List, [], ◌∷◌, ◌++◌, ℕ, zero, suc}

module _ {ℓ} {A : Type ℓ} where
  -- f 0, f 1, .. f (n − 1)
  unfoldable pub tabulate : ℕ → (ℕ → A) → List A
  tabulate zero f = []
  tabulate (suc n) f = tabulate n f ++ (f n ∷ [])

  -- some lists, one after the other
  unfoldable pub joined : List (List A) → List A
  joined [] = []
  joined (xs ∷ lists) = xs ++ joined lists

-- each of some tests passes
abbrev pub all_true : List Bool → Bool
all_true [] = true
all_true (test ∷ tests) = test && all_true tests
