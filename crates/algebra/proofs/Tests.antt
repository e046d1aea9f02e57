-- Tests as the code computes them: by their parts, and one that follows from another.
use mathlib.Core.Path.{◌≡◌, refl, sym, ◌∙◌}
use mathlib.Core.Logic.{◌⊎◌, inl, inr, ⊎_map}
use mathlib.Core.Bool.{Bool, true, false, true≢false, ◌&&◌, ◌||◌, and-true, and_assoc}
use mathlib.Core.List.{List, [], ◌∷◌}
use Prim.Native.Nat.{ℕ, zero, suc, ◌≤◌, ◌<◌}
use native.Mathlib.Decide.{dec_le}
use native.Mathlib.Omega.{arith}
use borrow.Author.Tests.{eqb-true, leb-true, le-leb, lt-leb}
use lib.Dec.{eqb, leb, ltb}
use lib.ListN.{get_or}
use Rattle.algebra.specs.Lists.{all_true}

pub and_left : (a b : Bool) → (a && b) ≡ true → a ≡ true
and_left true b e = refl
and_left false b e = e

pub and_right : (a b : Bool) → (a && b) ≡ true → b ≡ true
and_right true b e = e
and_right false b e = absurd (true≢false (sym e))

pub or-either : (a b : Bool) → (a || b) ≡ true → (a ≡ true) ⊎ (b ≡ true)
or-either true b e = inl refl
or-either false b e = inr e

pub or_left : (a b : Bool) → (a || b) ≡ false → a ≡ false
or_left true b e = absurd (true≢false e)
or_left false b e = refl

pub true-or-false : (b : Bool) → (b ≡ true) ⊎ (b ≡ false)
true-or-false true = inl refl
true-or-false false = inr refl

-- the test at a place of a list, computed where the list is written out
pub all_true-at : (tests : List Bool) → all_true tests ≡ true → (i : ℕ) → get_or tests i true ≡ true
all_true-at [] e i = refl
all_true-at (test ∷ tests) e zero = and_left test (all_true tests) e
all_true-at (test ∷ tests) e (suc i) = all_true-at tests (and_right test (all_true tests) e) i

-- the tests joined from the left, as code joins them
abbrev pub all_from : Bool → List Bool → Bool
all_from so_far [] = so_far
all_from so_far (test ∷ tests) = all_from (so_far && test) tests

pub all_from-eq : (so_far : Bool) (tests : List Bool) → all_from so_far tests ≡ so_far && all_true tests
all_from-eq so_far [] = sym (and-true so_far)
all_from-eq so_far (test ∷ tests) = all_from-eq (so_far && test) tests ∙ and_assoc so_far test (all_true tests)

-- one test of three that fails is found, and each of three that pass
tests-worked : (all_true [] ≡ true) × (all_true (true ∷ true ∷ true ∷ []) ≡ true) × (all_true (false ∷ true ∷ true ∷ []) ≡ false)
    × (all_true (true ∷ false ∷ true ∷ []) ≡ false) × (all_true (true ∷ true ∷ false ∷ []) ≡ false)
tests-worked = (refl, refl, refl, refl, refl)

-- a number that is tested to be in a range
pub leb-range : (least number most : ℕ) → leb least number && leb number most ≡ true → (least ≤ number) × (number ≤ most)
leb-range least number most e =
    (leb-true least number (and_left (leb least number) (leb number most) e), leb-true number most (and_right (leb least number) (leb number most) e))

-- a number that is tested to be one of two
pub eqb-either : (n a b : ℕ) → (eqb n a || eqb n b) ≡ true → (n ≡ a) ⊎ (n ≡ b)
eqb-either n a b e = ⊎_map (eqb-true n a) (eqb-true n b) (or-either (eqb n a) (eqb n b) e)

-- two tests that follow from each other are the same
pub leb-same : (a b c d : ℕ) → (a ≤ b → c ≤ d) → (c ≤ d → a ≤ b) → leb a b ≡ leb c d
leb-same a b c d forth back = by-test (dec_le a b)
  where
    by-test : Dec (a ≤ b) → leb a b ≡ leb c d
    by-test (yes h) = le-leb a b h ∙ sym (le-leb c d (forth h))
    by-test (no f) =
        let above : c ≤ d → ⊥ = λ l. f (back l) in
        lt-leb a b (omega arith) ∙ sym (lt-leb c d (omega arith))

pub ltb-same : (a b c d : ℕ) → (a < b → c < d) → (c < d → a < b) → ltb a b ≡ ltb c d
ltb-same a b c d = leb-same (suc a) b (suc c) d
