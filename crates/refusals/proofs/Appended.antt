-- A row of checks after another: the first row decides, and the second where the first finds no fault.
use mathlib.Core.Path.{◌≡◌, refl, sym, ◌∙◌}
use mathlib.Core.Bool.{Bool, true, false, true≢false, cond}
use mathlib.Core.List.{List, [], ◌∷◌, ◌++◌}
use Prim.Native.Nat.{ℕ}
use native.Mathlib.Omega.{arith}
use borrow.Author.Tests.{ltb-true, ne_eqb, eqb-true, eqb-false}
use lib.Dec.{eqb, ltb}
use Rattle.refusals.specs.Numbers.{no_refusal}
use Rattle.refusals.specs.Answers.{first_fault, unless_refused}
use Rattle.refusals.proofs.Answers.{numbered, fault_with, no-faults}

-- the number of the first check, and those of the checks after it, are above 0
numbered-parts : (above : Bool) (rest : Bool) → cond above rest false ≡ true → (above ≡ true) × (rest ≡ true)
numbered-parts true rest e = (refl, e)
numbered-parts false rest e = absurd (true≢false (sym e))

pub numbered-append : (a b : List (Bool × ℕ)) → numbered a ≡ true → numbered b ≡ true → numbered (a ++ b) ≡ true
numbered-append [] b e f = f
numbered-append (check ∷ a) b e f =
    let parts = numbered-parts (ltb 0 check.1) (numbered a) e in
    rw parts.0 (numbered-append a b parts.1 f)

pub first_fault-append :
    (a b : List (Bool × ℕ)) → numbered a ≡ true →
    first_fault (a ++ b) ≡ unless_refused (first_fault a) (first_fault b) (first_fault a)
first_fault-append [] b e = refl
first_fault-append ((fault, number) ∷ a) b e =
    let parts = numbered-parts (ltb 0 number) (numbered a) e in
    by-fault fault parts.0 (first_fault-append a b parts.1)
  where
    by-fault :
        (there : Bool) → ltb 0 number ≡ true →
        first_fault (a ++ b) ≡ unless_refused (first_fault a) (first_fault b) (first_fault a) →
        let first = cond there number (first_fault a) in
        cond there number (first_fault (a ++ b)) ≡ unless_refused first (first_fault b) first
    by-fault true above later = rw (ne_eqb number no_refusal (λ z. omega (arith, ltb-true 0 number above)))
    by-fault false above later = later

-- neither of two answers in turn is a refusal where the first that is one is none
unless_refused-none :
    (first second : ℕ) → unless_refused first second first ≡ no_refusal → (first ≡ no_refusal) × (second ≡ no_refusal)
unless_refused-none first second = by-test (eqb first no_refusal) refl
  where
    by-test :
        (passed : Bool) → eqb first no_refusal ≡ passed → cond passed second first ≡ no_refusal →
        (first ≡ no_refusal) × (second ≡ no_refusal)
    by-test true e none = (eqb-true first no_refusal e, none)
    by-test false e none = absurd (eqb-false first no_refusal e none)

-- where the two rows in turn find no fault, neither does
pub first_fault-append-none :
    (a b : List (Bool × ℕ)) → numbered a ≡ true → first_fault (a ++ b) ≡ no_refusal →
    (first_fault a ≡ no_refusal) × (first_fault b ≡ no_refusal)
first_fault-append-none a b e none =
    unless_refused-none (first_fault a) (first_fault b) (sym (first_fault-append a b e) ∙ none)

-- ---- one number twice: the checks 2 and 3, and then 2 and 3 of another thing

abbrev both : Bool → Bool → List (Bool × ℕ)
both second third = (second, 2) ∷ (third, 3) ∷ []

-- by its number a check is the first of that number alone: the fault of the other 2 is not seen
number-found-once :
    (first_fault (both false false ++ both true false) ≡ 2) × (fault_with 2 (both false false ++ both true false) ≡ false)
number-found-once = (refl, refl)

-- all four find nothing where nothing is refused
four-passed :
    (a b c d : Bool) → first_fault (both a b ++ both c d) ≡ no_refusal →
    (a ≡ false) × (b ≡ false) × (c ≡ false) × (d ≡ false)
four-passed a b c d none =
    let rows = first_fault-append-none (both a b) (both c d) refl none in
    let first = no-faults (both a b) refl rows.0 in
    let second = no-faults (both c d) refl rows.1 in
    (first 2, first 3, second 2, second 3)
