-- What it tells that a row of checks finds no fault, what stands where a call is accepted or refused, and worked checks and answers.
use mathlib.Core.Path.{◌≡◌, refl, sym}
use mathlib.Core.Bool.{Bool, true, false, cond}
use mathlib.Core.List.{List, [], ◌∷◌}
use Prim.Native.Nat.{ℕ, ◌<◌, ◌≤◌}
use native.Mathlib.Omega.{arith}
use borrow.Author.Tests.{eq-eqb, ne_eqb, eqb-true, ltb-true, leb-true}
use lib.Dec.{eqb, leb, ltb}
use Rattle.refusals.specs.Numbers.{no_refusal, largest_refusal}
use Rattle.refusals.specs.Answers.{first_fault, unless_refused, answer}

-- the first check of a row finds no fault, and neither do those after it
pub no-fault : (fault : Bool) (number rest : ℕ) → 0 < number → cond fault number rest ≡ no_refusal → (fault ≡ false) × (rest ≡ no_refusal)
no-fault true number rest positive e = absurd (omega arith)
no-fault false number rest positive e = (refl, e)

-- the numbers of a row of checks are above 0, as those of every refusal; computed
abbrev pub numbered : List (Bool × ℕ) → Bool
numbered [] = true
numbered (check ∷ checks) = cond (ltb 0 check.1) (numbered checks) false

-- the fault that a row tests for with a number, computed: a row's test by its number, wherever in the row it stands
abbrev pub fault_with : ℕ → List (Bool × ℕ) → Bool
fault_with number [] = false
fault_with number (check ∷ checks) = cond (eqb check.1 number) check.0 (fault_with number checks)

-- where nothing is refused, no check of the row finds its fault
pub no-faults : (checks : List (Bool × ℕ)) → numbered checks ≡ true → first_fault checks ≡ no_refusal → (number : ℕ) → fault_with number checks ≡ false
no-faults [] positive e number = refl
no-faults ((fault, own) ∷ checks) positive e number = by_number (ltb 0 own) refl positive (λ rest passed. no-faults checks rest passed number)
  where
    by-test : (same : Bool) → fault ≡ false → fault_with number checks ≡ false → cond same fault (fault_with number checks) ≡ false
    by-test true here later = here
    by-test false here later = later

    by_number :
        (above : Bool) → ltb 0 own ≡ above → cond above (numbered checks) false ≡ true →
        (numbered checks ≡ true → first_fault checks ≡ no_refusal → fault_with number checks ≡ false) →
        cond (eqb own number) fault (fault_with number checks) ≡ false
    by_number true p rest later =
        let passed = no-fault fault own (first_fault checks) (ltb-true 0 own p) e in
        by-test (eqb own number) passed.0 (later rest passed.1)
    by_number false p rest later = absurd (mathlib.Core.Bool.true≢false (sym rest))

-- the numbers of a row of checks are document 01's; computed
abbrev pub known : List (Bool × ℕ) → Bool
known [] = true
known (check ∷ checks) = cond (leb check.1 largest_refusal) (known checks) false

-- so a row of checks answers no larger number
pub first_fault-le : (checks : List (Bool × ℕ)) → known checks ≡ true → first_fault checks ≤ largest_refusal
first_fault-le [] all = omega arith
first_fault-le ((fault, own) ∷ checks) all = by_number (leb own largest_refusal) refl all (first_fault-le checks)
  where
    by-fault : (there : Bool) → own ≤ largest_refusal → first_fault checks ≤ largest_refusal → cond there own (first_fault checks) ≤ largest_refusal
    by-fault true here later = here
    by-fault false here later = later

    by_number :
        (small : Bool) → leb own largest_refusal ≡ small → cond small (known checks) false ≡ true →
        (known checks ≡ true → first_fault checks ≤ largest_refusal) →
        cond fault own (first_fault checks) ≤ largest_refusal
    by_number true p rest later = by-fault fault (leb-true own largest_refusal p) (later rest)
    by_number false p rest later = absurd (mathlib.Core.Bool.true≢false (sym rest))

-- what stands after a call that is accepted, and after one that is refused
module _ {ℓ} {A : Type ℓ} (refusal : ℕ) (accepted unchanged : A) where
  pub unless_refused-accepted : refusal ≡ no_refusal → unless_refused refusal accepted unchanged ≡ accepted
  unless_refused-accepted e = rw (eq-eqb refusal no_refusal e)

  pub unless_refused-refused : (refusal ≡ no_refusal → ⊥) → unless_refused refusal accepted unchanged ≡ unchanged
  unless_refused-refused e = rw (ne_eqb refusal no_refusal e)

-- what stands on success need be the same only there
pub unless_refused-same {ℓ} :
    {A : Type ℓ} (refusal : ℕ) (a b unchanged : A) →
    (refusal ≡ no_refusal → a ≡ b) →
    unless_refused refusal a unchanged ≡ unless_refused refusal b unchanged
unless_refused-same refusal a b unchanged same = by-test (eqb refusal no_refusal) refl
  where
    by-test : (accepted : Bool) → eqb refusal no_refusal ≡ accepted → cond accepted a unchanged ≡ cond accepted b unchanged
    by-test true e = same (eqb-true refusal no_refusal e)
    by-test false e = refl

-- two calls on the same thing that are refused alike: a relation of their results on success, and of the thing with itself, is one of what stands after them
pub unless_refused-related {ℓ} :
    {A : Type ℓ} (R : A → A → Type 0) (refusal other : ℕ) (a b unchanged : A) → refusal ≡ other →
    (refusal ≡ no_refusal → R a b) → R unchanged unchanged →
    R (unless_refused refusal a unchanged) (unless_refused other b unchanged)
unless_refused-related R refusal other a b unchanged same worked kept = rw (← same) (by-test (eqb refusal no_refusal) refl)
  where
    by-test : (accepted : Bool) → eqb refusal no_refusal ≡ accepted → R (cond accepted a unchanged) (cond accepted b unchanged)
    by-test true e = worked (eqb-true refusal no_refusal e)
    by-test false e = kept

-- what the library puts beside a refusal never reaches the caller
pub received-eq :
    {A B : Type 0} (f : A → B) (refusal : ℕ) (accepted other : A) (before : B) →
    unless_refused refusal (f (unless_refused refusal accepted other)) before ≡ unless_refused refusal (f accepted) before
received-eq {A} {B} f refusal accepted other before = by-test (eqb refusal no_refusal)
  where
    by-test : (none : Bool) → cond none (f (cond none accepted other)) before ≡ cond none (f accepted) before
    by-test true = refl
    by-test false = refl

-- two checks with the numbers 1 and 2
abbrev checks : Bool → Bool → List (Bool × ℕ)
checks first second = (first, 1) ∷ (second, 2) ∷ []

-- the first of two faults decides, and the second where the first is not there
first-decides : (first_fault (checks true true) ≡ 1) × (first_fault (checks true false) ≡ 1)
    × (first_fault (checks false true) ≡ 2) × (first_fault (checks false false) ≡ 0)
first-decides = (refl, refl, refl, refl)

-- each of the two is found by its number
second-passed : (first second : Bool) → first_fault (checks first second) ≡ no_refusal → second ≡ false
second-passed first second e = no-faults (checks first second) refl e 2

-- "A refusal gives its number with 0 as value"
answers-worked : (answer 0 9 ≡ record { refusal = 0; value = 9 }) × (answer 1 9 ≡ record { refusal = 1; value = 0 })
    × (answer 14 9 ≡ record { refusal = 14; value = 0 })
answers-worked = (refl, refl, refl)
