-- One computed test over a whole list gives the tested rule at each of its entries (specs/Computed.antt).
-- The checker computes the test to true, so `tt` proves it; `table-is-rule` finds the list in the goal, so that a table's entries stand once.
use mathlib.Core.Bool.{Bool, true, false, ◌&&◌}
use mathlib.Core.List.{List, [], ◌∷◌}
use mathlib.Core.Path.{◌≡◌, refl, sym, ◌∙◌}
use Prim.Native.Nat.{ℕ, zero, suc, ◌+◌, ◌*◌, ◌<◌}
use native.Mathlib.Nat.{add-zero, add-suc, suc-add, zero-add, not-suc-le-zero, le_of_suc-le-suc}
use lib.Dec.{T, eqb, eqb→eq}
use lib.ListN.{length, get_or, replicate, length-replicate}
use lib.Seq.{ext_get_or}
use Rattle.algebra.specs.Computed.{pass_from, all_pass}
use Rattle.algebra.specs.Lists.{tabulate}
use Rattle.algebra.proofs.Lists.{length-tabulate, get_or-tabulate}

-- the numbers of a list are the squares of their places
abbrev squares : List ℕ → Bool
squares numbers = all_pass (λ k entry. eqb entry (k * k)) numbers

-- a wrong number is found in the first place, in the last and between
squares-worked : (squares (0 ∷ 1 ∷ 4 ∷ 9 ∷ []) ≡ true) × (squares (1 ∷ 1 ∷ 4 ∷ 9 ∷ []) ≡ false) × (squares (0 ∷ 1 ∷ 3 ∷ 9 ∷ []) ≡ false) × (squares (0 ∷ 1 ∷ 4 ∷ 8 ∷ []) ≡ false)
squares-worked = (refl, refl, refl, refl)

and_left : (a b : Bool) → T (a && b) → T a
and_left true b t = tt
and_left false b t = t

and_right : (a b : Bool) → T (a && b) → T b
and_right true b t = t
and_right false b t = absurd t

pub both-pass : (a b : Bool) → T (a && b) → T a × T b
both-pass a b t = (and_left a b t, and_right a b t)

pass-from {ℓ} : {A : Type ℓ} (test : ℕ → A → Bool) (entries : List A) (i : ℕ) → T (pass_from test i entries) → (k : ℕ) → k < length entries → (other : A) → T (test (i + k) (get_or entries k other))
pass-from test [] i t k h other = absurd (not-suc-le-zero h)
pass-from test (entry ∷ entries) i t zero h other = rw add-zero (and_left (test i entry) _ t)
pass-from test (entry ∷ entries) i t (suc k) h other =
    rw (add-suc, ← suc-add)
    (pass-from test entries (suc i) (and_right (test i entry) _ t) k (le_of_suc-le-suc h) other)

-- the test at the entry with the place k
pub pass-at {ℓ} : {A : Type ℓ} (test : ℕ → A → Bool) (entries : List A) → T (all_pass test entries) → (k : ℕ) → k < length entries → (other : A) → T (test k (get_or entries k other))
pass-at test entries t k h other = rw zero-add at (pass-from test entries 0 t k h other)

-- what holds of tables of any type, with a test that two of its values are the same
module _
    {ℓ} {A : Type ℓ} (same : A → A → Bool) (is_same : (x y : A) → T (same x y) → x ≡ y)
    (rule : ℕ → A) (table : List A) (passed : T (all_pass (λ k entry. same entry (rule k)) table)) where
  -- every entry is what the rule gives for its place
  pub entry-is-rule : (k : ℕ) → k < length table → (other : A) → get_or table k other ≡ rule k
  entry-is-rule k h other =
      is_same (get_or table k other) (rule k) (pass-at (λ k entry. same entry (rule k)) table passed k h other)

  -- and the table is the rule's list
  pub table-is-rule : table ≡ tabulate (length table) rule
  table-is-rule =
      ext_get_or (rule 0) table (tabulate (length table) rule) (sym (length-tabulate (length table) rule))
      (λ k h. entry-is-rule k h (rule 0) ∙ sym (get_or-tabulate (length table) rule k (rule 0) h))

-- a test of every number below n
pub pass_below : (test : ℕ → Bool) (n : ℕ) → T (all_pass {A = ℕ} (λ k _. test k) (replicate n 0)) → (k : ℕ) → k < n → T (test k)
pass_below test n t k h = pass-at (λ k _. test k) (replicate n 0) t k (rw length-replicate h) 0

-- the law at work
squares-pass : (k : ℕ) → k < 5 → get_or (0 ∷ 1 ∷ 4 ∷ 9 ∷ 16 ∷ []) k 0 ≡ k * k
squares-pass k h = entry-is-rule eqb eqb→eq (λ (m : ℕ). m * m) (0 ∷ 1 ∷ 4 ∷ 9 ∷ 16 ∷ []) tt k h 0
