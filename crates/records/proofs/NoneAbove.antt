-- `none_above` of a list, in terms of its places.
use mathlib.Core.Path.{◌≡◌, ap}
use mathlib.Core.Bool.{Bool, true, false, not, ◌||◌}
use mathlib.Core.List.{List, [], ◌∷◌}
use Prim.Native.Nat.{ℕ, zero, suc, ◌<◌, ◌≤◌}
use native.Mathlib.Omega.{arith}
use borrow.Author.Tests.{not-true, ltb-false, le-ltb}
use lib.Dec.{ltb}
use lib.ListN.{length, get_or}
use Rattle.algebra.specs.Lists.{tabulate}
use Rattle.std.specs.List.{list_any}
use Rattle.algebra.proofs.Lists.{length-tabulate, get_or-tabulate, list_any-none, list_any-false}
use Rattle.records.specs.Soundness.{none_above}

-- no number at any place is above the limit; past the end the places hold 0
pub get_or-le-of-none-above : (limit : ℕ) (values : List ℕ) (i : ℕ) → none_above limit values ≡ true → get_or values i 0 ≤ limit
unfolding none_above
get_or-le-of-none-above limit [] i e = omega arith
get_or-le-of-none-above limit (x ∷ xs) zero e =
    ltb-false limit x (list_any-none (ltb limit) (x ∷ xs) 0 0 (not-true _ e) (omega arith))
get_or-le-of-none-above limit (x ∷ xs) (suc i) e = get_or-le-of-none-above limit xs i (rest (ltb limit x) (list_any (ltb limit) xs) e)
  where
    rest : (a b : Bool) → not (a || b) ≡ true → not b ≡ true
    rest true b p = absurd (mathlib.Core.Bool.true≢false (mathlib.Core.Path.sym p))
    rest false b p = p

pub none-above-of-get_or-le : (limit : ℕ) (values : List ℕ) → ((i : ℕ) → i < length values → get_or values i 0 ≤ limit) → none_above limit values ≡ true
unfolding none_above
none-above-of-get_or-le limit values h =
    ap not (list_any-false (ltb limit) values 0 (λ i inside. le-ltb limit (get_or values i 0) (h i inside)))

pub none-above-tabulate : (limit n : ℕ) (f : ℕ → ℕ) → ((i : ℕ) → i < n → f i ≤ limit) → none_above limit (tabulate n f) ≡ true
none-above-tabulate limit n f h =
    none-above-of-get_or-le limit (tabulate n f)
    (λ i l.
    let inside : i < n = rw (length-tabulate n f) at l in
    rw (get_or-tabulate n f i 0 inside) (h i inside))
