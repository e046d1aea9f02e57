-- A condition on the accepted calls of a list is carried to another one, and a row that a book of a list accepts has a known setup.
use mathlib.Core.Path.{◌≡◌, refl}
use mathlib.Core.Bool.{Bool, true, false, cond}
use mathlib.Core.List.{List, [], ◌∷◌, ◌++◌, map, map-id}
use Prim.Native.Nat.{ℕ, ◌+◌}
use Rattle.algebra.specs.Weighted.{Everywhere}
use Rattle.rows.specs.declared.Row.{Row}
use Rattle.rows.specs.Setups.{is_setup}
use Rattle.observation.specs.BookCalls.{accepted_calls, EachAccepted}
use Rattle.observation.proofs.SoundRecord.{accepts-row}
use Rattle.accuracy.specs.CallList.{CallList, accepted}

pub accepted-setup : (list : CallList) (count : ℕ) (row : Row) → accepted list count row ≡ true → is_setup row.setup ≡ true
accepted-setup list count row e = (accepts-row _ count row e).setup-known

-- calls made one by one of others
module _
    {A B : Type 0} (f : A → B) (row_of : B → Row) (P : A → Type 0) (Q : B → Type 0) (taken : ℕ → Row → Bool)
    (carry : (count : ℕ) (call : A) → taken count (row_of (f call)) ≡ true → P call → Q (f call))
  where
    pub each-accepted-map :
        (count : ℕ) (calls : List A) →
        EachAccepted (λ call. row_of (f call)) P taken count calls →
        EachAccepted row_of Q taken count (map f calls)
    unfolding accepted_calls
    each-accepted-map count [] each = tt
    each-accepted-map count (call ∷ calls) each =
        go (taken count (row_of (f call))) refl (each-accepted-map (count + 1) calls) (each-accepted-map count calls) each
      where
        -- those that are accepted after the first, where it is accepted and where it is not
        from : ℕ → List A
        from n = accepted_calls (λ c. row_of (f c)) taken n calls

        made : ℕ → List B
        made n = accepted_calls row_of taken n (map f calls)

        go :
            (accepts : Bool) →
            taken count (row_of (f call)) ≡ accepts →
            (Everywhere P (from (count + 1)) → Everywhere Q (made (count + 1))) →
            (Everywhere P (from count) → Everywhere Q (made count)) →
            Everywhere P (cond accepts (call ∷ from (count + 1)) (from count)) →
            Everywhere Q (cond accepts (f call ∷ made (count + 1)) (made count))
        go true e later same each = (carry count call e each.0, later each.1)
        go false e later same each = same each

-- another condition on the same calls
pub each-accepted-carry :
    {A : Type 0} (row_of : A → Row) (P Q : A → Type 0) (taken : ℕ → Row → Bool) →
    ((count : ℕ) (call : A) → taken count (row_of call) ≡ true → P call → Q call) →
    (count : ℕ) (calls : List A) →
    EachAccepted row_of P taken count calls →
    EachAccepted row_of Q taken count calls
each-accepted-carry row_of P Q taken carry count calls each =
    rw map-id at (each-accepted-map (λ call. call) row_of P Q taken carry count calls each)

-- the same condition on the calls of the front of a list
pub each-accepted-front :
    {A : Type 0} (row_of : A → Row) (P : A → Type 0) (taken : ℕ → Row → Bool) (count : ℕ) (front back : List A) →
    EachAccepted row_of P taken count (front ++ back) →
    EachAccepted row_of P taken count front
unfolding accepted_calls
each-accepted-front row_of P taken count [] back each = tt
each-accepted-front {A = A} row_of P taken count (call ∷ front) back each =
    go (taken count (row_of call))
    (each-accepted-front row_of P taken (count + 1) front back)
    (each-accepted-front row_of P taken count front back)
    each
  where
    from : ℕ → List A → List A
    from n calls = accepted_calls row_of taken n calls

    go :
        (accepts : Bool) →
        (Everywhere P (from (count + 1) (front ++ back)) → Everywhere P (from (count + 1) front)) →
        (Everywhere P (from count (front ++ back)) → Everywhere P (from count front)) →
        Everywhere P (cond accepts (call ∷ from (count + 1) (front ++ back)) (from count (front ++ back))) →
        Everywhere P (cond accepts (call ∷ from (count + 1) front) (from count front))
    go true later same each = (each.0, later each.1)
    go false later same each = same each

-- a condition on every call of a list
pub each-accepted-everywhere :
    {A : Type 0} (row_of : A → Row) (P : A → Type 0) (taken : ℕ → Row → Bool) (count : ℕ) (calls : List A) →
    Everywhere P calls →
    EachAccepted row_of P taken count calls
unfolding accepted_calls
each-accepted-everywhere row_of P taken count [] every = tt
each-accepted-everywhere {A = A} row_of P taken count (call ∷ calls) every =
    go (taken count (row_of call))
    (each-accepted-everywhere row_of P taken (count + 1) calls every.1)
    (each-accepted-everywhere row_of P taken count calls every.1)
  where
    from : ℕ → List A
    from n = accepted_calls row_of taken n calls

    go :
        (accepts : Bool) → Everywhere P (from (count + 1)) → Everywhere P (from count) →
        Everywhere P (cond accepts (call ∷ from (count + 1)) (from count))
    go true later same = (every.0, later)
    go false later same = same
