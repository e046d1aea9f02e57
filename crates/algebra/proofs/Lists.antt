-- Laws of `tabulate` and `list_any`, in the form that a loop over a list's places uses: what is filled is the front of the definition's list, and the test over the rest is the test over the whole.
use mathlib.Core.Path.{◌≡◌, refl, sym, ap, ap₂, ◌∙◌}
use mathlib.Core.Logic.{⊎_elim}
use mathlib.Core.Bool.{Bool, true, false, ◌||◌}
use mathlib.Core.List.{List, [], ◌∷◌, ◌++◌, append_assoc, append-nil}
use Prim.Native.Nat.{ℕ, zero, suc, min, ◌+◌, ◌<◌, ◌≤◌}
use native.Mathlib.Numerals.{add-one}
use native.Mathlib.Nat.{eq-or-lt_of_le, le_of_suc-le-suc, not-suc-le-zero}
use native.Mathlib.Decide.{dec_lt}
use native.Mathlib.Omega.{arith}
use lib.ListN.{length, get_or, take, drop, set, replicate, length-append, length-drop, length-replicate, get_or-replicate, drop_of_length-le, get_or-append, get_or-eq_default}
use lib.Seq.{take_all, take-length, drop-cons, drop-length, get_or_at, set_at, length-take-le, get_or-take, get_or-drop, ext_get_or}
use Rattle.algebra.specs.Lists.{tabulate}
use Rattle.std.specs.List.{list_any}

module _ {ℓ} {A : Type ℓ} where
  pub length-tabulate : (n : ℕ) (f : ℕ → A) → length (tabulate n f) ≡ n
  unfolding tabulate
  length-tabulate zero f = refl
  length-tabulate (suc n) f = simp (length-append, length-tabulate n f) (add-one n)

  pub get_or-tabulate : (n : ℕ) (f : ℕ → A) (i : ℕ) (d : A) → i < n → get_or (tabulate n f) i d ≡ f i
  unfolding tabulate
  get_or-tabulate zero f i d h = absurd (not-suc-le-zero h)
  get_or-tabulate (suc n) f i d h =
      ⊎_elim
      (λ (e : i ≡ n). rw e (get_or_at (tabulate n f) (f n) [] d n (length-tabulate n f)))
      (λ (l : i < n).
      get_or-append (tabulate n f) (f n ∷ []) d i (rw (length-tabulate n f) l) ∙ get_or-tabulate n f i d l)
      (eq-or-lt_of_le (le_of_suc-le-suc h))

  -- the entry after a front of n entries is written
  pub set-tabulate : (n : ℕ) (f : ℕ → A) (y : A) (ys : List A) → set (tabulate n f ++ y ∷ ys) n (f n) ≡ tabulate (n + 1) f ++ ys
  unfolding tabulate
  set-tabulate n f y ys =
      rw (add-one n)
      (set_at (tabulate n f) y ys (f n) n (length-tabulate n f) ∙ sym (append_assoc (tabulate n f) (f n ∷ []) ys))

  -- the same of a list l that has room: the front of n entries, then l from n on
  pub fill-tabulate : (n : ℕ) (f : ℕ → A) (l : List A) → n < length l → set (tabulate n f ++ drop n l) n (f n) ≡ tabulate (n + 1) f ++ drop (n + 1) l
  fill-tabulate n f l h =
      rw (drop-cons l n (f n) h, add-one n) (rw (add-one n) at (set-tabulate n f (get_or l n (f n)) (drop (suc n) l)))

  -- a front of as many entries as the list has is the whole
  pub filled-tabulate : (n : ℕ) (f : ℕ → A) (l : List A) → length l ≡ n → tabulate n f ++ drop n l ≡ tabulate n f
  filled-tabulate n f l e = rw (← e, drop-length l) (append-nil (tabulate (length l) f))

  -- a list has no more than its length to take, and none past it to leave out
  pub take_min : (n : ℕ) (l : List A) → take (min n (length l)) l ≡ take n l
  take_min n l = by_length (dec_lt n (length l))
    where
      by_length : Dec (n < length l) → take (min n (length l)) l ≡ take n l
      by_length (yes h) = let cut : min n (length l) ≡ n = omega arith in rw cut
      by_length (no f) =
          let cut : min n (length l) ≡ length l = omega arith in
          rw (cut, take-length l, take_all n l (omega arith))

  pub drop_min : (n : ℕ) (l : List A) → drop (min n (length l)) l ≡ drop n l
  drop_min n l = by_length (dec_lt n (length l))
    where
      by_length : Dec (n < length l) → drop (min n (length l)) l ≡ drop n l
      by_length (yes h) = let cut : min n (length l) ≡ n = omega arith in rw cut
      by_length (no f) =
          let cut : min n (length l) ≡ length l = omega arith in
          rw (cut, drop-length l) (sym (drop_of_length-le l {i = n} (omega arith)))

module _ {A : Type 0} where
  -- a test that fails at place i has the same answer from i + 1 on
  pub list_any-drop : (passes : A → Bool) (l : List A) (i : ℕ) (d : A) → i < length l → passes (get_or l i d) ≡ false → list_any passes (drop (i + 1) l) ≡ list_any passes (drop i l)
  list_any-drop passes l i d h e = rw (add-one i, drop-cons l i d h, e)

  -- a test that passes at place i passes
  pub list_any-here : (passes : A → Bool) (l : List A) (i : ℕ) (d : A) → i < length l → passes (get_or l i d) ≡ true → list_any passes (drop i l) ≡ true
  list_any-here passes l i d h e = rw (drop-cons l i d h, e)

  pub list_any-end : (passes : A → Bool) (l : List A) → list_any passes (drop (length l) l) ≡ false
  list_any-end passes l = rw (drop-length l)

  -- where no element passes, none at any place does
  pub list_any-none : (passes : A → Bool) (l : List A) (i : ℕ) (d : A) → list_any passes l ≡ false → i < length l → passes (get_or l i d) ≡ false
  list_any-none passes [] i d e h = absurd (not-suc-le-zero h)
  list_any-none passes (x ∷ xs) zero d e h = first (passes x) (list_any passes xs) e
    where
      first : (a b : Bool) → (a || b) ≡ false → a ≡ false
      first true b p = p
      first false b p = refl
  list_any-none passes (x ∷ xs) (suc i) d e h = list_any-none passes xs i d (rest (passes x) (list_any passes xs) e) (le_of_suc-le-suc h)
    where
      rest : (a b : Bool) → (a || b) ≡ false → b ≡ false
      rest true b p = absurd (mathlib.Core.Bool.true≢false p)
      rest false b p = p

  -- and where none at any place does, no element passes
  pub list_any-false : (passes : A → Bool) (l : List A) (d : A) → ((i : ℕ) → i < length l → passes (get_or l i d) ≡ false) → list_any passes l ≡ false
  list_any-false passes [] d e = refl
  list_any-false passes (x ∷ xs) d e = rw (e 0 (omega arith)) (list_any-false passes xs d (λ i h. e (suc i) (omega arith)))

-- no entry above m, also none past the end
pub get_or-tabulate-le : (n : ℕ) (f : ℕ → ℕ) (m : ℕ) → ((i : ℕ) → i < n → f i ≤ m) → (i : ℕ) → get_or (tabulate n f) i 0 ≤ m
get_or-tabulate-le n f m h i = by_place (dec_lt i n)
  where
    by_place : Dec (i < n) → get_or (tabulate n f) i 0 ≤ m
    by_place (yes inside) = rw (get_or-tabulate n f i 0 inside) (h i inside)
    by_place (no outside) =
        let past : length (tabulate n f) ≤ i = rw (length-tabulate n f) (omega arith) in
        let none : get_or (tabulate n f) i 0 ≡ 0 = get_or-eq_default (tabulate n f) 0 past in
        omega (arith, none)

-- equal entries
pub tabulate-eq : {A : Type 0} (n : ℕ) (f g : ℕ → A) → ((i : ℕ) → i < n → f i ≡ g i) → tabulate n f ≡ tabulate n g
unfolding tabulate
tabulate-eq zero f g equal = refl
tabulate-eq (suc n) f g equal =
    ap₂ (λ front last. front ++ (last ∷ [])) (tabulate-eq n f g (λ i inside. equal i (omega arith))) (equal n (omega arith))

-- the last entry after those before it
pub tabulate-last : {A : Type 0} (n : ℕ) (f : ℕ → A) → tabulate (suc n) f ≡ tabulate n f ++ (f n ∷ [])
unfolding tabulate
tabulate-last n f = refl

-- the first entry, and those after it
pub tabulate-first : {A : Type 0} (n : ℕ) (f : ℕ → A) → tabulate (suc n) f ≡ f 0 ∷ tabulate n (λ i. f (suc i))
unfolding tabulate
tabulate-first zero f = refl
tabulate-first (suc n) f = ap (λ front. front ++ (f (suc n) ∷ [])) (tabulate-first n f)

-- the same entry at every place
pub tabulate-same : {A : Type 0} (n : ℕ) (f : ℕ → A) (x : A) → ((i : ℕ) → i < n → f i ≡ x) → tabulate n f ≡ replicate n x
tabulate-same n f x same =
    let long = length-tabulate n f in
    ext_get_or x _ _ (long ∙ sym (length-replicate n x))
    (λ i h.
    let inside : i < n = rw long at h in
    get_or-tabulate n f i x inside ∙ same i inside ∙ sym (get_or-replicate n i x x inside))

-- a part of a list, place by place
pub tabulate-part : (l : List ℕ) (start n : ℕ) → start + n ≤ length l → tabulate n (λ j. get_or l (start + j) 0) ≡ take n (drop start l)
tabulate-part l start n room =
    let fits : n ≤ length (drop start l) = simp length-drop (omega arith) in
    let long : length (tabulate n (λ j. get_or l (start + j) 0)) ≡ n = length-tabulate n (λ j. get_or l (start + j) 0) in
    ext_get_or 0 _ _ (long ∙ sym (length-take-le n (drop start l) fits))
    (λ j inside.
    let below : j < n = rw long at inside in
    get_or-tabulate n (λ j. get_or l (start + j) 0) j 0 below ∙
    sym (get_or-take n (drop start l) j 0 below ∙ get_or-drop start l j 0))

-- the whole of it
pub tabulate-whole : {A : Type 0} (d : A) (l : List A) (n : ℕ) → length l ≡ n → tabulate n (λ j. get_or l j d) ≡ l
tabulate-whole d l n e =
    let long = length-tabulate n (λ j. get_or l j d) in
    ext_get_or d _ _ (long ∙ sym e) (λ j h. get_or-tabulate n (λ j. get_or l j d) j d (rw long at h))
