-- Identities of ℤ as a commutative ring, proved by computing.
-- An expression over variables is brought to a sum of monomials, the monomials in order and each once; two expressions are equal
-- at every choice of the variables if every coefficient of their difference is 0. The use: `ring left right tt (a ∷ b ∷ [])`,
-- where variable 0 is a and variable 1 is b. A false identity leaves a coefficient, and then `tt` is refused.
use mathlib.Core.Path.{◌≡◌, refl, sym, ◌∙◌, ap, ap₂}
use mathlib.Core.Bool.{Bool, true, false, cond}
use mathlib.Core.List.{List, [], ◌∷◌}
use Prim.Native.Nat.{ℕ, zero, suc, compare, Ordering}
use lib.Dec.{T, leb, eqb, compare_is_eq, eqb→eq}
use lib.IntN.{ℤ, pos, negsuc, neg_ℤ, ◌+ℤ◌, ◌-ℤ◌, ◌*ℤ◌, +ℤ_assoc, +ℤ_comm, +ℤ_idl, +ℤ_idr, zero-*ℤ, *ℤ-zero, *ℤ_comm, -ℤ-+ℤ_cancel}
use Rattle.algebra.proofs.Integer.{one-*ℤ, negℤ-*ℤ, +ℤ-*ℤ, *ℤ-+ℤ, *ℤ-assoc}

-- ---- expressions and their values

infixl 6 ◌⊕◌ ◌⊖◌
infixl 7 ◌⊗◌
infix 8 ⊝◌
pub data Expression : Type 0 where
  variable : ℕ → Expression
  constant : ℤ → Expression
  ◌⊕◌ : Expression → Expression → Expression
  ◌⊗◌ : Expression → Expression → Expression
  ⊝◌ : Expression → Expression

abbrev pub ◌⊖◌ : Expression → Expression → Expression
a ⊖ b = a ⊕ ⊝ b

-- the value of a variable: its place in the list
abbrev pub lookup : List ℤ → ℕ → ℤ
lookup [] i = pos 0
lookup (z ∷ zs) zero = z
lookup (z ∷ zs) (suc i) = lookup zs i

abbrev pub value : List ℤ → Expression → ℤ
value zs (variable i) = lookup zs i
value zs (constant k) = k
value zs (a ⊕ b) = value zs a +ℤ value zs b
value zs (a ⊗ b) = value zs a *ℤ value zs b
value zs (⊝ a) = neg_ℤ (value zs a)

-- ---- sums of monomials. A monomial is the sorted list of its variables, one entry for each power.

pub data Terms : Type 0 where
  none : Terms
  term : ℤ → List ℕ → Terms → Terms

-- one more factor
abbrev pub with_factor : ℕ → List ℕ → List ℕ
with_factor i [] = i ∷ []
with_factor i (j ∷ m) = let later = with_factor i m in cond (leb i j) (i ∷ j ∷ m) (j ∷ later)

-- the product of two monomials
abbrev pub factors : List ℕ → List ℕ → List ℕ
factors [] n = n
factors (i ∷ m) n = with_factor i (factors m n)

-- the order of monomials: that of the first variables that differ
abbrev pub first : Ordering → Ordering → Ordering
first Ordering.lt o = Ordering.lt
first Ordering.eq o = o
first Ordering.gt o = Ordering.gt

abbrev pub order : List ℕ → List ℕ → Ordering
order [] [] = Ordering.eq
order [] (j ∷ n) = Ordering.lt
order (i ∷ m) [] = Ordering.gt
order (i ∷ m) (j ∷ n) = first (compare i j) (order m n)

-- c times the monomial m, put before, into or behind the first of the terms
abbrev pub place_term : Ordering → ℤ → List ℕ → ℤ → List ℕ → Terms → Terms → Terms
place_term Ordering.lt c m d n t later = term c m (term d n t)
place_term Ordering.eq c m d n t later = term (c +ℤ d) m t
place_term Ordering.gt c m d n t later = later

abbrev pub add_term : ℤ → List ℕ → Terms → Terms
add_term c m none = term c m none
add_term c m (term d n t) = let later = term d n (add_term c m t) in place_term (order m n) c m d n t later

-- c times the monomial m times the first terms, and the second
abbrev pub add_multiple : ℤ → List ℕ → Terms → Terms → Terms
add_multiple c m none u = u
add_multiple c m (term d n t) u = add_term (c *ℤ d) (factors m n) (add_multiple c m t u)

abbrev pub product : Terms → Terms → Terms
product none u = none
product (term c m t) u = add_multiple c m u (product t u)

abbrev pub expanded : Expression → Terms
expanded (variable i) = term (pos 1) (i ∷ []) none
expanded (constant k) = term k [] none
expanded (a ⊕ b) = add_multiple (pos 1) [] (expanded b) (expanded a)
expanded (a ⊗ b) = product (expanded a) (expanded b)
expanded (⊝ a) = add_multiple (negsuc 0) [] (expanded a) none

abbrev pub is_zero : ℤ → Bool
is_zero (pos n) = eqb n 0
is_zero (negsuc n) = false

-- every coefficient is 0
abbrev pub vanishes : Terms → Bool
vanishes none = true
vanishes (term c m t) = cond (is_zero c) (vanishes t) false

-- ---- expanding keeps the value

+ℤ-left-comm : (a b c : ℤ) → a +ℤ (b +ℤ c) ≡ b +ℤ (a +ℤ c)
+ℤ-left-comm a b c = sym (+ℤ_assoc a b c) ∙ ap (λ x. x +ℤ c) (+ℤ_comm a b) ∙ +ℤ_assoc b a c

*ℤ-left-comm : (a b c : ℤ) → a *ℤ (b *ℤ c) ≡ b *ℤ (a *ℤ c)
*ℤ-left-comm a b c = sym (*ℤ-assoc a b c) ∙ ap (λ x. x *ℤ c) (*ℤ_comm a b) ∙ *ℤ-assoc b a c

-- the term c · m times the terms d · n + t, and u
term-times-terms : (c d m n t u : ℤ) → c *ℤ d *ℤ (m *ℤ n) +ℤ (c *ℤ m *ℤ t +ℤ u) ≡ c *ℤ m *ℤ (d *ℤ n +ℤ t) +ℤ u
term-times-terms c d m n t u = simp (*ℤ-+ℤ, +ℤ_assoc, *ℤ-assoc, *ℤ-left-comm)

order-eq : (m n : List ℕ) → T (compare_is_eq (order m n)) → m ≡ n
order-eq [] [] t = refl
order-eq [] (j ∷ n) t = absurd t
order-eq (i ∷ m) [] t = absurd t
order-eq (i ∷ m) (j ∷ n) t = ap₂ ◌∷◌ (eqb→eq i j (both (compare i j) (order m n) t).0) (order-eq m n (both (compare i j) (order m n) t).1)
  where
    both : (o p : Ordering) → T (compare_is_eq (first o p)) → T (compare_is_eq o) × T (compare_is_eq p)
    both Ordering.lt p t = absurd t
    both Ordering.eq p t = (tt, t)
    both Ordering.gt p t = absurd t

module _ (zs : List ℤ) where
  monomial : List ℕ → ℤ
  monomial [] = pos 1
  monomial (i ∷ m) = lookup zs i *ℤ monomial m

  sum : Terms → ℤ
  sum none = pos 0
  sum (term c m t) = c *ℤ monomial m +ℤ sum t

  with_factor-value : (i : ℕ) (m : List ℕ) → monomial (with_factor i m) ≡ lookup zs i *ℤ monomial m
  unfolding monomial
  with_factor-value i [] = refl
  with_factor-value i (j ∷ m) = go (leb i j) (with_factor-value i m)
    where
      go : (before : Bool) → monomial (with_factor i m) ≡ lookup zs i *ℤ monomial m → monomial (cond before (i ∷ j ∷ m) (j ∷ with_factor i m)) ≡ lookup zs i *ℤ (lookup zs j *ℤ monomial m)
      go true h = refl
      go false h = ap (λ x. lookup zs j *ℤ x) h ∙ *ℤ-left-comm (lookup zs j) (lookup zs i) (monomial m)

  factors-value : (m n : List ℕ) → monomial (factors m n) ≡ monomial m *ℤ monomial n
  unfolding monomial
  factors-value [] n = sym (one-*ℤ (monomial n))
  factors-value (i ∷ m) n = with_factor-value i (factors m n) ∙ ap (λ x. lookup zs i *ℤ x) (factors-value m n) ∙ sym (*ℤ-assoc (lookup zs i) (monomial m) (monomial n))

  add_term-value : (c : ℤ) (m : List ℕ) (t : Terms) → sum (add_term c m t) ≡ c *ℤ monomial m +ℤ sum t
  unfolding sum
  add_term-value c m none = refl
  add_term-value c m (term d n t) = go (order m n) (λ e. ap monomial (order-eq m n e)) (add_term-value c m t)
    where
      go :
          (o : Ordering) → (T (compare_is_eq o) → monomial m ≡ monomial n) → sum (add_term c m t) ≡ c *ℤ monomial m +ℤ sum t →
          sum (place_term o c m d n t (term d n (add_term c m t))) ≡ c *ℤ monomial m +ℤ (d *ℤ monomial n +ℤ sum t)
      go Ordering.lt e h = refl
      go Ordering.eq e h = ap (λ x. x +ℤ sum t) (+ℤ-*ℤ c d (monomial m) ∙ ap (λ x. c *ℤ monomial m +ℤ d *ℤ x) (e tt)) ∙ +ℤ_assoc (c *ℤ monomial m) (d *ℤ monomial n) (sum t)
      go Ordering.gt e h = ap (λ x. d *ℤ monomial n +ℤ x) h ∙ +ℤ-left-comm (d *ℤ monomial n) (c *ℤ monomial m) (sum t)

  add_multiple-value : (c : ℤ) (m : List ℕ) (t u : Terms) → sum (add_multiple c m t u) ≡ c *ℤ monomial m *ℤ sum t +ℤ sum u
  unfolding sum
  add_multiple-value c m none u = sym (ap (λ x. x +ℤ sum u) (*ℤ-zero (c *ℤ monomial m)) ∙ +ℤ_idl (sum u))
  add_multiple-value c m (term d n t) u =
      add_term-value (c *ℤ d) (factors m n) (add_multiple c m t u)
      ∙ ap₂ (λ x y. c *ℤ d *ℤ x +ℤ y) (factors-value m n) (add_multiple-value c m t u)
      ∙ term-times-terms c d (monomial m) (monomial n) (sum t) (sum u)

  product_value : (t u : Terms) → sum (product t u) ≡ sum t *ℤ sum u
  unfolding sum
  product_value none u = sym (zero-*ℤ (sum u))
  product_value (term c m t) u =
      add_multiple-value c m u (product t u)
      ∙ ap (λ x. c *ℤ monomial m *ℤ sum u +ℤ x) (product_value t u)
      ∙ sym (+ℤ-*ℤ (c *ℤ monomial m) (sum t) (sum u))

  expanded-value : (e : Expression) → sum (expanded e) ≡ value zs e
  unfolding sum monomial
  expanded-value (variable i) = simp (+ℤ_idr, one-*ℤ, *ℤ_comm)
  expanded-value (constant k) = +ℤ_idr (k *ℤ pos 1) ∙ *ℤ_comm k (pos 1) ∙ one-*ℤ k
  expanded-value (a ⊕ b) =
      add_multiple-value (pos 1) [] (expanded b) (expanded a)
      ∙ ap₂ (λ x y. x +ℤ y) (one-*ℤ (sum (expanded b)) ∙ expanded-value b) (expanded-value a)
      ∙ +ℤ_comm (value zs b) (value zs a)
  expanded-value (a ⊗ b) = product_value (expanded a) (expanded b) ∙ ap₂ (λ x y. x *ℤ y) (expanded-value a) (expanded-value b)
  expanded-value (⊝ a) =
      add_multiple-value (negsuc 0) [] (expanded a) none
      ∙ +ℤ_idr (negsuc 0 *ℤ sum (expanded a))
      ∙ negℤ-*ℤ (pos 1) (sum (expanded a))
      ∙ ap neg_ℤ (one-*ℤ (sum (expanded a)) ∙ expanded-value a)

  vanishes-value : (t : Terms) → T (vanishes t) → sum t ≡ pos 0
  unfolding sum
  vanishes-value none v = refl
  vanishes-value (term c m t) v = go c v (vanishes-value t)
    where
      both : (b d : Bool) → T (cond b d false) → T b × T d
      both true d v = (tt, v)
      both false d v = absurd v

      go : (c : ℤ) → T (cond (is_zero c) (vanishes t) false) → (T (vanishes t) → sum t ≡ pos 0) → c *ℤ monomial m +ℤ sum t ≡ pos 0
      go (pos n) v h = ap₂ (λ x y. pos x *ℤ monomial m +ℤ y) (eqb→eq n 0 (both (eqb n 0) (vanishes t) v).0) (h (both (eqb n 0) (vanishes t) v).1) ∙ +ℤ_idr (pos 0 *ℤ monomial m) ∙ zero-*ℤ (monomial m)
      go (negsuc n) v h = absurd v

-- THE THEOREM. Two expressions whose difference expands to nothing have the same value at every list of integers.
pub ring : (left right : Expression) → T (vanishes (expanded (left ⊖ right))) → (zs : List ℤ) → value zs left ≡ value zs right
ring left right v zs =
    sym (-ℤ-+ℤ_cancel (value zs left) (value zs right))
    ∙ ap (λ x. x +ℤ value zs right) (sym (expanded-value zs (left ⊖ right)) ∙ vanishes-value zs (expanded (left ⊖ right)) v)
    ∙ +ℤ_idl (value zs right)

-- ---- worked identities

sum-times-difference : (a b : ℤ) → (a +ℤ b) *ℤ (a -ℤ b) ≡ a *ℤ a -ℤ b *ℤ b
sum-times-difference a b =
    let x = variable 0 in let y = variable 1 in
    ring ((x ⊕ y) ⊗ (x ⊖ y)) (x ⊗ x ⊖ y ⊗ y) tt (a ∷ b ∷ [])

-- Lagrange's identity: two squares' sum times two squares' sum is the sum of two squares
two-squares-times-two-squares : (a b c d : ℤ) → (a *ℤ a +ℤ b *ℤ b) *ℤ (c *ℤ c +ℤ d *ℤ d) ≡ (a *ℤ c -ℤ b *ℤ d) *ℤ (a *ℤ c -ℤ b *ℤ d) +ℤ (a *ℤ d +ℤ b *ℤ c) *ℤ (a *ℤ d +ℤ b *ℤ c)
two-squares-times-two-squares a b c d =
    let x = variable 0 in let y = variable 1 in let z = variable 2 in let t = variable 3 in
    let left = (x ⊗ x ⊕ y ⊗ y) ⊗ (z ⊗ z ⊕ t ⊗ t) in
    let right = (x ⊗ z ⊖ y ⊗ t) ⊗ (x ⊗ z ⊖ y ⊗ t) ⊕ (x ⊗ t ⊕ y ⊗ z) ⊗ (x ⊗ t ⊕ y ⊗ z) in
    ring left right tt (a ∷ b ∷ c ∷ d ∷ [])

-- a constant, a negation, and degree 6
cube-of-negated-square : (a : ℤ) → (pos 2 -ℤ a *ℤ a) *ℤ (pos 2 -ℤ a *ℤ a) *ℤ (pos 2 -ℤ a *ℤ a) ≡ pos 8 -ℤ pos 12 *ℤ (a *ℤ a) +ℤ pos 6 *ℤ (a *ℤ a *ℤ (a *ℤ a)) +ℤ neg_ℤ (a *ℤ a) *ℤ (a *ℤ a) *ℤ (a *ℤ a)
cube-of-negated-square a =
    let s = variable 0 ⊗ variable 0 in
    let d = constant (pos 2) ⊖ s in
    let right = constant (pos 8) ⊖ constant (pos 12) ⊗ s ⊕ constant (pos 6) ⊗ (s ⊗ s) ⊕ ⊝ s ⊗ s ⊗ s in
    ring (d ⊗ d ⊗ d) right tt (a ∷ [])
