-- A list that is filled from the front with the entries of `tabulate`, as a loop over its places meets it.
use mathlib.Core.Path.{◌≡◌, ◌∙◌}
use mathlib.Core.List.{List, ◌++◌}
use Prim.Native.Nat.{ℕ, ◌+◌, ◌<◌}
use native.Mathlib.Nat.{add-zero}
use lib.ListN.{length, get_or, drop, set}
use lib.Seq.{get_or-append-add, get_or-drop}
use Rattle.algebra.specs.Lists.{tabulate}
use Rattle.algebra.proofs.Lists.{length-tabulate, fill-tabulate, filled-tabulate}

-- the first n entries of f, and the rest of l
abbrev pub Filled {ℓ} : {A : Type ℓ} → ℕ → (ℕ → A) → List A → List A → Type ℓ
Filled n f l filled = filled ≡ tabulate n f ++ drop n l

module _ {ℓ} {A : Type ℓ} (n : ℕ) (f : ℕ → A) (l filled : List A) (so_far : Filled n f l filled) where
  -- the entry at n is still that of l
  pub filled_next : (d : A) → get_or filled n d ≡ get_or l n d
  filled_next d =
      let start : length (tabulate n f) + 0 ≡ n = add-zero _ ∙ length-tabulate n f in
      let rest : n + 0 ≡ n = add-zero n in
      rw so_far
      (rw start at (get_or-append-add (tabulate n f) (drop n l) 0 d) ∙ (get_or-drop n l 0 d ∙ rw rest))

  pub filled_more : (v : A) → n < length l → v ≡ f n → Filled (n + 1) f l (set filled n v)
  filled_more v room e = rw (so_far, e) (fill-tabulate n f l room)

  pub filled-whole : length l ≡ n → filled ≡ tabulate n f
  filled-whole e = so_far ∙ filled-tabulate n f l e
