-- A list that is folded from its first place on, as a loop meets it: done at the places before low and at their mirrors.
use mathlib.Core.List.{List}
use mathlib.Core.Logic.{⊎_elim}
use mathlib.Core.Path.{◌≡◌, refl, sym, ap, ◌∙◌, fun_ext}
use Prim.Native.Nat.{ℕ, ◌+◌, ◌-◌, ◌^◌, ◌≤◌, ◌<◌}
use native.Mathlib.Nat.{eq-or-lt_of_le}
use native.Mathlib.Decide.{dec_lt, dec_le}
use native.Mathlib.Omega.{arith}
use lib.IntN.{ℤ, pos, ◌+ℤ◌, ◌-ℤ◌}
use lib.ListN.{length, set, length-set}
use lib.Seq.{get_or-set_same, get_or-set_other}
use mir.Syntax.{w32}
use mir.Val.{to_z, of_z}
use Rattle.std.proofs.lemmas.Int.{ints}
use Rattle.spectral_lines.specs.Folding.{held_by, folded}
use Rattle.folding.specs.Halving.{Bounded}
use Rattle.spectral_lines.proofs.FoldedPlaces.{folded-before, folded_after, folded_low, folded-middle, folded-high}

-- a number of 32 bits, read from them
abbrev read : ℤ → ℤ
read z = to_z w32 (of_z w32 z)

pub record Partly (first last : ℕ) (f : ℕ → ℤ) (low : ℕ) (g : ℕ → ℤ) : Type 0 where
  pub before : (p : ℕ) → p < low → g p ≡ folded first last f p
  pub between : (p : ℕ) → low ≤ p → p + low ≤ first + last → g p ≡ f p
  pub after : (p : ℕ) → first + last < p + low → g p ≡ folded first last f p

module _ (first last : ℕ) (f : ℕ → ℤ) where
  pub partly_none : Partly first last f first f
  partly_none = record {
    before = λ p h. sym (folded-before first last f p h);
    between = λ p g h. refl;
    after = λ p h. sym (folded_after first last f p (omega arith));
  }

  module _ (low : ℕ) where
    abbrev high : ℕ
    high = first + last - low

    -- one pair more
    one_more : (list : List ℤ) (sum difference : ℤ) → first ≤ low → low + low < first + last → last < length list →
        Partly first last f low (held_by list) →
        sum ≡ f low +ℤ f high → difference ≡ f high -ℤ f low →
        Partly first last f (low + 1) (held_by (set (set list low sum) high difference))
    one_more list sum difference from_first apart room so_far s d = record {
      before = λ p h.
          ⊎_elim
          (λ (here : p ≡ low). rw here (at_low ∙ s ∙ sym (folded_low first last f low from_first apart)))
          (λ (l : p < low). other p (λ e. omega arith) (λ e. omega arith) ∙ so_far.before p l)
          (eq-or-lt_of_le (omega arith));
      between = λ p g h. other p (λ e. omega arith) (λ e. omega arith) ∙ so_far.between p (omega arith) (omega arith);
      after = λ p h.
          ⊎_elim
          (λ (here : high ≡ p). rw (← here) (at_high ∙ d ∙ sym (folded-high first last f high (omega arith) (omega arith) ∙ ap (λ q. f high -ℤ f q) mirror)))
          (λ (l : high < p). other p (λ e. omega arith) (λ e. omega arith) ∙ so_far.after p (omega arith))
          (eq-or-lt_of_le (omega arith));
    }
      where
        at_high : held_by (set (set list low sum) high difference) high ≡ difference
        at_high = get_or-set_same (set list low sum) high difference (pos 0) (rw (length-set list low sum) (omega arith))

        at_low : held_by (set (set list low sum) high difference) low ≡ sum
        at_low =
            get_or-set_other (set list low sum) high low difference (pos 0) (λ e. omega arith)
            ∙ get_or-set_same list low sum (pos 0) (omega arith)

        other : (p : ℕ) → (p ≡ low → ⊥) → (p ≡ high → ⊥) → held_by (set (set list low sum) high difference) p ≡ held_by list p
        other p not_low not-high =
            get_or-set_other (set list low sum) high p difference (pos 0) not-high
            ∙ get_or-set_other list low p sum (pos 0) not_low

        mirror : first + last - high ≡ low
        mirror = omega arith

    -- and that as the machine reads the numbers, which are small enough, from their bits
    pub partly_more : (list : List ℤ) → Bounded (2 ^ 29) f → first ≤ low → low + low < first + last → last < length list →
        Partly first last f low (held_by list) →
        let a = read (held_by list low) in
        let b = read (held_by list high) in
        Partly first last f (low + 1) (held_by (set (set list low (read (a +ℤ b))) high (read (b -ℤ a))))
    partly_more list bounded from_first apart room so_far =
        one_more list _ _ from_first apart room so_far
        (omega (arith, ints, a_is, b_is, bounded low, bounded high)) (omega (arith, ints, a_is, b_is, bounded low, bounded high))
      where
        a_is : held_by list low ≡ f low
        a_is = so_far.between low (omega arith) (omega arith)

        b_is : held_by list high ≡ f high
        b_is = so_far.between high (omega arith) (omega arith)

    -- all of them
    pub partly_all : (g : ℕ → ℤ) → first + last ≤ low + low → low ≤ last + 1 → Partly first last f low g → g ≡ folded first last f
    partly_all g met within so_far = fun_ext by_place
      where
        middle : (p : ℕ) → low ≤ p → p + low ≤ first + last → g p ≡ folded first last f p
        middle p from to = so_far.between p from to ∙ sym (folded-middle first last f p (omega arith))

        by_place : (p : ℕ) → g p ≡ folded first last f p
        by_place p = elim (dec_lt p low) [
          | yes h ↦ so_far.before p h
          | no h ↦ elim (dec_le (p + low) (first + last)) [ yes l ↦ middle p (omega arith) l | no l ↦ so_far.after p (omega arith) ]
        ]

pub ruleset folding_steps = (partly_none, partly_more, partly_all)
