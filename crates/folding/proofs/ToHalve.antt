-- What is left to be halved, and that each halving leaves less.
use mathlib.Core.Path.{◌≡◌, refl, ap, ◌∙◌}
use Prim.Native.Nat.{ℕ, zero, suc, ◌-◌, ◌*◌, ◌/◌, ◌^◌, ◌≤◌, ◌<◌}
use native.Mathlib.Nat.{mul-le-mul_left, lt_irrefl, pow-succ'}
use native.Mathlib.Omega.{arith}
use mathlib.Core.List.{List}
use lib.IntN.{ℤ, nat_abs}
use lib.Pow.{pow_pos}
use Rattle.windows.specs.Window.{largest_sample}
use Rattle.spectral_lines.specs.Folding.{held_by, folded}
use Rattle.folding.specs.Halving.{Bounded, largest_folded, halved, halved_from}
use Rattle.folding.proofs.FoldedBounds.{bounded-same, folded-bounded, halved-bounded}

-- numbers f that are still to be halved at a reach, on the way from g
pub record ToHalve (g : ℕ → ℤ) (reach : ℕ) (f : ℕ → ℤ) : Type 0 where
  pub some : 1 ≤ reach
  pub most : reach ≤ 1024
  pub power : ℕ
  pub is-power : reach ≡ 2 ^ power
  pub whole : halved_from power f ≡ halved_from 10 g
  pub bound : ℕ
  pub bounded : Bounded bound f
  pub small : bound * reach ≤ largest_folded

module _ (g : ℕ → ℤ) (reach : ℕ) (f : ℕ → ℤ) where
  bound-le : (left : ToHalve g reach f) → left.bound ≤ largest_folded
  bound-le left = omega (arith, left.small, mul-le-mul_left left.bound left.some)

  -- the numbers stay small enough to be folded, before a halving
  pub small-before : (p : ℕ) → ToHalve g reach f → nat_abs (f p) ≤ 2 ^ 29
  small-before p left = omega (arith, left.bounded p, bound-le left)

  -- and between its two foldings
  pub small-between : (list : List ℤ) (p : ℕ) → held_by list ≡ folded 0 reach f → ToHalve g reach f → nat_abs (held_by list p) ≤ 2 ^ 29
  small-between list p same left =
      bounded-same (2 ^ 29) (held_by list) (folded 0 reach f) same (λ q. omega (arith, folded-bounded 0 reach left.bound f left.bounded q, bound-le left)) p

  -- one halving
  pub halved-once : ToHalve g reach f → 1 < reach → ToHalve g (reach / 2) (folded (2049 - reach) 2047 (folded 0 reach f))
  unfolding halved_from halved
  halved-once left more = go left.power left.is-power left.whole
    where
      go : (d : ℕ) → reach ≡ 2 ^ d → halved_from d f ≡ halved_from 10 g → ToHalve g (reach / 2) (folded (2049 - reach) 2047 (folded 0 reach f))
      go zero is-power whole = absurd (lt_irrefl 1 (rw is-power at more))
      go (suc d) is-power whole =
          let twice : reach ≡ 2 * 2 ^ d = is-power ∙ pow-succ' 2 d in
          let half : reach / 2 ≡ 2 ^ d = omega (arith, twice) in
          let least : 1 ≤ 2 ^ d = pow_pos d in
          let power_le : 2 ^ d ≤ 512 = omega (arith, twice, left.most) in
          let product : left.bound * reach ≡ left.bound * (2 * 2 ^ d) = ap (λ n. left.bound * n) twice in
          record {
            some = omega (arith, half, least);
            most = omega (arith, left.most);
            power = d;
            is-power = half;
            whole = rw twice whole;
            bound = 2 * left.bound;
            bounded = rw twice (halved-bounded (2 ^ d) least power_le left.bound f left.bounded);
            small = rw half (omega (arith, left.small, product));
          }

  -- and that between the lists that its two foldings leave
  pub one_halving : (between after : List ℤ) → held_by between ≡ folded 0 reach f → held_by after ≡ folded (2049 - reach) 2047 (held_by between) →
      1 < reach → ToHalve g reach f → ToHalve g (reach / 2) (held_by after)
  one_halving between after first then more left = rw (then, first) (halved-once left more)

  -- the last one is done
  pub all-halved : reach ≤ 1 → ToHalve g reach f → f ≡ halved_from 10 g
  unfolding halved_from
  all-halved last left = go left.power left.is-power left.whole
    where
      go : (d : ℕ) → reach ≡ 2 ^ d → halved_from d f ≡ halved_from 10 g → f ≡ halved_from 10 g
      go zero is-power whole = whole
      go (suc d) is-power whole = absurd (omega (arith, is-power ∙ pow-succ' 2 d, pow_pos d, last))

pub none-halved : (f : ℕ → ℤ) → Bounded (2 * largest_sample) f → ToHalve f 1024 f
none-halved f bounded = record {
  some = omega arith;
  most = omega arith;
  power = 10;
  is-power = refl;
  whole = refl;
  bound = 2 * largest_sample;
  bounded = bounded;
  small = omega arith;
}

-- what the loop's proof cites
pub ruleset halving_steps = (none-halved, one_halving)
