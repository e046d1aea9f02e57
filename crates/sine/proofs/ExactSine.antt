-- The exact sine: its series takes away no more than it adds, and its decimals at five indices, found by another program.
use mathlib.Core.Path.{◌≡◌, refl}
use mathlib.Core.List.{[], ◌∷◌, map}
use Prim.Native.Nat.{ℕ, ◌+◌, ◌*◌, ◌/◌, ◌^◌, ◌≤◌, ◌<◌}
use native.Mathlib.Omega.{arith}
use lib.Dec.{leb, leb→le, lit<}
use Rattle.sine.specs.Turn.{quarter_turn}
use Rattle.sine.specs.ExactSine.{denominator, term, factorial, added, taken_away, quarter_sine}
use Rattle.algebra.proofs.Computed.{pass_below}

pub denominator-pos : 0 < denominator
unfolding denominator factorial
denominator-pos = lit< tt

pub taken_away-le-added : (m : ℕ) → m ≤ quarter_turn → taken_away m ≤ added m
unfolding added taken_away term factorial
taken_away-le-added m h =
    leb→le (taken_away m) (added m) (pass_below (λ k. leb (taken_away k) (added k)) (quarter_turn + 1) tt m (omega arith))

-- so the difference of the series cuts nothing off
pub quarter_sine-add-taken_away : (m : ℕ) → m ≤ quarter_turn → quarter_sine m + taken_away m ≡ added m
unfolding quarter_sine
quarter_sine-add-taken_away m h = omega (arith, taken_away-le-added m h)

-- the whole part of 10^24 times the exact sine: a term left out, another p or another factorial changes it
pub quarter_sine-decimals :
    map (λ m. 10 ^ 24 * quarter_sine m / denominator) (1 ∷ 100 ∷ 256 ∷ 400 ∷ 512 ∷ [])
    ≡ 3067956762965976269693
    ∷ 302005949319228066960392
    ∷ 707106781186547524319059
    ∷ 941544065183020778355905
    ∷ 1000000000000000001248761
    ∷ []
unfolding denominator factorial quarter_sine added taken_away term
quarter_sine-decimals = refl
