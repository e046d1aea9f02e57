-- The two comparisons with the ends of the range are one test of the absolute value.
use mathlib.Core.Bool.{Bool, true, false, ◌||◌}
use mathlib.Core.Path.{◌≡◌, refl, ◌∙◌}
use Prim.Native.Nat.{suc}
use native.Mathlib.Omega.{arith}
use lib.Dec.{ltb}
use lib.IntN.{ℤ, pos, negsuc}
use lib.Signed.{lt_z}
use Rattle.algebra.proofs.Tests.{ltb-same}
use Rattle.windows.specs.Window.{largest_sample, out_of_range}

or-false : (b : Bool) → (b || false) ≡ b
or-false true = refl
or-false false = refl

pub out_of_range-ends : (z : ℤ) → (lt_z z (negsuc 131070) || lt_z (pos largest_sample) z) ≡ out_of_range z
unfolding out_of_range
out_of_range-ends (pos n) = refl
out_of_range-ends (negsuc n) = or-false (ltb 131070 n) ∙ ltb-same 131070 n largest_sample (suc n) (λ h. omega arith) (λ h. omega arith)
