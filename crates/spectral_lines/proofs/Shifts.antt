-- The two shifts by which a sum is rounded, and that what is between them fits 64 bits.
use mathlib.Core.Path.{◌≡◌}
use Prim.Native.Nat.{ℕ}
use lib.IntN.{ℤ, pos, ◌+ℤ◌}
use lib.Signed.{shr_z, mag_shr}
use mir.Syntax.{w64}
use mir.Val.{SFits}
use mir.ValLaws.{to_z-of_z, sfits_le}
use Rattle.algebra.specs.Rounding.{nearestℤ}
use Rattle.algebra.proofs.Rounding.{two-shifts-nearestℤ}
use Rattle.spectral_lines.specs.Line.{sum_scale}

-- a sum divided by 2^28 and then, with 1 more, by 2
pub two_shifts : (s : ℤ) → shr_z (shr_z s 268435456 +ℤ pos 1) 2 ≡ nearestℤ s sum_scale
two_shifts s = two-shifts-nearestℤ s 28

-- a number divided has the bits that the number has
pub shifted_fits : (s : ℤ) (k : ℕ) → SFits w64 s → SFits w64 (shr_z s k)
shifted_fits s k f = sfits_le (mag_shr s k) f

pub ruleset shifts = (to_z-of_z, two_shifts, shifted_fits)
