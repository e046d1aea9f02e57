-- What the loop that writes the wave rests on: a value of the table's sine has 32 bits, and the buffer is filled with it from the front.
use mathlib.Core.Path.{refl}
use mathlib.Core.List.{List}
use Prim.Native.Nat.{ℕ}
use native.Mathlib.Omega.{arith}
use lib.IntN.{ℤ}
use mir.Syntax.{w32}
use mir.Val.{SFits}
use Rattle.algebra.specs.Lists.{tabulate}
use Rattle.algebra.proofs.Signed.{sfits-nat_abs, cut, cut_fits}
use Rattle.algebra.proofs.Filling.{Filled, filled_more, filled-whole}
use Rattle.sine.specs.Wave.{table_sine}
use Rattle.sine.proofs.Wave.{table_sine-le, quarter_list-wave}

pub table_sine-fits : (i : ℕ) → SFits w32 (table_sine i)
table_sine-fits i = sfits-nat_abs w32 (table_sine i) (omega (arith, table_sine-le i))

pub filled_none : (wave : List ℤ) → Filled 0 table_sine wave wave
unfolding tabulate
filled_none wave = refl

-- what `fill_wave` rests on
pub ruleset written = (quarter_list-wave, table_sine-fits, cut, cut_fits, filled_none, filled_more, filled-whole)
