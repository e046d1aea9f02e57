-- The sums are those over the places before j.
use mathlib.Core.Path.{◌≡◌}
use Prim.Native.Nat.{◌+◌, ◌-◌, ◌*◌}
use lib.IntN.{◌*ℤ◌}
use Rattle.algebra.specs.Sums.{sum_to}
use Rattle.sine.specs.Wave.{table_sine, table_cosine}
use Rattle.single_lines.specs.Quarter.{cosine_across, sine_across}
use Rattle.single_lines.proofs.alone.Window.sums_across.Given as goal

abbrev pub invariant-loop-j : goal.invariant-loop-j
invariant-loop-j l = record {
  cosine : l.cosine ≡ sum_to (l.j - 1) (λ i. cosine_across l.self.samples.now l.k (1 + i) *ℤ table_cosine ((1 + i) * l.k));
  sine : l.sine ≡ sum_to (l.j - 1) (λ i. sine_across l.self.samples.now l.k (1 + i) *ℤ table_sine ((1 + i) * l.k));
}
