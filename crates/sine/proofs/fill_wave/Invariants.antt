-- `sine::fill_wave` meets its contract. The loop's invariant: the buffer is filled up to `i`.
use Rattle.algebra.proofs.Filling.{Filled}
use Rattle.sine.specs.Wave.{table_sine}
use Rattle.sine.proofs.fill_wave.Given as goal

abbrev pub invariant-loop-i : goal.invariant-loop-i
invariant-loop-i l = Filled l.i table_sine l.initial.wave l.wave
