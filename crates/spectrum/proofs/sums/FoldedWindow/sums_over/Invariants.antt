-- The sums are those over the first i places.
use mathlib.Core.Path.{◌≡◌}
use Prim.Native.Nat.{suc, ◌+◌}
use Rattle.spectral_lines.specs.Folding.{held_by, place_sum, cosine_of}
use Rattle.spectrum.specs.LinePlaces.{sine_ahead}
use Rattle.spectrum.proofs.sums.FoldedWindow.sums_over.Given as goal

abbrev pub invariant-loop-i : goal.invariant-loop-i
invariant-loop-i l = record {
  cosine : l.cosine ≡ place_sum (suc l.half) l.i (held_by l.self.folded.now) (cosine_of l.k);
  sine : l.sine ≡ place_sum (suc l.half) l.i (λ p. held_by l.self.folded.now (p + sine_ahead l.half)) (cosine_of l.k);
}
