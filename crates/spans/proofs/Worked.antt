-- The weights of a span in figures.
use Rattle.std.proofs.Common.{◌≡◌, ℕ, [], ◌∷◌, refl}
use Rattle.algebra.specs.Lists.{tabulate}
use Rattle.kinds.specs.Kinds.{whole_span, half_ended_span}
use Rattle.spans.specs.Spans.{Weighted, weights_in}

abbrev weighted : ℕ → ℕ → Weighted
weighted line twice_weight = record { line = line; twice_weight = twice_weight }

-- 2 is twice the weight 1, and 1 twice the weight 1/2
weights-worked :
    (weights_in (half_ended_span 25 4) ≡ weighted 25 1 ∷ weighted 26 2 ∷ weighted 27 2 ∷ weighted 28 1 ∷ []) ×
    (weights_in (whole_span 29 3) ≡ weighted 29 2 ∷ weighted 30 2 ∷ weighted 31 2 ∷ [])
unfolding weights_in tabulate
weights-worked = (refl, refl)
