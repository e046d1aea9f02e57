-- `three_seconds::kept_values` meets its contract. The loop's invariant: the values are filled up to `j`.
use Rattle.std.proofs.Common.{◌+◌, slice_index_or}
use Rattle.algebra.proofs.Filling.{Filled}
use Rattle.latest_rows.specs.Latest.{row_place}
use Rattle.three_seconds.proofs.kept_values.Given as goal

abbrev pub invariant-loop-j : goal.invariant-loop-j
invariant-loop-j l =
    Filled l.j (λ k. slice_index_or l.observation.latest (row_place (l.observation.windows + k) + l.place) 0) l.initial.values l.values
