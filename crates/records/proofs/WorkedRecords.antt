-- The records of the worked tables, of this crate and of those above it. They are built here alone, so that a new field of the record is given its worked value in one place.
use mathlib.Core.List.{List, ◌∷◌, ◌++◌, map}
use Prim.Native.Nat.{ℕ, ◌-◌}
use lib.ListN.{replicate}
use Rattle.algebra.specs.Lists.{joined}
use Rattle.rows.specs.Setups.{setup_of}
use Rattle.rows.specs.declared.Setup.{Setup}
use Rattle.records.specs.declared.Observation.{Observation}

-- a record by its setup, its windows, and its smoothed values, sums and peaks, whose latest rows are zeros
abbrev pub worked_record : Setup → ℕ → List ℕ → List ℕ → List ℕ → Observation
worked_record setup windows smoothed sum peak =
    record { setup = setup; windows = windows; smoothed = smoothed; sum = sum; peak = peak; latest = replicate 600 0 }

-- a record with other latest rows
abbrev pub keeping : List ℕ → Observation → Observation
keeping latest o = record o { latest = latest }

-- the numbers of the orders, of which that of one order alone is not 0
abbrev pub only : ℕ → ℕ → List ℕ
only order value = replicate (order - 1) 0 ++ (value ∷ replicate (40 - order) 0)

-- latest rows of which a single value is not 0, and 15 rows by the values of one order, the others being 0
abbrev pub single : ℕ → ℕ → List ℕ
single place value = replicate place 0 ++ (value ∷ replicate (599 - place) 0)

abbrev pub rows_of : ℕ → List ℕ → List ℕ
rows_of order values = joined (map (only order) values)

-- a record with the numbers of its last order, whose latest rows are zeros
abbrev pub observed_under : ℕ → ℕ → ℕ → ℕ → ℕ → ℕ → Observation
observed_under edition system windows smoothed sum peak =
    worked_record (setup_of system edition) windows (only 40 smoothed) (only 40 sum) (only 40 peak)

-- under edition 2
abbrev pub observed : ℕ → ℕ → ℕ → ℕ → ℕ → Observation
observed = observed_under 0
