-- What a verdict reads of an order's book (document 01, "Exact book"): the average of its smoothed values and their peak, as fractions.
use Rattle.std.specs.Prelude.{ℕ, ◌-◌, max, get_or}
use Rattle.std.proofs.Common.{arith}
use Rattle.algebra.specs.Fraction.{Fraction, whole, divide}
use Rattle.records.specs.declared.Observation.{Observation}

-- "The average is sum/count, from count 1 on"
abbrev pub average : Fraction → ℕ → Fraction
average sum count = divide sum (max count 1) (omega arith)

-- the average of an order
unfoldable pub average_of : Observation → ℕ → Fraction
average_of o order = average (whole (get_or o.sum (order - 1) 0)) o.windows

-- the peak of an order
unfoldable pub peak_of : Observation → ℕ → Fraction
peak_of o order = whole (get_or o.peak (order - 1) 0)
