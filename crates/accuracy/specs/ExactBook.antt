-- The exact books of document 01 ("Exact book"): those of `observation`, fed fractions and smoothed without rounding.
use Rattle.std.proofs.Common.{arith}
use Rattle.algebra.specs.Fraction.{Fraction, whole, mix, maximum, ◌+ᶠ◌}
use Rattle.books.specs.Book.{Numbers}
use Rattle.books.specs.Smoothing.{new_weight, old_weight}

-- the numbers of an exact book: fractions, mixed unrounded
abbrev pub exact : Numbers
exact = record { Value = Fraction; none = whole 0; smooth = mix new_weight old_weight (omega arith); plus = ◌+ᶠ◌; greater = maximum }
