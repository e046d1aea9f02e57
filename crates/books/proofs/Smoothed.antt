-- A smoothed value is no larger than the larger of the two it is made of.
use Prim.Native.Nat.{ℕ, ◌≤◌}
use native.Mathlib.Omega.{arith}
use Rattle.algebra.specs.Rounding.{nearest}
use Rattle.books.specs.Book.{Book, smoothed_next}
use Rattle.books.specs.Smoothing.{smoothed_value, reported}

pub smoothed-value-le : (limit new old : ℕ) → new ≤ limit → old ≤ limit → smoothed_value new old ≤ limit
unfolding smoothed_value nearest
smoothed-value-le limit new old n o = omega arith

pub smoothed-next-le : (limit : ℕ) (book : Book reported) (new : ℕ) → new ≤ limit → book.smoothed ≤ limit → smoothed_next reported book new ≤ limit
unfolding smoothed_next
smoothed-next-le limit book new n o = grind (arith, smoothed-value-le)
