-- The rule that a verdict judges an order by, in each class (document 01, "Class A verdicts"; document 02, card 1): "the average (sum/n) against the limit, the peak against 150 % of it".
-- Of an exact book it is said without a margin, of a reported one with it.
use Rattle.std.specs.Prelude.{ℕ}
use Rattle.algebra.specs.Fraction.{Fraction, whole, ◌≤ᶠ◌, ◌<ᶠ◌}
use Rattle.books.specs.Book.{Book}
use Rattle.books.specs.Smoothing.{reported}
use Rattle.records.specs.Average.{average}
use Rattle.classes.specs.declared.Class.{Class}
use Rattle.limit_tests.specs.Limit.{limit_in_units, peak_limit_in_units}
use Rattle.limit_tests.specs.Tests.{Touches}
use Rattle.accuracy.specs.ExactBook.{exact}

-- "The average is sum/count"
abbrev pub exact_average : Book exact → Fraction
exact_average book = average book.sum book.count

abbrev pub reported_average : Book reported → Fraction
reported_average book = average (whole book.sum) book.count

module _ (class : Class) (order scale : ℕ) where
  -- the average is at most the limit, and the peak at most 150 % of it
  abbrev pub Passes : Book exact → Type 0
  Passes book = (exact_average book ≤ᶠ limit_in_units class order scale) × (book.peak ≤ᶠ peak_limit_in_units class order scale)

  -- the average exceeds the limit
  abbrev pub AverageExceeds : Book exact → Type 0
  AverageExceeds book = limit_in_units class order scale <ᶠ exact_average book

  -- the peak exceeds 150 % of it
  abbrev pub PeakExceeds : Book exact → Type 0
  PeakExceeds book = peak_limit_in_units class order scale <ᶠ book.peak

  -- "a band touches its limit": the average less 12 is at most the limit, and the average plus 12 is above it
  abbrev pub AverageTouches : Book reported → Type 0
  AverageTouches book = Touches (reported_average book) (limit_in_units class order scale)

  -- so the peak and 150 % of it
  abbrev pub PeakTouches : Book reported → Type 0
  PeakTouches book = Touches (whole book.peak) (peak_limit_in_units class order scale)
