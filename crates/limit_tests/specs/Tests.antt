-- The two tests of a verdict (document 01, "Class A verdicts").
use Rattle.std.specs.Prelude.{Bool, not}
use Rattle.algebra.specs.Fraction.{Fraction, whole, ◌+ᶠ◌, ◌≤ᶠ◌, ◌<ᶠ◌}
use Rattle.books.specs.Smoothing.{smoothed_margin}
use Rattle.fractions.specs.declared.Ratio.{Ratio}
use Rattle.fractions.specs.Parts.{raised, at_most}

-- "within if value + 12 is at most the limit in units"
unfoldable pub is_within : Ratio → Ratio → Bool
is_within value limit = at_most (raised value smoothed_margin) limit

-- "over if value − 12 exceeds it": the value is not at most the limit + 12
unfoldable pub is_over : Ratio → Ratio → Bool
is_over value limit = not (at_most value (raised limit smoothed_margin))

-- "a band touches its limit": the value less 12 is at most the limit, and the value plus 12 is above it
pub record Touches (value limit : Fraction) : Type 0 where
  pub not-over : value ≤ᶠ limit +ᶠ whole smoothed_margin
  pub not_within : limit <ᶠ value +ᶠ whole smoothed_margin
