-- Laws of the two tests: what each says as an order of fractions, and that equal limits are tested alike.
use mathlib.Core.Path.{◌≡◌, ap}
use mathlib.Core.Bool.{true, false, not}
use native.Mathlib.Nat.{mul-one}
use borrow.Author.Tests.{leb-true, leb-false, not-true, not-false}
use Rattle.algebra.specs.Fraction.{Fraction, whole, ◌+ᶠ◌, ◌≤ᶠ◌, ◌<ᶠ◌}
use Rattle.books.specs.Smoothing.{smoothed_margin}
use Rattle.fractions.specs.declared.Ratio.{Ratio}
use Rattle.fractions.specs.Parts.{parts, raised, at_most}
use Rattle.fractions.proofs.Parts.{Same, raised-same, at_most-same}
use Rattle.limit_tests.specs.Tests.{is_within, is_over, Touches}

module _ (value limit : Fraction) where
  pub within-le : is_within (parts value) (parts limit) ≡ true → value +ᶠ whole smoothed_margin ≤ᶠ limit
  unfolding is_within raised at_most whole ◌+ᶠ◌
  within-le e = simp mul-one (leb-true _ _ e)

  not-within-gt : is_within (parts value) (parts limit) ≡ false → limit <ᶠ value +ᶠ whole smoothed_margin
  unfolding is_within raised at_most whole ◌+ᶠ◌
  not-within-gt e = simp mul-one (leb-false _ _ e)

  pub over-gt : is_over (parts value) (parts limit) ≡ true → limit +ᶠ whole smoothed_margin <ᶠ value
  unfolding is_over raised at_most whole ◌+ᶠ◌
  over-gt e = simp mul-one (leb-false _ _ (not-true _ e))

  not-over-le : is_over (parts value) (parts limit) ≡ false → value ≤ᶠ limit +ᶠ whole smoothed_margin
  unfolding is_over raised at_most whole ◌+ᶠ◌
  not-over-le e = simp mul-one (leb-true _ _ (not-false _ e))

  -- a value that is neither over nor within: its band touches the limit
  pub neither-touches :
      is_over (parts value) (parts limit) ≡ false → is_within (parts value) (parts limit) ≡ false → Touches value limit
  neither-touches e f = record { not-over = not-over-le e; not_within = not-within-gt f }

-- ---- equal limits

pub is_within-same : (value p q : Ratio) → Same p q → is_within value p ≡ is_within value q
unfolding is_within
is_within-same value p q same = at_most-same _ p q same

pub is_over-same : (value p q : Ratio) → Same p q → is_over value p ≡ is_over value q
unfolding is_over
is_over-same value p q same = ap not (at_most-same value _ _ (raised-same p q smoothed_margin same))
