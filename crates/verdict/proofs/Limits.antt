-- A listed limit in place of the rule's: equal limits are tested alike, so that no verdict differs.
use mathlib.Core.Path.{◌≡◌}
use mathlib.Core.Bool.{true}
use Prim.Native.Nat.{ℕ}
use Rattle.fractions.specs.declared.Ratio.{Ratio}
use Rattle.fractions.specs.Parts.{parts}
use Rattle.fractions.proofs.Parts.{Same}
use Rattle.classes.specs.declared.Class.{Class}
use Rattle.limits.specs.Limit.{has_limit}
use Rattle.limit_tests.specs.Limit.{limit_in_units, peak_limit_in_units, listed_in_units, listed_peak_in_units}
use Rattle.limit_tests.proofs.Limits.{listed_in_units-same, listed_peak_in_units-same}
use Rattle.limit_tests.proofs.TestLaws.{is_within-same, is_over-same}
use Rattle.verdict.specs.Call.{combined}

pub combined-same :
    (average limit other_limit peak peak_limit other_peak_limit : Ratio) (order : ℕ) →
    Same limit other_limit → Same peak_limit other_peak_limit →
    combined average limit peak peak_limit order ≡ combined average other_limit peak other_peak_limit order
unfolding combined
combined-same average limit other_limit peak peak_limit other_peak_limit order same same-peak =
    rw (
      is_over-same average limit other_limit same,
      is_over-same peak peak_limit other_peak_limit same-peak,
      is_within-same average limit other_limit same,
      is_within-same peak peak_limit other_peak_limit same-peak,
    )

-- where the order has a limit, the rule's gives the same verdict as the listed one
pub combined-listed :
    (class : Class) (order scale : ℕ) → has_limit order ≡ true → (average peak : Ratio) →
    combined average (parts (listed_in_units class order scale)) peak (parts (listed_peak_in_units class order scale)) order
    ≡ combined average (parts (limit_in_units class order scale)) peak (parts (peak_limit_in_units class order scale)) order
combined-listed class order scale has-limit average peak =
    combined-same average _ _ peak _ _ order
    (listed_in_units-same class order scale has-limit)
    (listed_peak_in_units-same class order scale has-limit)
