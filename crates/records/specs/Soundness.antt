-- Which records are sound (document 01, "The observation record"; document 02, card 7, for the edition, and card 8, for the latest rows).
use Rattle.std.specs.Prelude.{Bool, not, ◌||◌, List, [], ◌∷◌, ℕ, ◌*◌, eqb, leb, ltb, drop}
use Rattle.algebra.specs.Lists.{all_true}
use Rattle.std.specs.List.{list_any}
use Rattle.rows.specs.Orders.{order_count}
use Rattle.rows.specs.Rows.{largest_value}
use Rattle.rows.specs.Setups.{is_setup}
use Rattle.refusals.specs.Numbers.{unsound_record}
use Rattle.records.specs.declared.Observation.{Observation}

-- at most 45,000 windows, 2.5 hours
abbrev pub most_windows : ℕ
most_windows = 45000

-- no value is above the bound
unfoldable pub none_above : ℕ → List ℕ → Bool
none_above bound values = not (list_any (ltb bound) values)

-- all smoothed values, sums and peaks are 0
abbrev pub zero_tests : List ℕ → List ℕ → List ℕ → List Bool
zero_tests smoothed sum peak = none_above 0 smoothed ∷ none_above 0 sum ∷ none_above 0 peak ∷ []

unfoldable pub all_zero : List ℕ → List ℕ → List ℕ → Bool
all_zero smoothed sum peak = all_true (zero_tests smoothed sum peak)

-- its system is 10 or 12 and its edition 0 or 1, n is at most 45,000, no sum is above n×(2^32−1), no peak or smoothed value above 2^32−1, n = 0 means
-- zeros, and the latest rows hold "zeros where none has come yet": behind the values of n rows, of which 15 fill them
abbrev pub sound_tests : Observation → List Bool
sound_tests o =
    is_setup o.setup ∷
    leb o.windows most_windows ∷
    none_above (o.windows * largest_value) o.sum ∷
    none_above largest_value o.peak ∷
    none_above largest_value o.smoothed ∷
    (not (eqb o.windows 0) || all_zero o.smoothed o.sum o.peak) ∷
    none_above 0 (drop (o.windows * order_count) o.latest) ∷
    []

unfoldable pub is_sound : Observation → Bool
is_sound o = all_true (sound_tests o)

-- the checks of a call on a record: "7 record not sound", then the others
abbrev pub sound_first : Observation → List (Bool × ℕ) → List (Bool × ℕ)
sound_first o checks = (not (is_sound o), unsound_record) ∷ checks
