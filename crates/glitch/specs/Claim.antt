-- What a glitch can do to a group and to the smoothed value after it (document 02, card 14).
use Rattle.std.specs.Prelude.{◌≡◌, true, ℕ, ◌+◌, ◌*◌, ◌-◌, ◌<◌, ◌≤◌, get_or}
use Rattle.algebra.specs.Rounding.{rounded_up}
use Rattle.refusals.specs.Numbers.{no_refusal}
use Rattle.rows.specs.Setups.{is_setup}
use Rattle.rows.specs.Rows.{RowAnswer}
use Rattle.rows.specs.declared.Setup.{Setup}
use Rattle.kinds.specs.declared.Kind.{Kind}
use Rattle.groups.specs.Group.{group_answer, group_row_answer}
use Rattle.records.specs.declared.Observation.{Observation}
use Rattle.books.specs.Smoothing.{new_weight, old_weight}
use Rattle.observation.specs.Calls.{add_row_answer}
use Rattle.accuracy.specs.Distance.{EveryOrder}
use Rattle.glitch.specs.Windows.{AcceptedWindow, samples_of, lines_left, AlikeBut, glitch_size}

-- "at most 10×d + 14 units"
abbrev pub group_shift : ℕ → ℕ
group_shift d = 10 * d + 14

-- "at most (10×d + 14)/8.012, rounded up"
abbrev pub smoothed_shift : ℕ → ℕ
smoothed_shift d = rounded_up (new_weight * group_shift d) (new_weight + old_weight)

-- two values that differ by at most so many units
pub record Apart (most one other : ℕ) : Type 0 where
  pub one-le : one ≤ other + most
  pub other-le : other ≤ one + most

-- both groups of an order are answered, and differ by at most so many units
pub record GroupsApart (kind : Kind) (setup : Setup) (one other : AcceptedWindow) (most order : ℕ) : Type 0 where
  pub one-answered : (group_answer kind setup order (lines_left one)).refusal ≡ no_refusal
  pub other-answered : (group_answer kind setup order (lines_left other)).refusal ≡ no_refusal
  pub values : Apart most (group_answer kind setup order (lines_left one)).value (group_answer kind setup order (lines_left other)).value

-- The groups of two accepted windows that are alike but for one sample, "of any order, either system and either edition" and of any kind,
-- differ by at most a number of units that d gives.
unfoldable pub GroupsBounded : (ℕ → ℕ) → Type 0
GroupsBounded most =
    (kind : Kind) (setup : Setup) (one other : AcceptedWindow) (place : ℕ) →
    is_setup setup ≡ true →
    AlikeBut place (samples_of one) (samples_of other) →
    EveryOrder (GroupsApart kind setup one other (most (glitch_size place (samples_of one) (samples_of other))))

-- what is answered for the row of an accepted window
abbrev pub row_of : Kind → Setup → AcceptedWindow → RowAnswer
row_of kind setup w = group_row_answer kind setup (lines_left w)

-- the smoothed value of an order in a record
abbrev pub smoothed_in : Observation → ℕ → ℕ
smoothed_in o order = get_or o.smoothed (order - 1) 0

-- both rows are answered; both are added to the record, or both are refused with the same number; and the smoothed values then differ by at
-- most so many units
pub record SmoothedApart (o : Observation) (one other : RowAnswer) (most : ℕ) : Type 0 where
  pub one-answered : one.refusal ≡ no_refusal
  pub other-answered : other.refusal ≡ no_refusal
  pub same-refusal : (add_row_answer o one.row).refusal ≡ (add_row_answer o other.row).refusal
  pub values : EveryOrder (λ order.
      Apart most (smoothed_in (add_row_answer o one.row).observation order) (smoothed_in (add_row_answer o other.row).observation order))

-- "A glitch in one window moves the smoothed value after it by at most" a number of units that d gives, "if the record held the same values
-- before and at least one window". A record that refuses the row, such as one that is not sound, refuses both, and keeps its values.
unfoldable pub SmoothedBounded : (ℕ → ℕ) → Type 0
SmoothedBounded most =
    (kind : Kind) (setup : Setup) (one other : AcceptedWindow) (place : ℕ) (o : Observation) →
    is_setup setup ≡ true →
    AlikeBut place (samples_of one) (samples_of other) →
    0 < o.windows →
    SmoothedApart o (row_of kind setup one) (row_of kind setup other) (most (glitch_size place (samples_of one) (samples_of other)))

-- what one bad sample can do
pub record GlitchHolds : Type 0 where
  pub groups : GroupsBounded group_shift
  pub smoothed : SmoothedBounded smoothed_shift
