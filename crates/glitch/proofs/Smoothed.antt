-- What a glitch does to the smoothed value after it. Of any two rows of one setup: where their values of an order differ by at most so many
-- units, the smoothed values differ by at most 1000/8012 of that, rounded up.
use mathlib.Core.Path.{◌≡◌, refl, sym, ap, ◌∙◌}
use mathlib.Core.Bool.{true}
use Prim.Native.Nat.{ℕ, ◌+◌, ◌*◌, ◌-◌, ◌≤◌, ◌<◌}
use native.Mathlib.Omega.{arith}
use borrow.Author.Tests.{ne_eqb}
use Rattle.algebra.proofs.Rounding.{nearest-le-add, rounded_up-enough}
use Rattle.refusals.specs.Numbers.{no_refusal}
use Rattle.refusals.proofs.Answers.{unless_refused-accepted, unless_refused-related}
use Rattle.rows.specs.Orders.{is_order}
use Rattle.rows.specs.Setups.{is_setup}
use Rattle.rows.specs.declared.Row.{Row}
use Rattle.rows.specs.declared.Setup.{Setup}
use Rattle.kinds.specs.declared.Kind.{Kind}
use Rattle.groups.specs.Group.{group_answer, group_row_refusal, group_row_answer}
use Rattle.groups.proofs.GroupSum.{group_refusal-of-place, group_values-at, group_row_answer-values}
use Rattle.records.specs.declared.Observation.{Observation}
use Rattle.books.specs.Book.{Book, book_step, smoothed_next}
use Rattle.observation.specs.BookCalls.{value_at}
use Rattle.books.specs.Smoothing.{new_weight, old_weight, smoothed_value, reported}
use Rattle.observation.specs.Calls.{book_at, next_book, with_row, add_row_refusal, add_row_answer}
use Rattle.observation.proofs.RecordBooks.{book-at-with-row}
use Rattle.accuracy.specs.Distance.{EveryOrder}
use Rattle.glitch.specs.Windows.{AcceptedWindow, samples_of, lines_left, glitch_size}
use Rattle.glitch.specs.Claim.{group_shift, smoothed_shift, Apart, GroupsBounded, row_of, smoothed_in, SmoothedBounded}
use Rattle.glitch.proofs.Groups.{answered, groups-bounded}

-- so many units more or less of the new value, and any bound on 1000/8012 of them: a step of a number moves its nearest by at most the
-- step rounded up
smoothed-apart :
    (most bound new other old : ℕ) → new_weight * most ≤ bound * (new_weight + old_weight) → Apart most new other →
    Apart bound (smoothed_value new old) (smoothed_value other old)
unfolding smoothed_value
smoothed-apart most bound new other old enough apart = record {
  one-le = nearest-le-add _ bound (new_weight + old_weight) (omega arith) (omega (arith, apart.one-le));
  other-le = nearest-le-add _ bound (new_weight + old_weight) (omega arith) (omega (arith, apart.other-le));
}

-- the smoothed value of an order after a row is added to a record with a window
pub smoothed-after :
    (o : Observation) (row : Row) → 0 < o.windows →
    EveryOrder (λ order. smoothed_in (with_row o row) order ≡ smoothed_value (value_at (order - 1) row) (smoothed_in o order))
unfolding next_book book_at book_step smoothed_next
smoothed-after o row held order positive le =
    ap (λ (book : Book reported). book.smoothed) (book-at-with-row o row (order - 1) (omega arith))
    ∙ rw (ne_eqb o.windows 0 (λ e. omega arith))

-- two rows of one setup are refused alike
same-refusal : (o : Observation) (one other : Row) → one.setup ≡ other.setup → add_row_refusal o one ≡ add_row_refusal o other
unfolding add_row_refusal
same-refusal o one other same = rw same

module _
    (o : Observation) (one other : Row) (most bound : ℕ) (same : one.setup ≡ other.setup) (held : 0 < o.windows)
    (enough : new_weight * most ≤ bound * (new_weight + old_weight))
    (apart : EveryOrder (λ order. Apart most (value_at (order - 1) one) (value_at (order - 1) other)))
  where
    rows-smoothed : EveryOrder (λ order.
        Apart bound (smoothed_in (add_row_answer o one).observation order) (smoothed_in (add_row_answer o other).observation order))
    unfolding add_row_answer
    rows-smoothed order positive le =
        unless_refused-related (λ after also-after. Apart bound (smoothed_in after order) (smoothed_in also-after order))
        (add_row_refusal o one) (add_row_refusal o other) (with_row o one) (with_row o other) o
        (same-refusal o one other same)
        (λ taken. rw (smoothed-after o one held order positive le, smoothed-after o other held order positive le)
        (smoothed-apart most bound _ _ (smoothed_in o order) enough (apart order positive le)))
        (record { one-le = omega arith; other-le = omega arith })

-- ---- the rows of accepted windows

module _ (kind : Kind) (setup : Setup) (known : is_setup setup ≡ true) (w : AcceptedWindow) where
  pub row-answered : (row_of kind setup w).refusal ≡ no_refusal
  unfolding group_row_answer is_order
  row-answered = sym (group_refusal-of-place setup 0 (lines_left w) (omega arith)) ∙ answered w setup 1 known refl

  pub row-setup : (row_of kind setup w).row.setup ≡ setup
  unfolding group_row_answer
  row-setup = ap (λ (row : Row). row.setup) (unless_refused-accepted (group_row_refusal setup (lines_left w)) _ _ row-answered)

  -- the row holds the values that are answered
  pub row-value : EveryOrder (λ order. value_at (order - 1) (row_of kind setup w).row ≡ (group_answer kind setup order (lines_left w)).value)
  row-value order positive le =
      rw (group_row_answer-values kind setup (lines_left w)) (group_values-at kind setup (lines_left w) order positive le)

pub smoothed-bounded : SmoothedBounded smoothed_shift
unfolding SmoothedBounded GroupsBounded add_row_answer
smoothed-bounded kind setup one other place o known alike held =
    let d = glitch_size place (samples_of one) (samples_of other) in
    let same = row-setup kind setup known one ∙ sym (row-setup kind setup known other) in
    record {
      one-answered = row-answered kind setup known one;
      other-answered = row-answered kind setup known other;
      same-refusal = same-refusal o (row_of kind setup one).row (row_of kind setup other).row same;
      values = rows-smoothed o (row_of kind setup one).row (row_of kind setup other).row (group_shift d) (smoothed_shift d) same
          (omega (arith, held))
          (omega (arith, rounded_up-enough (new_weight * group_shift d) (new_weight + old_weight) (omega arith)))
          (λ order positive le.
          rw (row-value kind setup known one order positive le, row-value kind setup known other order positive le)
          (groups-bounded kind setup one other place known alike order positive le).values);
    }
