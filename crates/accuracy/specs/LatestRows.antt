-- The latest rows after any list of add row calls, and the three-second value that is then answered (document 02, card 8).
use Rattle.std.specs.Prelude.{◌≡◌, cond, List, map, ℕ, ◌-◌, ◌≤◌, ltb, length, drop}
use Rattle.std.proofs.Common.{arith}
use Rattle.algebra.specs.Fraction.{Fraction, divide, sumᶠ}
use Rattle.refusals.specs.Numbers.{no_refusal, too_few_windows}
use Rattle.refusals.specs.Answers.{answer}
use Rattle.rows.specs.declared.Row.{Row}
use Rattle.kinds.specs.declared.Kind.{Kind}
use Rattle.groups.specs.Exact.{exact_group}
use Rattle.latest_rows.specs.Latest.{rows_kept, latest_values, last_of}
use Rattle.observation.specs.BookCalls.{value_at}
use Rattle.three_seconds.specs.ThreeSecond.{three_second_of, three_second_refusal, three_second_answer}
use Rattle.accuracy.specs.Distance.{EveryOrder, WithinMargin}
use Rattle.accuracy.specs.CallList.{CallList, after, accepted_rows}
use Rattle.accuracy.specs.WorkedRows.{Sampled, SampledRows}

-- the units that a three-second value may be off
abbrev pub three_second_margin : ℕ
three_second_margin = 8

-- the square of the exact three-second value of 15 windows: "a fifteenth of the sum of the 15 exact G"
unfoldable pub exact_three_second : Kind → ℕ → List Sampled → Fraction
exact_three_second kind order sampled =
    divide (sumᶠ (map (λ s. exact_group kind s.row.setup order s.window) sampled)) rows_kept (omega arith)

module _ (list : CallList) where
  -- the count of accepted rows that have left
  abbrev pub rows_gone : ℕ
  rows_gone = length (accepted_rows list) - rows_kept

  -- the last 15 accepted rows, or all where there are fewer
  abbrev pub last_rows : List Row
  last_rows = drop rows_gone (accepted_rows list)

  -- the values of an order in the last 15 accepted rows, with zeros before them where there are fewer
  abbrev pub last_values : ℕ → List ℕ
  last_values order = last_of (map (value_at (order - 1)) (accepted_rows list))

  -- what holds after any list, whatever 32-bit values its rows hold
  pub record LatestHolds : Type 0 where
    -- n counts the accepted rows
    pub same-windows : (after list).windows ≡ length (accepted_rows list)
    -- the kept rows are the last 15 of them
    pub same-latest : EveryOrder (λ order. latest_values (after list).windows (after list).latest (order - 1) ≡ last_values order)
    -- asking is refused with 20 before the fifteenth, and not from then on
    pub asked : EveryOrder (λ order. three_second_refusal (after list) order ≡ cond (ltb (length (accepted_rows list)) rows_kept) too_few_windows no_refusal)
    -- what is answered then is the figure of those rows: "equals the one worked afresh from the last 15 accepted rows"
    pub answered : EveryOrder (λ order.
        rows_kept ≤ length (accepted_rows list) →
        three_second_answer (after list) order ≡ answer no_refusal (three_second_of (last_values order)))
    -- "for windows worked from samples it is within 8 units of the exact one": those of the last 15 rows, whatever came before them
    pub near : (kind : Kind) → EveryOrder (λ order.
        rows_kept ≤ length (accepted_rows list) →
        (samples : SampledRows kind last_rows) →
        WithinMargin three_second_margin (three_second_answer (after list) order).value (exact_three_second kind order samples.sampled))
