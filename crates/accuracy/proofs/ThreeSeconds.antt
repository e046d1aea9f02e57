-- The figure of the last 15 accepted rows of a list is within 8 units of the exact three-second value of the windows that these rows are worked from.
use mathlib.Core.Path.{◌≡◌, refl, sym, ap, ◌∙◌}
use mathlib.Core.Bool.{true}
use mathlib.Core.List.{List, [], ◌∷◌, map, map-map}
use Prim.Native.Nat.{ℕ, zero, suc, ◌+◌, ◌-◌, ◌*◌, ◌^◌, ◌≤◌, ◌<◌}
use native.Mathlib.Omega.{arith, by_contra}
use lib.ListN.{length, get_or, drop, length-drop, length-map}
use Rattle.algebra.specs.Weighted.{sum_over, Everywhere}
use Rattle.algebra.proofs.Weighted.{everywhere-imp, everywhere_both, everywhere-drop, everywhere-of-map}
use Rattle.rows.specs.declared.Row.{Row}
use Rattle.rows.specs.Orders.{order_count}
use Rattle.rows.specs.Setups.{is_setup}
use Rattle.rows.specs.Rows.{largest_value, ValuesFit}
use Rattle.wide_numbers.specs.Squares.{sum_of_squares}
use Rattle.kinds.specs.declared.Kind.{Kind}
use Rattle.groups.specs.Exact.{exact_group}
use Rattle.latest_rows.specs.Latest.{rows_kept}
use Rattle.observation.specs.BookCalls.{value_at, AcceptedFit}
use Rattle.latest_rows.proofs.Latest.{last_of-enough}
use Rattle.three_seconds.specs.ThreeSecond.{three_second_of}
use Rattle.three_seconds.proofs.ThreeSecond.{three_second_of-passes, three_second_of-greatest}
use Rattle.accuracy.specs.Distance.{group_margin, WithinMargin}
use Rattle.accuracy.specs.CallList.{CallList, accepted, accepted_rows}
use Rattle.accuracy.specs.WorkedRows.{Sampled, SampledRows}
use Rattle.accuracy.specs.LatestRows.{three_second_margin, exact_three_second, rows_gone, last_rows, last_values}
use Rattle.accuracy.proofs.AcceptedCalls.{accepted-setup, each-accepted-carry}
use Rattle.accuracy.proofs.WorkedRows.{worked-fits, worked-near}
use Rattle.accuracy.proofs.ThreeSecondDistance.{mean-near}

-- ---- lists that are made of others

module _ {A : Type 0} (f : A → ℕ) where
  drop-made : (n : ℕ) (places : List A) → drop n (map f places) ≡ map f (drop n places)
  drop-made zero places = refl
  drop-made (suc n) [] = refl
  drop-made (suc n) (p ∷ places) = drop-made n places

  get_or-made-le : (m : ℕ) (places : List A) → Everywhere (λ p. f p ≤ m) places → (i : ℕ) → get_or (map f places) i 0 ≤ m
  get_or-made-le m [] every i = omega arith
  get_or-made-le m (p ∷ places) every zero = every.0
  get_or-made-le m (p ∷ places) every (suc i) = get_or-made-le m places every.1 i

  squares-made : (places : List A) → sum_of_squares (map f places) ≡ sum_over (λ p. f p * f p) places
  unfolding sum_of_squares sum_over
  squares-made [] = refl
  squares-made (p ∷ places) = ap (λ n. f p * f p + n) (squares-made places)

module _ (list : CallList) (fits : AcceptedFit list.setup 0 list.rows) where
  -- the last rows have known setups, as all accepted ones
  known-setups : Everywhere (λ row. is_setup row.setup ≡ true) (last_rows list)
  known-setups =
      everywhere-drop (λ (row : Row). is_setup row.setup ≡ true) (rows_gone list) (accepted_rows list)
      (each-accepted-carry (λ row. row) ValuesFit (λ row. is_setup row.setup ≡ true) (accepted list)
      (λ count row taken fit. accepted-setup list count row taken)
      0 list.rows fits)

  module _ (kind : Kind) (order : ℕ) (positive : 0 < order) (le : order ≤ order_count) (samples : SampledRows kind (last_rows list)) where
    -- what a sampled row holds of the order
    value : Sampled → ℕ
    value s = value_at (order - 1) s.row

    values-near :
        Everywhere (λ s. WithinMargin group_margin (value s) (exact_group kind s.row.setup order s.window)) samples.sampled
    unfolding value
    values-near =
        everywhere_both _ _ _
        (λ s is-setup from. worked-near kind s.row s.window from is-setup order positive le)
        samples.sampled
        (everywhere-of-map (λ (s : Sampled). s.row) (λ row. is_setup row.setup ≡ true) samples.sampled (rw samples.same_rows known-setups))
        samples.worked

    values-le : Everywhere (λ s. value s ≤ largest_value) samples.sampled
    unfolding value ValuesFit
    values-le = everywhere-imp _ _ (λ s from. worked-fits kind s.row s.window from (order - 1)) samples.sampled samples.worked

    module _ (enough : rows_kept ≤ length (accepted_rows list)) where
      fifteen : length samples.sampled ≡ rows_kept
      fifteen =
          let count = length-map samples.sampled (λ s. s.row) in
          let rows : length (last_rows list) ≡ rows_kept = simp length-drop (omega (arith, enough)) in
          sym count ∙ (ap length samples.same_rows ∙ rows)

      -- the last values of the list are those of these rows
      last-values : last_values list order ≡ map value samples.sampled
      unfolding value
      last-values =
          let own = value_at (order - 1) in
          last_of-enough own (accepted_rows list) enough ∙
          rw (drop-made own (rows_gone list) (accepted_rows list), ← samples.same_rows)
          (map-map own (λ s. s.row) samples.sampled)

      pub last-figure-near : WithinMargin three_second_margin (three_second_of (last_values list order)) (exact_three_second kind order samples.sampled)
      unfolding exact_three_second
      last-figure-near =
          let sampled = samples.sampled in
          let values = map value sampled in
          let t = three_second_of values in
          let whole : length values ≡ rows_kept = length-map sampled value ∙ fifteen in
          let fit : (i : ℕ) → get_or values i 0 < 2 ^ 32 = λ i. omega (arith, get_or-made-le value largest_value sampled values-le i) in
          let below = three_second_of-passes values whole fit in
          let above : sum_of_squares values < rows_kept * (suc t * suc t) =
          by_contra (suc (sum_of_squares values)) (rows_kept * (suc t * suc t)) λ l.
          omega (arith, three_second_of-greatest values whole fit (suc t) (omega arith)) in
          rw last-values
          (mean-near value (λ s. exact_group kind s.row.setup order s.window) sampled rows_kept _ t fifteen values-near
          (rw (squares-made value sampled) at below)
          (rw (squares-made value sampled) at above))
