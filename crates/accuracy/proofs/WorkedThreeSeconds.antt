-- The three-second value after a worked list of 16 accepted rows, of which all but the first are of the pulse: it is that of the pulse
-- whatever the first was, since it has left, 8944 in its harmonic groups, document 01's, and 2828 at order 1 under A1. With one row
-- fewer than 15 it is refused with 20.
use mathlib.Core.Path.{◌≡◌, refl, ◌∙◌}
use mathlib.Core.Bool.{true}
use mathlib.Core.List.{List}
use Prim.Native.Nat.{ℕ, ◌-◌, ◌≤◌, ◌<◌}
use native.Mathlib.Omega.{arith}
use lib.IntN.{ℤ}
use lib.ListN.{replicate}
use Rattle.algebra.specs.Largest.{largest}
use Rattle.algebra.specs.Weighted.{sum_over}
use Rattle.refusals.specs.Answers.{answer}
use Rattle.rows.specs.Systems.{is_system}
use Rattle.rows.specs.Editions.{is_edition}
use Rattle.rows.specs.Setups.{setup_of, same_setup}
use Rattle.rows.proofs.Editions.{each-edition}
use Rattle.wide_numbers.specs.Squares.{sum_of_squares}
use Rattle.windows.specs.Window.{InRange}
use Rattle.kinds.specs.declared.Kind.TheVariants.{HarmonicGroup}
use Rattle.spectral_lines.proofs.Pulse.{pulse}
use Rattle.latest_rows.specs.Latest.{last_of}
use Rattle.observation.specs.Calls.{row_checks}
use Rattle.observation.specs.BookCalls.{accepts, accepted_calls, value_at}
use Rattle.three_seconds.specs.ThreeSecond.{three_second_of, three_second_answer}
use Rattle.accuracy.specs.Distance.{value_of}
use Rattle.accuracy.specs.CallList.{CallList, after}
use Rattle.accuracy.specs.LatestRows.{last_values}
use Rattle.accuracy.proofs.WorkedRows.{worked-value}
use Rattle.accuracy.proofs.WorkedLists.{worked_row, worked-row, other_rows, list_of, accepted-count, list-holds}
use Rattle.accuracy.proofs.WorkedExample.{pulse-window, pulse-group, pulse-values}

module _ (window : List ℤ) (in-range : InRange window) where
  -- so many pulses after the first row
  abbrev pulses : ℕ → ℕ → CallList
  pulses later edition = list_of HarmonicGroup window pulse later edition

  -- the first row has left
  last-values :
      (order edition : ℕ) → is_edition edition ≡ true →
      last_values (pulses 15 edition) order ≡ replicate 15 (value_at (order - 1) (worked_row HarmonicGroup edition pulse))
  unfolding last_of accepted_calls accepts row_checks same_setup is_system is_edition list_of other_rows worked_row
  last-values order =
      each-edition
      (λ edition. last_values (pulses 15 edition) order ≡ replicate 15 (value_at (order - 1) (worked_row HarmonicGroup edition pulse)))
      refl refl

  -- what is answered of an order whose value is known
  answered :
      (order edition value : ℕ) → 0 < order → order ≤ 40 → is_edition edition ≡ true →
      value_of HarmonicGroup (setup_of 10 edition) order pulse ≡ value →
      three_second_answer (after (pulses 15 edition)) order ≡ answer 0 (three_second_of (replicate 15 value))
  unfolding worked_row
  answered order edition value positive le known is =
      let row = worked_row HarmonicGroup edition pulse in
      let holds = (list-holds HarmonicGroup window pulse 15 (omega arith) in-range pulse-window edition known).0.latest in
      let of-pulse : value_at (order - 1) row ≡ value =
      worked-value HarmonicGroup row pulse (worked-row HarmonicGroup edition pulse pulse-window) order positive le ∙ is in
      holds.answered order positive le (omega (arith, accepted-count HarmonicGroup window pulse 15 (omega arith) edition known)) ∙
      rw (last-values order edition known, of-pulse)

  -- order 3 under both editions, and order 1 under each
  pulse-answered :
      (three_second_answer (after (pulses 15 0)) 3 ≡ answer 0 8944) ×
      (three_second_answer (after (pulses 15 1)) 3 ≡ answer 0 8944) ×
      (three_second_answer (after (pulses 15 0)) 1 ≡ answer 0 8944) ×
      (three_second_answer (after (pulses 15 1)) 1 ≡ answer 0 2828)
  unfolding three_second_of sum_of_squares sum_over largest is_edition
  pulse-answered = (
    answered 3 0 8944 (omega arith) (omega arith) refl (pulse-group 0 3 8944 pulse-values.0),
    answered 3 1 8944 (omega arith) (omega arith) refl (pulse-group 1 3 8944 pulse-values.1),
    answered 1 0 8944 (omega arith) (omega arith) refl (pulse-group 0 1 8944 pulse-values.2),
    answered 1 1 2828 (omega arith) (omega arith) refl (pulse-group 1 1 2828 pulse-values.3),
  )

  -- after 14 accepted rows every order is refused with 20
  pulse-refused :
      (order edition : ℕ) → 0 < order → order ≤ 40 → is_edition edition ≡ true →
      three_second_answer (after (pulses 13 edition)) order ≡ answer 20 0
  unfolding three_second_answer
  pulse-refused order edition positive le known =
      let holds = (list-holds HarmonicGroup window pulse 13 (omega arith) in-range pulse-window edition known).0.latest in
      rw (holds.asked order positive le, accepted-count HarmonicGroup window pulse 13 (omega arith) edition known)
