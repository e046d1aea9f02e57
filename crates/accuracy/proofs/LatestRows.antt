-- The latest rows and the three-second value after any list of calls whose accepted rows hold values of 32 bits, and its distance from the exact one.
use mathlib.Core.Path.{◌≡◌}
use mathlib.Core.Bool.{true, cond}
use Prim.Native.Nat.{◌-◌, ◌≤◌}
use native.Mathlib.Omega.{arith}
use borrow.Author.Tests.{le-ltb}
use lib.Dec.{ltb}
use lib.ListN.{length}
use Rattle.refusals.specs.Numbers.{no_refusal, too_few_windows}
use Rattle.refusals.specs.Answers.{answer}
use Rattle.rows.specs.Setups.{is_setup}
use Rattle.records.specs.Soundness.{is_sound}
use Rattle.latest_rows.specs.Latest.{rows_kept, latest_values}
use Rattle.observation.specs.BookCalls.{AcceptedFit}
use Rattle.observation.proofs.SoundRecord.{fresh-record-after-sound}
use Rattle.observation.proofs.LatestAfter.{fresh-record-after-windows, fresh-record-after-latest}
use Rattle.three_seconds.specs.ThreeSecond.{three_second_of, three_second_refusal, three_second_answer}
use Rattle.accuracy.specs.Distance.{EveryOrder}
use Rattle.accuracy.specs.CallList.{CallList, after, accepted_rows}
use Rattle.accuracy.specs.LatestRows.{last_values, LatestHolds}
use Rattle.accuracy.proofs.GroupDistance.{is-order}
use Rattle.accuracy.proofs.ThreeSeconds.{last-figure-near}

module _ (list : CallList) (known : is_setup list.setup ≡ true) (fits : AcceptedFit list.setup 0 list.rows) where
  sound-after : is_sound (after list) ≡ true
  unfolding after
  sound-after = fresh-record-after-sound list.setup list.rows known fits

  windows-kept : (after list).windows ≡ length (accepted_rows list)
  unfolding after
  windows-kept = fresh-record-after-windows list.setup list.rows known fits

  latest-kept : EveryOrder (λ order. latest_values (after list).windows (after list).latest (order - 1) ≡ last_values list order)
  unfolding after
  latest-kept order positive le = fresh-record-after-latest list.setup list.rows (order - 1) known (omega arith) fits

  asked : EveryOrder (λ order. three_second_refusal (after list) order ≡ cond (ltb (length (accepted_rows list)) rows_kept) too_few_windows no_refusal)
  unfolding three_second_refusal
  asked order positive le = rw (sound-after, is-order order positive le, windows-kept)

  answered : EveryOrder (λ order.
      rows_kept ≤ length (accepted_rows list) →
      three_second_answer (after list) order ≡ answer no_refusal (three_second_of (last_values list order)))
  unfolding three_second_answer
  answered order positive le enough =
      rw (asked order positive le, le-ltb (length (accepted_rows list)) rows_kept enough, latest-kept order positive le)

  pub latest-holds : LatestHolds list
  latest-holds =
      record {
        same-windows = windows-kept;
        same-latest = latest-kept;
        asked = asked;
        answered = answered;
        near = λ kind order positive le enough samples.
            rw (answered order positive le enough) (last-figure-near list fits kind order positive le samples enough);
      }
