-- `three_seconds::three_second_value` meets its contract: past the checks the record is sound and the order one of a row's.
use Rattle.std.proofs.Common.{sym, arith}
use Rattle.records.proofs.SoundParts.{sound-parts}
use Rattle.three_seconds.proofs.ThreeSecond.{accepted}
use Rattle.three_seconds.proofs.three_second_value.Goals as goal

pub overflow_sub-order : goal.overflow_sub-order
overflow_sub-order c = (accepted c.args.observation.now c.args.order (sym c.in_ok-check_call.ensures)).order-ge

pub kept_values-values-requires : goal.kept_values-values-requires
kept_values-values-requires c =
    let a = accepted c.args.observation.now c.args.order (sym c.in_ok-check_call.ensures) in
    record {
      windows_le_most_windows = (sound-parts _ a.sound).windows-le;
      place_lt_order_count = omega (arith, a.order-ge, a.order_le);
    }
