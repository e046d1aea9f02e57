use Rattle.std.proofs.Common.{rules, ◌≡◌, ◌<◌, arith}
use Rattle.rows.specs.Orders.{order_count}
use Rattle.observation.specs.Calls.{book_at}
use Rattle.observation.specs.OrderBook.{book_of}
use Rattle.observation.proofs.SoundRecord.{accepted-call}
use Rattle.observation.proofs.WithRow.{Long, Fit, stepped_none, stepped_more, stepped-all, book_fits}
use Rattle.observation.proofs.calls.take_row.Goals as goal

pub loop-i-init : goal.loop-i-init
loop-i-init c = stepped_none c.args.observation.now c.args.row.now

pub step-next-requires : goal.step-next-requires
unfolding book_at
step-next-requires c =
    let now = c.loop-i.observation in
    let fits : Fit (book_at now c.loop-i.i) = book_fits c.args.observation.now c.args.row.now c.loop-i.i now c.loop-i.invariant c.requires in
    record { room = fits.room; smoothed_in = fits.smoothed_in; sum_in = fits.sum_in }

pub loop-i-preserved : goal.loop-i-preserved
unfolding book_at
loop-i-preserved c =
    let long : Long c.args.observation.now = record { smoothed = search rules; sum = search rules; peak = search rules } in
    let inside : c.loop-i.i < order_count = omega arith in
    stepped_more c.args.observation.now c.args.row.now c.loop-i.i c.loop-i.observation c.loop-i.invariant (book_of c.step-next.result) long inside c.step-next.ensures

pub overflow_add-observation : goal.overflow_add-observation
overflow_add-observation c =
    let call = accepted-call c.args.observation.now c.args.row.now c.requires in
    omega (arith, call.row-accepted.room, c.loop-i.invariant.windows)

pub returns : goal.returns
returns c =
    let long : Long c.args.observation.now = record { smoothed = search rules; sum = search rules; peak = search rules } in
    let end : c.loop-i.i ≡ order_count = omega arith in
    stepped-all c.args.observation.now c.args.row.now c.loop-i.i c.loop-i.observation _ end c.loop-i.invariant long c.keep_row.ensures
