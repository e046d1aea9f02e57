use Rattle.std.proofs.Common.{◌++◌, rules, arith}
use Rattle.std.proofs.lemmas.Grind.{common_steps}
use Rattle.columns.specs.Text.{bytes_of, right_justified}
use Rattle.listing.specs.Listing.{header, orders_text}
use Rattle.listing.proofs.Lengths.{orders_text_more}
use Rattle.listing.proofs.Puts.{put_next}
use Rattle.listing.proofs.listing.put_listing.Goals as goal

-- the bytes copied are the header
pub loop-i-init : goal.loop-i-init
unfolding header bytes_of right_justified orders_text
loop-i-init c = record { few = omega arith; place = search rules; after = grind (arith, common_steps) }

-- the line, or nothing, comes after what is put so far
pub loop-i-preserved : goal.loop-i-preserved
loop-i-preserved c =
    let a = c.args in
    let l = c.loop-i in
    let line = c.put-end.ensures in
    let front = header ++ orders_text l.i a.group.now a.subgroup.now a.smoothed.now in
    let next = put_next front _ a.buffer.now l.buffer _ l.end _ l.invariant.place line.value (omega arith) l.invariant.after line.buffer_after in
    record { few = omega arith; place = grind (arith, common_steps, orders_text_more); after = grind (arith, common_steps, orders_text_more) }
