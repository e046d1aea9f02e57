-- `harmlist::write_output` is safe: the buffer is long enough, and the count of bytes that are written lies in it.
use Rattle.std.proofs.Common.{sym, arith, length-take-le}
use Rattle.harmlist_output.proofs.EndingLaws.{written_ok, written_count_le}
use Rattle.harmlist.proofs.write_output.Goals as goal

pub unwrap-count-requires : goal.unwrap-count-requires
unwrap-count-requires c = written_ok _ _ c.finish.result (omega arith) c.finish.ensures.value

pub slice_bounds-output-end : goal.slice_bounds-output-end
slice_bounds-output-end c =
    let bytes = rw c.unwrap-count.ensures at c.finish.ensures.value in
    omega (arith, c.finish.auto.output, written_count_le _ _ _ c.unwrap-count.result bytes c.finish.ensures.output_after c.finish.auto.output)

pub slice_bounds-write_all-end : goal.slice_bounds-write_all-end
slice_bounds-write_all-end c =
    let bytes = rw c.unwrap-count.ensures at c.finish.ensures.value in
    let inside = written_count_le _ _ _ c.unwrap-count.result bytes c.finish.ensures.output_after c.finish.auto.output in
    sym (length-take-le c.unwrap-count.result c.finish.new.output (omega (arith, c.finish.auto.output, inside)))
