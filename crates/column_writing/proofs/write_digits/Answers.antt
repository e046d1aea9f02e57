use Rattle.std.proofs.Common.{arith}
use lib.ListN.{length-set}
use Rattle.columns.proofs.Writings.{at_end_length, digits_room, digits_more, digits_pair, digits_last}
use Rattle.column_writing.proofs.write_digits.Goals as goal

pub overflow_sub-at : goal.overflow_sub-at
overflow_sub-at c = digits_room c.loop-rest.invariant c.requires

pub bounds-buffer-at : goal.bounds-buffer-at
bounds-buffer-at c = let d = c.loop-rest.invariant in
    omega (arith, at_end_length d.put, d.put.place, digits_room d c.requires)

pub overflow_sub-at-in-loop-rest : goal.overflow_sub-at-in-loop-rest
overflow_sub-at-in-loop-rest c = let d = c.loop-rest.invariant in
    digits_room (digits_more d (omega arith) (digits_room d c.requires)) c.requires

pub bounds-buffer-at-in-loop-rest : goal.bounds-buffer-at-in-loop-rest
bounds-buffer-at-in-loop-rest c = let d = c.loop-rest.invariant in
    let next = digits_more d (omega arith) (digits_room d c.requires) in
    rw length-set (omega (arith, at_end_length d.put, next.put.place, digits_room next c.requires))

pub loop-rest-preserved : goal.loop-rest-preserved
loop-rest-preserved c =
    rw (c.digit_byte.ensures, c.digit_byte-in-loop-rest.ensures) (digits_pair c.loop-rest.invariant (omega arith) c.requires)

pub overflow_sub-at-in-loop-rest-2 : goal.overflow_sub-at-in-loop-rest-2
overflow_sub-at-in-loop-rest-2 c = digits_room c.loop-rest-2.invariant c.requires

pub bounds-buffer-at-in-loop-rest-2 : goal.bounds-buffer-at-in-loop-rest-2
bounds-buffer-at-in-loop-rest-2 c = let d = c.loop-rest-2.invariant in
    omega (arith, at_end_length d.put, d.put.place, digits_room d c.requires)

pub loop-rest-2-preserved : goal.loop-rest-2-preserved
loop-rest-2-preserved c = let d = c.loop-rest-2.invariant in
    rw c.digit_byte-in-loop-rest-2.ensures (digits_more d (omega arith) (digits_room d c.requires))

pub overflow_sub-at-2 : goal.overflow_sub-at-2
overflow_sub-at-2 c = digits_room c.loop-rest-2.invariant c.requires

pub bounds-buffer-at-2 : goal.bounds-buffer-at-2
bounds-buffer-at-2 c = let d = c.loop-rest-2.invariant in
    omega (arith, at_end_length d.put, d.put.place, digits_room d c.requires)

pub returns : goal.returns
returns c = let d = c.loop-rest-2.invariant in
    rw c.digit_byte-2.ensures (digits_last d (omega arith) (digits_room d c.requires))
