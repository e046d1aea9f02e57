-- `record_words::writing::put_halves` meets its contract: the lent part holds the pairs, and what stands before it is as it was.
use mathlib.Core.Path.{◌≡◌}
use Prim.Native.Nat.{◌+◌, ◌-◌}
use native.Mathlib.Omega.{arith}
use lib.ListN.{length, take, drop, length-drop}
use lib.Seq.{length-take-le}
use Rattle.record_words.specs.Halves.{packed}
use Rattle.record_words.proofs.Halves.{packed-length}
use Rattle.record_words.proofs.Parts.{take_part}
use Rattle.record_words.proofs.writing.put_halves.Goals as goal

-- the lent part has as many words as lie between the two places
part_length : (c : goal.After-pack-arg-1) → let a = c.args in
    length (take (a.end - a.place) (drop a.place a.words.now)) ≡ a.end - a.place
part_length c = length-take-le _ _ (simp length-drop (omega (arith, c.requires.place_le_end)))

pub pack-requires : goal.pack-requires
pack-requires c = rw (part_length c) c.requires.values_len

pub returns : goal.returns
returns c = let a = c.args in
    let pairs = packed a.values.now in
    let long : a.place + length pairs ≡ a.end = omega (arith, c.requires.place_le_end.0, packed-length a.values.now (a.end - a.place) c.requires.values_len) in
    rw c.pack.ensures
    (take_part a.words.now pairs _ a.place a.end long c.requires.place_le_end.1)
