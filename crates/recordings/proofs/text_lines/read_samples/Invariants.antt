-- `recordings::text_lines::read_samples` meets its contract. The loop's invariant, over as many lines as have been cut off: what is left is the text after them, none of them is refused, and their samples stand in front of what was there.
use Rattle.std.proofs.Common.{◌≡◌, ◌+◌, ◌*◌, ◌<◌, length, drop}
use Rattle.algebra.proofs.Filling.{Filled}
use Rattle.refusals.specs.Numbers.{no_refusal}
use Rattle.recordings.specs.TextLines.{text_line_bytes, number_at}
use Rattle.recordings.specs.Blocks.{text_lines_refusal}
use Rattle.recordings.proofs.text_lines.read_samples.Given as goal

abbrev pub invariant-loop-i : goal.invariant-loop-i
invariant-loop-i l = record {
  size : l.i-iterator.iter.size ≡ text_line_bytes;
  left : l.i-iterator.iter.rest.now ≡ drop (text_line_bytes * l.i-iterator.count) l.text;
  few : text_line_bytes * l.i-iterator.count < length l.text + text_line_bytes;
  none : text_lines_refusal l.text l.i-iterator.count ≡ no_refusal;
  filled : Filled l.i-iterator.count (number_at l.text) l.initial.samples l.samples;
}
