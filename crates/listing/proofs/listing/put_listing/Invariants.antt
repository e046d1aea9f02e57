-- `listing::listing::put_listing` meets its contract. The loop's invariant: the header and the lines of the first `i` orders, none of which takes more than 40 bytes, stand before `end`; the bytes after them are as they were.
use Rattle.std.proofs.Common.{◌≡◌, ◌+◌, ◌*◌, ◌≤◌, ◌++◌, length, drop}
use Rattle.listing.specs.Listing.{text_line_length, header, orders_text}
use Rattle.listing.proofs.listing.put_listing.Given as goal

abbrev pub invariant-loop-i : goal.invariant-loop-i
invariant-loop-i l = record {
  few : l.end ≤ text_line_length + text_line_length * l.i;
  place : l.end ≡ length (header ++ orders_text l.i l.group l.subgroup l.smoothed);
  after : l.buffer ≡ header ++ orders_text l.i l.group l.subgroup l.smoothed ++ drop l.end l.fn.buffer;
}
