-- `three_seconds::mean_square` meets its contract. The loop's invariant: the squares so far are 15 times the quotients and
-- the remainders, and neither sum is larger than its numbers allow.
use Rattle.std.proofs.Common.{◌≡◌, ◌+◌, ◌*◌, ◌/◌, ◌-◌, ◌^◌, ◌≤◌, drop}
use Rattle.wide_numbers.specs.Squares.{sum_of_squares}
use Rattle.latest_rows.specs.Latest.{rows_kept}
use Rattle.three_seconds.proofs.mean_square.Given as goal

abbrev pub invariant-loop-value : goal.invariant-loop-value
invariant-loop-value l = record {
  squares : rows_kept * l.quotients + l.remainders + sum_of_squares (drop l.value-index l.values) ≡ sum_of_squares l.values;
  quotients_le : l.quotients ≤ l.value-index * ((2 ^ 64 - 1) / rows_kept);
  remainders_le : l.remainders ≤ l.value-index * (rows_kept - 1);
}
