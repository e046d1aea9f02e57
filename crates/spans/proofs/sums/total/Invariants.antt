-- `spans::sums::total` meets its contract. The loop's invariant: the sum is that of the lines before this one.
use Rattle.std.proofs.Common.{◌≡◌, ◌%◌, ◌^◌, sum, take}
use Rattle.spans.proofs.sums.total.Given as goal

abbrev pub invariant-loop-line : goal.invariant-loop-line
invariant-loop-line l = l.sum ≡ sum (take l.line-index l.line-items) % 2 ^ 64
