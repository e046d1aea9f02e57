-- `windows::any_out_of_range` meets its contract. The loop's invariant: whether one of the samples so far is out of range.
use Rattle.std.proofs.Common.{◌≡◌, take}
use Rattle.std.specs.List.{list_any}
use Rattle.windows.specs.Window.{out_of_range}
use Rattle.windows.proofs.any_out_of_range.Given as goal

abbrev pub invariant-loop-sample : goal.invariant-loop-sample
invariant-loop-sample l = l.found ≡ list_any out_of_range (take l.sample-index l.window)
