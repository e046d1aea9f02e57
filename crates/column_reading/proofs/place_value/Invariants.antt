-- `column_reading::place_value` meets its contract. The loop's invariant: what is read so far is the value of the digits so far.
use Rattle.std.proofs.Common.{◌≡◌, take}
use Rattle.columns.specs.Column.{place_value}
use Rattle.column_reading.proofs.place_value.Given as goal

abbrev pub invariant-loop-digit : goal.invariant-loop-digit
invariant-loop-digit l = l.value ≡ place_value (take l.digit-index l.digits)
