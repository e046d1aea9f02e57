-- `sine::quarter_wave` meets its contract: one test, which antt computes, compares each of the 513 constants with its definition.
use lib.Dec.{eqb, eqb→eq}
use Rattle.algebra.specs.Rounding.{nearest}
use Rattle.sine.specs.ExactSine.{denominator, factorial, term, added, taken_away, quarter_sine}
use Rattle.sine.specs.Wave.{table_entry, quarter_list}
use Rattle.algebra.proofs.Computed.{table-is-rule}
use Rattle.sine.proofs.quarter_wave.Goals as goal

pub returns : goal.returns
unfolding quarter_list table_entry nearest quarter_sine added taken_away term denominator factorial
returns c = table-is-rule eqb eqb→eq table_entry _ tt
