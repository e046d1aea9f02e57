-- `rows::words::first_values` meets its contract: a list of 40 is filled from the first word on.
use mathlib.Core.Path.{◌∙◌}
use Rattle.rows.proofs.Rows.{first_values-is}
use Rattle.rows.proofs.words.first_values.Goals as goal

pub returns : goal.returns
returns c = c.put_numbers.ensures ∙ first_values-is _
