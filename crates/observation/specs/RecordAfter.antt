-- The record after a list of add row calls (document 01, "The list"): each call gets the record that the call before returned.
use Rattle.std.specs.Prelude.{List, [], ◌∷◌}
use Rattle.rows.specs.declared.Row.{Row}
use Rattle.records.specs.declared.Observation.{Observation}
use Rattle.observation.specs.Calls.{add_row_answer}

-- refused calls included
unfoldable pub record_after : Observation → List Row → Observation
record_after o [] = o
record_after o (row ∷ rows) = record_after (add_row_answer o row).observation rows
