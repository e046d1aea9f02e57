-- What the lines of an input hold (document 01, "Columns and the listing"): the system, the samples of each window, and the record after windows.
use Rattle.std.specs.Prelude.{List, ℕ, ◌+◌, ◌-◌, ◌*◌, ◌/◌, ℤ, nat_abs}
use Rattle.algebra.specs.Lists.{tabulate}
use Rattle.windows.specs.Window.{window_length}
use Rattle.kinds.specs.declared.Kind.{Kind}
use Rattle.kinds.specs.declared.Kind.TheVariants.{HarmonicGroup}
use Rattle.groups.specs.Group.{window_row}
use Rattle.rows.specs.Editions.{edition2}
use Rattle.rows.specs.Setups.{setup_of}
use Rattle.rows.specs.declared.Row.{Row}
use Rattle.rows.specs.declared.Setup.{Setup}
use Rattle.records.specs.declared.Observation.{Observation}
use Rattle.observation.specs.Calls.{fresh_answer}
use Rattle.observation.specs.RecordAfter.{record_after}
use Rattle.recordings.specs.TextLines.{text_line_count, number_at}

-- the system, on line 0
unfoldable pub system_in : List ℕ → ℕ
system_in text = nat_abs (number_at text 0)

-- with edition 2, which `harmlist` keeps (document 02, card 7)
abbrev pub setup_in : List ℕ → Setup
setup_in text = setup_of (system_in text) edition2

-- the samples of window w, on the lines after the system's, windows back to back
unfoldable pub window_in : List ℕ → ℕ → List ℤ
window_in text w = tabulate window_length (λ j. number_at text (window_length * w + j + 1))

-- how many whole windows there are
unfoldable pub window_count : List ℕ → ℕ
window_count text = (text_line_count text - 1) / window_length

-- the rows of the first n windows
unfoldable pub rows_in : Kind → List ℕ → ℕ → List Row
rows_in kind text n = tabulate n (λ w. window_row kind (setup_in text) (window_in text w))

-- the record after those windows' harmonic groups: "smoothed is that of the harmonic groups"
unfoldable pub record_in : List ℕ → ℕ → Observation
record_in text n = record_after (fresh_answer (setup_in text)).observation (rows_in HarmonicGroup text n)
