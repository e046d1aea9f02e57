-- The calls that a user would make for windows back to back, in turn. proofs/Observed.antt shows that they come to the definition in Observe.antt.
use Rattle.std.specs.Prelude.{List, ℕ, zero, suc, ℤ, replicate}
use Rattle.refusals.specs.Answers.{unless_refused}
use Rattle.rows.specs.Rows.{RowAnswer, refused_row}
use Rattle.rows.specs.declared.Setup.{Setup}
use Rattle.spectral_lines.specs.Line.{line_count}
use Rattle.spectrum.specs.Spectrum.{spectrum_refusal, spectrum_exit}
use Rattle.kinds.specs.declared.Kind.{Kind}
use Rattle.records.specs.declared.Observation.{Observation}
use Rattle.observation.specs.Calls.{RecordAnswer, fresh_answer, add_row_answer}
use Rattle.groups.specs.Group.{group_row_answer}
use Rattle.observe.specs.Observe.{window_start}

-- the lines that a call is lent
abbrev pub lent_lines : List ℕ
lent_lines = replicate line_count 0

-- `spectrum`, and `group_row` of the lines that it leaves
unfoldable pub row_calls : Kind → Setup → List ℤ → ℕ → RowAnswer
row_calls kind setup recording at =
    unless_refused
    (spectrum_refusal recording at lent_lines)
    (group_row_answer kind setup (spectrum_exit recording at lent_lines))
    (record { refusal = spectrum_refusal recording at lent_lines; row = refused_row })

-- these two, and `add_row` of the row that they answer
unfoldable pub window_calls : Kind → List ℤ → ℕ → Observation → RecordAnswer
window_calls kind recording at o =
    unless_refused
    (row_calls kind o.setup recording at).refusal
    (add_row_answer o (row_calls kind o.setup recording at).row)
    (record { refusal = (row_calls kind o.setup recording at).refusal; observation = o })

-- `fresh_record`, then the calls for each window, until one is refused
unfoldable pub calls_after : Kind → Setup → List ℤ → ℕ → ℕ → RecordAnswer
calls_after kind setup recording start zero = fresh_answer setup
calls_after kind setup recording start (suc i) =
    let before = calls_after kind setup recording start i in
    unless_refused before.refusal (window_calls kind recording (window_start start i) before.observation) before
