-- An exported call that is refused, whatever refuses it, leaves all that it is lent as it was: a law for each call.
use mathlib.Core.List.{List}
use mathlib.Core.Path.{◌≡◌}
use Prim.Native.Nat.{ℕ}
use lib.IntN.{ℤ}
use Rattle.refusals.proofs.Answers.{unless_refused-refused}
use Rattle.rows.specs.declared.Setup.{Setup}
use Rattle.spectrum.specs.Spectrum.{spectrum_refusal, spectrum_exit}
use Rattle.spectral_lines.specs.Calls.{lines_from_refusal, lines_from_exit}
use Rattle.limits.specs.Call.{limit_refusal}
use Rattle.verdict.specs.declared.Question.{Question}
use Rattle.columns.specs.Calls.{column_read_answer, column_write_refusal, column_write_exit}
use Rattle.exported_windows.specs.GroupCalls.{group_call_refusal, group_call_exit, row_call_refusal, row_call_exit, distortion_call_refusal, distortion_call_exit}
use Rattle.exported_lines.specs.PanelCall.{panel_call_refusal, panel_call_lines_exit, panel_call_values_exit}
use Rattle.exported_observe.specs.ObserveCall.{observe_call_refusal, observe_call_exit}
use Rattle.exported_limits.specs.LimitCall.{limit_numerator_exit, limit_denominator_exit}
use Rattle.exported_records.specs.RecordCalls.{fresh_call_refusal, fresh_call_exit, add_row_call_refusal, add_row_call_exit}
use Rattle.exported_judgements.specs.ThreeSecondCall.{three_second_call_refusal, three_second_call_exit}
use Rattle.exported_judgements.specs.VerdictCall.{verdict_call_refusal, verdict_call_exit}
use Rattle.exported_text.specs.ColumnCalls.{column_call_exit}
use Rattle.exported_text.specs.ListingCall.{listing_call_refusal, listing_call_exit, listing_call_count_exit}

abbrev Refused : ℕ → Type 0
Refused refusal = refusal ≡ 0 → ⊥

-- ---- windows

spectrum-refused :
    (recording : List ℤ) (start : ℕ) (lines : List ℕ) → Refused (spectrum_refusal recording start lines) →
    spectrum_exit recording start lines ≡ lines
unfolding spectrum_exit
spectrum-refused recording start lines f = unless_refused-refused (spectrum_refusal recording start lines) _ lines f

lines-from-refused :
    (recording : List ℤ) (start first : ℕ) (lines : List ℕ) → Refused (lines_from_refusal recording start first lines) →
    lines_from_exit recording start first lines ≡ lines
unfolding lines_from_exit
lines-from-refused recording start first lines f = unless_refused-refused (lines_from_refusal recording start first lines) _ lines f

group-refused :
    (kind : ℕ) (setup : Setup) (order : ℕ) (lines : List ℕ) (value : ℕ) → Refused (group_call_refusal kind setup order lines) →
    group_call_exit kind setup order lines value ≡ value
unfolding group_call_exit
group-refused kind setup order lines value f = unless_refused-refused (group_call_refusal kind setup order lines) _ value f

row-refused :
    (kind : ℕ) (setup : Setup) (lines values : List ℕ) → Refused (row_call_refusal kind setup lines values) →
    row_call_exit kind setup lines values ≡ values
unfolding row_call_exit
row-refused kind setup lines values f = unless_refused-refused (row_call_refusal kind setup lines values) _ values f

distortion-refused :
    (values : List ℕ) (parts : ℕ) → Refused (distortion_call_refusal values) → distortion_call_exit values parts ≡ parts
unfolding distortion_call_exit
distortion-refused values parts f = unless_refused-refused (distortion_call_refusal values) _ parts f

panel-refused :
    (setup : Setup) (recording : List ℤ) (start : ℕ) (lines values : List ℕ) →
    Refused (panel_call_refusal setup recording start lines values) →
    (panel_call_lines_exit setup recording start lines values ≡ lines) × (panel_call_values_exit setup recording start lines values ≡ values)
unfolding panel_call_lines_exit panel_call_values_exit
panel-refused setup recording start lines values f =
    let refusal = panel_call_refusal setup recording start lines values in
    (unless_refused-refused refusal _ lines f, unless_refused-refused refusal _ values f)

observe-refused :
    (kind : ℕ) (setup : Setup) (recording : List ℤ) (start windows : ℕ) (words : List ℕ) →
    Refused (observe_call_refusal kind setup recording start windows words) →
    observe_call_exit kind setup recording start windows words ≡ words
unfolding observe_call_exit
observe-refused kind setup recording start windows words f =
    unless_refused-refused (observe_call_refusal kind setup recording start windows words) _ words f

-- ---- limits and records

limit-refused :
    (order letter numerator denominator : ℕ) → Refused (limit_refusal order letter) →
    (limit_numerator_exit order letter numerator ≡ numerator) × (limit_denominator_exit order letter denominator ≡ denominator)
unfolding limit_numerator_exit limit_denominator_exit
limit-refused order letter numerator denominator f =
    let refusal = limit_refusal order letter in
    (unless_refused-refused refusal _ numerator f, unless_refused-refused refusal _ denominator f)

fresh-refused : (setup : Setup) (words : List ℕ) → Refused (fresh_call_refusal setup words) → fresh_call_exit setup words ≡ words
unfolding fresh_call_exit
fresh-refused setup words f = unless_refused-refused (fresh_call_refusal setup words) _ words f

add-row-refused :
    (words : List ℕ) (setup : Setup) (values : List ℕ) → Refused (add_row_call_refusal words setup values) →
    add_row_call_exit words setup values ≡ words
unfolding add_row_call_exit
add-row-refused words setup values f = unless_refused-refused (add_row_call_refusal words setup values) _ words f

verdict-refused :
    (words : List ℕ) (q : Question) (verdict : ℕ) → Refused (verdict_call_refusal words q) → verdict_call_exit words q verdict ≡ verdict
unfolding verdict_call_exit
verdict-refused words q verdict f = unless_refused-refused (verdict_call_refusal words q) _ verdict f

three-second-refused :
    (words : List ℕ) (order value : ℕ) → Refused (three_second_call_refusal words order) → three_second_call_exit words order value ≡ value
unfolding three_second_call_exit
three-second-refused words order value f = unless_refused-refused (three_second_call_refusal words order) _ value f

-- ---- texts

column-read-refused : (text : List ℕ) (number : ℤ) → Refused (column_read_answer text).refusal → column_call_exit text number ≡ number
unfolding column_call_exit
column-read-refused text number f = unless_refused-refused (column_read_answer text).refusal _ number f

column-write-refused : (buffer : List ℕ) (number : ℤ) → Refused (column_write_refusal buffer number) → column_write_exit buffer number ≡ buffer
column-write-refused buffer number f = unless_refused-refused (column_write_refusal buffer number) _ buffer f

listing-refused :
    (group subgroup smoothed buffer : List ℕ) (written : ℕ) → Refused (listing_call_refusal group subgroup smoothed buffer) →
    (listing_call_exit group subgroup smoothed buffer ≡ buffer) × (listing_call_count_exit group subgroup smoothed buffer written ≡ written)
unfolding listing_call_exit listing_call_count_exit
listing-refused group subgroup smoothed buffer written f =
    let refusal = listing_call_refusal group subgroup smoothed buffer in
    (unless_refused-refused refusal _ buffer f, unless_refused-refused refusal _ written f)
