-- The worked numbers of document 01 that are marked •, as one table, and those of the pulse under A1 (document 02, card 7).
-- A row names what is asked and the number that it comes to; `Holds` says what it claims, of the definitions that the contracts cite.
use Rattle.std.specs.Prelude.{◌≡◌, true, List, [], ◌∷◌, ℕ, ◌-◌, ◌<◌, ℤ, pos, negsuc, get_or, replicate}
use Prim.Native.String.{String}
use Rattle.refusals.specs.Numbers.{no_refusal, not_a_column}
use Rattle.refusals.specs.Answers.{answer}
use Rattle.sine.specs.Wave.{table_entry}
use Rattle.windows.specs.Window.{window_length}
use Rattle.spectral_lines.specs.Line.{line_count, lines_of}
use Rattle.kinds.specs.declared.Kind.{Kind}
use Rattle.kinds.specs.declared.Kind.TheVariants.{Component, HarmonicGroup, HarmonicSubgroup, InterharmonicGroup, InterharmonicCentredSubgroup}
use Rattle.groups.specs.Group.{group_answer}
use Rattle.rows.specs.Orders.{order_count, is_order}
use Rattle.rows.specs.Setups.{setup_of}
use Rattle.rows.specs.declared.Row.{Row}
use Rattle.records.specs.declared.Observation.{Observation}
use Rattle.observation.specs.Calls.{fresh_answer}
use Rattle.observation.specs.RecordAfter.{record_after}
use Rattle.verdict.specs.declared.Verdict.{Verdict}
use Rattle.verdict.specs.declared.Verdict.TheVariants.{Within, Close, Over}
use Rattle.verdict.specs.Call.{Given, verdict_answer}
use Rattle.verdict.specs.Question.{asked}
use Rattle.columns.specs.Text.{bytes_of}
use Rattle.columns.specs.Calls.{column_read_answer}

-- "Pulse is sample 0 = 1000, the rest 0"
unfoldable pub pulse : List ℤ
pulse = pos 1000 ∷ replicate (window_length - 1) (pos 0)

-- a row of system 10 under edition 2 with one value at every order
unfoldable pub row_of : ℕ → Row
row_of value = record { setup = setup_of 10 0; values = replicate order_count value }

-- the record after rows with these values
unfoldable pub after_rows : List Row → Observation
after_rows rows = record_after (fresh_answer (setup_of 10 0)).observation rows

pub data Case : Type 0 where
  -- an entry of the table, and its number
  entry : ℕ → ℕ → Case
  -- the number of every line of the pulse
  every_line : ℕ → Case
  -- a kind, a system, and the pulse's value at every order under edition 2
  group : Kind → ℕ → ℕ → Case
  -- a kind, a system, and the pulse's values under A1 at order 1 and at every other
  group_under_a1 : Kind → ℕ → ℕ → ℕ → Case
  -- two rows, and the smoothed value after them
  smoothed : ℕ → ℕ → ℕ → Case
  -- the value of one window at order 3, and the verdict at K = 1000000 in class A
  verdict : ℕ → Verdict → Case
  -- a text, and the number that it is read as
  column : String → ℤ → Case
  -- a text that is no column
  no_column : String → Case

unfoldable pub Holds : Case → Type 0
Holds (entry m number) = table_entry m ≡ number
Holds (every_line number) = (k : ℕ) → k < line_count → get_or (lines_of pulse) k 0 ≡ number
Holds (group kind system value) =
    (order : ℕ) → is_order order ≡ true → group_answer kind (setup_of system 0) order (lines_of pulse) ≡ answer no_refusal value
Holds (group_under_a1 kind system first value) =
    (group_answer kind (setup_of system 1) 1 (lines_of pulse) ≡ answer no_refusal first) ×
    ((order : ℕ) → is_order order ≡ true → (order ≡ 1 → ⊥) → group_answer kind (setup_of system 1) order (lines_of pulse) ≡ answer no_refusal value)
Holds (smoothed first second value) =
    (after_rows (row_of first ∷ row_of second ∷ [])).smoothed ≡ replicate order_count value
Holds (verdict value given) = verdict_answer (after_rows (row_of value ∷ [])) (asked 3 65 1000000) ≡ Given given
Holds (column text number) = column_read_answer (bytes_of text) ≡ record { refusal = no_refusal; value = number }
Holds (no_column text) = column_read_answer (bytes_of text) ≡ record { refusal = not_a_column; value = pos 0 }

unfoldable pub cases : List Case
cases =
    -- •1
    entry 0 0 ∷
    entry 256 759250125 ∷
    entry 512 1073741824 ∷
    -- •2
    every_line 4000000 ∷
    -- •3
    group Component 10 2828 ∷
    group Component 12 2828 ∷
    -- •4
    group HarmonicSubgroup 10 4898 ∷
    group HarmonicSubgroup 12 4898 ∷
    -- •5
    group HarmonicGroup 10 8944 ∷
    group HarmonicGroup 12 9797 ∷
    -- •6
    group InterharmonicGroup 10 8485 ∷
    group InterharmonicGroup 12 9380 ∷
    -- •7
    group InterharmonicCentredSubgroup 10 7483 ∷
    group InterharmonicCentredSubgroup 12 8485 ∷
    -- •8
    smoothed 8944 0 7828 ∷
    smoothed 0 8944 1116 ∷
    -- •9
    verdict 2299988 (Within 3) ∷
    verdict 2299989 (Close 3) ∷
    verdict 2300012 (Close 3) ∷
    verdict 2300013 (Over 3) ∷
    -- •10
    column "      -7" (negsuc 6) ∷
    no_column "      07" ∷
    no_column "      -0" ∷
    []

-- under A1 (document 02, card 7): the harmonic group of order 1 is its component alone, the others and the other kinds are as under edition 2
unfoldable pub cases_under_a1 : List Case
cases_under_a1 =
    group_under_a1 HarmonicGroup 10 2828 8944 ∷
    group_under_a1 HarmonicGroup 12 2828 9797 ∷
    group_under_a1 Component 10 2828 2828 ∷
    group_under_a1 Component 12 2828 2828 ∷
    group_under_a1 HarmonicSubgroup 10 4898 4898 ∷
    group_under_a1 HarmonicSubgroup 12 4898 4898 ∷
    group_under_a1 InterharmonicGroup 10 8485 8485 ∷
    group_under_a1 InterharmonicGroup 12 9380 9380 ∷
    group_under_a1 InterharmonicCentredSubgroup 10 7483 7483 ∷
    group_under_a1 InterharmonicCentredSubgroup 12 8485 8485 ∷
    []
