-- Worked outputs of harmlist in figures: a silent window and then document 01's pulse, of which group, subgroup and smoothed value all differ, and inputs that are refused.
use mathlib.Core.List.{List, [], ◌∷◌, ◌++◌, map}
use mathlib.Core.Bool.{false}
use mathlib.Core.Path.{◌≡◌, refl, ◌∙◌}
use Prim.Native.Nat.{ℕ, ◌*◌}
use Prim.Native.String.{String}
use native.Mathlib.Omega.{arith}
use lib.IntN.{ℤ}
use lib.ListN.{length, replicate}
use Rattle.algebra.specs.Largest.{largest}
use Rattle.algebra.specs.Lists.{tabulate, joined}
use Rattle.std.specs.List.{list_any}
use Rattle.algebra.specs.Rounding.{nearest}
use Rattle.algebra.specs.Weighted.{sum_over}
use Rattle.square_root.specs.Root.{root_of}
use Rattle.columns.specs.Text.{newline, bytes_of, right_justified}
use Rattle.columns.specs.Column.{is_whole, place_value, whole_number, negative_number, signed_number, after_blanks, column_number, decimal_within, decimal_text, number_text, column_text}
use Rattle.listing.specs.Listing.{header, order_line, order_text, orders_text, listing_text}
use Rattle.listing.specs.RefusalLine.{refusal_line}
use Rattle.rows.specs.declared.Row.{Row}
use Rattle.rows.specs.Orders.{is_order}
use Rattle.rows.specs.Rows.{first_values}
use Rattle.rows.specs.Systems.{is_system}
use Rattle.rows.specs.Editions.{is_edition}
use Rattle.rows.specs.Setups.{setup_of, is_setup, same_setup}
use Rattle.windows.specs.Window.{window_at, out_of_range}
use Rattle.spectral_lines.specs.Line.{lines_of}
use Rattle.spectral_lines.proofs.Pulse.{pulse, pulse-lines, silence, silence-lines}
use Rattle.kinds.specs.declared.Kind.{Kind}
use Rattle.kinds.specs.declared.Kind.TheVariants.{HarmonicGroup, HarmonicSubgroup}
use Rattle.kinds.specs.Kinds.{span_of, grouped_as}
use Rattle.spans.specs.Spans.{weights_in, weighted_sum}
use Rattle.groups.specs.Group.{group_refusal, value_over, group_value, group_answer, group_values, window_row}
use Rattle.books.specs.Book.{smoothed_next, book_step}
use Rattle.books.specs.Smoothing.{smoothed_value}
use Rattle.latest_rows.specs.Latest.{with_latest}
use Rattle.records.specs.Soundness.{none_above, all_zero, is_sound}
use Rattle.observation.specs.Calls.{empty_record, fresh_refusal, fresh_answer, book_at, next_book, with_row, row_checks, add_row_refusal, add_row_answer}
use Rattle.observation.specs.RecordAfter.{record_after}
use Rattle.recordings.specs.TextLines.{text_line_count, text_line_at, text_line_number, number_or0}
use Rattle.recordings.specs.InputRefusal.{no_system, number_refusal, text_line_refusal, first_of, refusal_before, end_refusal, input_refusal}
use Rattle.harmlist_output.specs.Output.{harmlist_output}
use Rattle.harmlist_output.proofs.RecordingText.{recording_text, rows_of, harmlist_output-recording}

-- ---- silence and then the pulse

abbrev heard : List ℤ
heard = silence ++ pulse

heard-windows :
    (window_at heard 0 ≡ silence) × (window_at heard 2048 ≡ pulse) × (list_any out_of_range heard ≡ false) × (length heard ≡ 2048 * 2)
unfolding window_at silence pulse out_of_range
heard-windows = (refl, refl, refl, refl)

-- the values of lines that are alike
flat-values :
    (group_values HarmonicGroup (setup_of 10 0) (replicate 512 0) ≡ replicate 40 0)
    × (group_values HarmonicGroup (setup_of 10 0) (replicate 512 4000000) ≡ replicate 40 8944)
    × (group_values HarmonicSubgroup (setup_of 10 0) (replicate 512 4000000) ≡ replicate 40 4898)
unfolding group_values group_answer group_refusal is_system is_edition is_order group_value value_over span_of grouped_as weights_in tabulate weighted_sum sum_over root_of largest
flat-values = (refl, refl, refl)

row-of :
    (kind : Kind) (window : List ℤ) (lines values : List ℕ) → lines_of window ≡ lines →
    group_values kind (setup_of 10 0) lines ≡ values → window_row kind (setup_of 10 0) window ≡ record { setup = setup_of 10 0; values = values }
unfolding window_row
row-of kind window lines values e f = rw (e, f)

abbrev row_with : ℕ → Row
row_with value = record { setup = setup_of 10 0; values = replicate 40 value }

heard-rows :
    (window_row HarmonicGroup (setup_of 10 0) silence ≡ row_with 0)
    × (window_row HarmonicGroup (setup_of 10 0) pulse ≡ row_with 8944)
    × (window_row HarmonicSubgroup (setup_of 10 0) pulse ≡ row_with 4898)
unfolding lines_of
heard-rows = (
  row-of HarmonicGroup silence _ _ (silence-lines 0 512) flat-values.0,
  row-of HarmonicGroup pulse _ _ (pulse-lines 0 512) flat-values.1,
  row-of HarmonicSubgroup pulse _ _ (pulse-lines 0 512) flat-values.2,
)

rows-of-both : rows_of HarmonicGroup (setup_of 10 0) heard 2 ≡ row_with 0 ∷ row_with 8944 ∷ []
unfolding tabulate
rows-of-both = rw (heard-windows.0, heard-windows.1, heard-rows.0, heard-rows.1)

-- •8: 0 and then 8944
smoothed-of-both : (record_after (fresh_answer (setup_of 10 0)).observation (row_with 0 ∷ row_with 8944 ∷ [])).smoothed ≡ replicate 40 1116
unfolding record_after fresh_answer fresh_refusal add_row_answer add_row_refusal row_checks same_setup is_sound is_setup is_system is_edition none_above all_zero empty_record with_row with_latest first_values tabulate next_book book_at book_step smoothed_next smoothed_value nearest
smoothed-of-both = refl

-- the orders in their column
abbrev orders : List String
orders =
    "  1" ∷ "  2" ∷ "  3" ∷ "  4" ∷ "  5" ∷ "  6" ∷ "  7" ∷ "  8" ∷ "  9" ∷ " 10" ∷
    " 11" ∷ " 12" ∷ " 13" ∷ " 14" ∷ " 15" ∷ " 16" ∷ " 17" ∷ " 18" ∷ " 19" ∷ " 20" ∷
    " 21" ∷ " 22" ∷ " 23" ∷ " 24" ∷ " 25" ∷ " 26" ∷ " 27" ∷ " 28" ∷ " 29" ∷ " 30" ∷
    " 31" ∷ " 32" ∷ " 33" ∷ " 34" ∷ " 35" ∷ " 36" ∷ " 37" ∷ " 38" ∷ " 39" ∷ " 40" ∷ []

abbrev heard_listing : List ℕ
heard_listing =
    bytes_of "  h       group    subgroup    smoothed\n" ++
    joined (map (λ order. bytes_of order ++ bytes_of "        8944        4898        1116\n") orders)

heard-listing : listing_text (replicate 40 8944) (replicate 40 4898) (replicate 40 1116) ≡ heard_listing
unfolding listing_text orders_text order_text order_line header column_text right_justified number_text decimal_text decimal_within bytes_of joined
heard-listing = refl

pub heard-output : harmlist_output (recording_text 10 heard) ≡ heard_listing
unfolding is_system
heard-output =
    harmlist_output-recording 10 heard 2 refl heard-windows.2 heard-windows.3 (omega arith) (omega arith)
    ∙ rw (rows-of-both, heard-windows.1, heard-rows.1, heard-rows.2, smoothed-of-both) heard-listing

-- ---- refused inputs

abbrev line : String → List ℕ
line text = bytes_of text ++ (newline ∷ [])

-- an input, and the line that is written
abbrev refusals : List (List ℕ × String)
refusals =
    ([], "refused 13\n") ∷
    (line "      11", "refused  1\n") ∷
    (line "      12", "refused 10\n") ∷
    (line "      10" ++ line "  131072", "refused  3\n") ∷
    (line "      10" ++ line "  131071", "refused  2\n") ∷
    []

refusals-written : map (λ c. harmlist_output c.0) refusals ≡ map (λ c. bytes_of c.1) refusals
unfolding harmlist_output refusal_line column_text right_justified number_text decimal_text decimal_within input_refusal end_refusal refusal_before first_of text_line_refusal number_refusal no_system text_line_number text_line_at number_or0 text_line_count bytes_of column_number signed_number after_blanks whole_number negative_number is_whole place_value out_of_range is_system
refusals-written = refl
