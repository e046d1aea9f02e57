-- Worked inputs with their refusals in document 01's figures, by one computed test over a table each: whole inputs, and single lines by their number and place.
-- Each refusal, two on one line or input in their order, and both sides of an edge.
use mathlib.Core.Bool.{true}
use mathlib.Core.List.{List, [], ◌∷◌, ◌++◌}
use Rattle.std.specs.Prelude.{Option, None, Some}
use mathlib.Core.Path.{◌≡◌, refl}
use Prim.Native.Nat.{ℕ}
use Prim.Native.String.{String}
use lib.Dec.{eqb}
use lib.IntN.{ℤ, pos, negsuc}
use Rattle.algebra.specs.Computed.{all_pass}
use Rattle.columns.specs.Text.{newline, bytes_of}
use Rattle.columns.specs.Column.{is_whole, place_value, whole_number, negative_number, signed_number, after_blanks, column_number}
use Rattle.windows.specs.Window.{out_of_range}
use Rattle.rows.specs.Systems.{is_system}
use Rattle.rows.specs.Setups.{setup_of}
use Rattle.recordings.specs.TextLines.{text_line_count, text_line_at, text_line_number, number_or0, number_at}
use Rattle.recordings.specs.Windows.{system_in, setup_in}
use Rattle.recordings.specs.InputRefusal.{no_system, number_refusal, text_line_refusal, first_of, refusal_before, end_refusal, input_refusal}

-- a text and a newline
abbrev line : String → List ℕ
line text = bytes_of text ++ (newline ∷ [])

-- an input, and what refuses it
abbrev refusals : List (List ℕ × ℕ)
refusals =
    ([], 13) ∷
    (bytes_of "      10", 13) ∷
    (line "       10", 13) ∷
    (line "      10", 10) ∷
    (line "      12", 10) ∷
    (line "      11", 1) ∷
    (line "     -10", 1) ∷
    (line "      10" ++ line "  131071", 2) ∷
    (line "      10" ++ line " -131071", 2) ∷
    (line "      10" ++ line "  131072", 3) ∷
    (line "      10" ++ line " -131072", 3) ∷
    (line "      10" ++ line "      07", 13) ∷
    (line "      10" ++ line "      -0", 13) ∷
    (line "      10" ++ bytes_of "  131072", 13) ∷
    (line "      10" ++ line "  131072" ++ line "      07", 3) ∷
    (line "      10" ++ line "      07" ++ line "  131072", 13) ∷
    (line "      11" ++ line "      07", 1) ∷
    []

pub worked-refusals : all_pass (λ i input. eqb (input_refusal input.0) input.1) refusals ≡ true
unfolding input_refusal end_refusal refusal_before first_of text_line_refusal number_refusal no_system text_line_number text_line_at number_or0 text_line_count bytes_of column_number signed_number after_blanks whole_number negative_number is_whole place_value out_of_range is_system
worked-refusals = refl

-- both systems are read under edition 2
setups-worked : (setup_in (line "      10") ≡ setup_of 10 0) × (setup_in (line "      12") ≡ setup_of 12 0)
unfolding system_in number_at text_line_number text_line_at number_or0 bytes_of column_number signed_number after_blanks whole_number is_whole place_value
setups-worked = (refl, refl)

-- The number on a line, the line's place, and its refusal. The lines of window 45,001 are 92,160,001 to 92,162,048.
abbrev text_line_refusals : List (Option ℤ × ℕ × ℕ)
text_line_refusals =
    (None, 0, 13) ∷
    (Some (pos 10), 0, 0) ∷
    (Some (pos 12), 0, 0) ∷
    (Some (pos 11), 0, 1) ∷
    (Some (negsuc 9), 0, 1) ∷
    (Some (pos 131072), 0, 1) ∷
    (None, 1, 13) ∷
    (Some (pos 131072), 1, 3) ∷
    (Some (pos 11), 1, 0) ∷
    (None, 92160001, 13) ∷
    (Some (pos 131072), 92160001, 3) ∷
    (Some (pos 500), 92160001, 0) ∷
    (None, 92162047, 13) ∷
    (Some (pos 131072), 92162047, 3) ∷
    (Some (pos 500), 92162047, 0) ∷
    (None, 92162048, 13) ∷
    (Some (pos 131072), 92162048, 3) ∷
    (Some (pos 500), 92162048, 9) ∷
    (None, 92162049, 13) ∷
    (Some (pos 131072), 92162049, 3) ∷
    (Some (pos 500), 92162049, 0) ∷
    []

pub worked-text-lines : all_pass (λ i row. eqb (number_refusal row.0 row.1) row.2) text_line_refusals ≡ true
unfolding number_refusal no_system number_or0 out_of_range is_system
worked-text-lines = refl
