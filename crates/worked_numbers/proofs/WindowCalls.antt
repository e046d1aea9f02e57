-- The exported calls on a window's lines, rows and recordings in figures: the calls' own refusals, each two neighbouring checks in their order, and what the
-- caller's numbers hold after. A lent number is 77 before the call, a lent word 7. kifsang_spectrum and kifsang_lines_from have no check of their own: their tables
-- are those of `spectrum`.
use mathlib.Core.Path.{refl}
use mathlib.Core.List.{List, [], ◌∷◌, ◌++◌}
use Prim.Native.Nat.{ℕ, ◌+◌, ◌^◌}
use lib.IntN.{ℤ, pos}
use lib.ListN.{replicate}
use Rattle.algebra.specs.Largest.{largest}
use Rattle.algebra.specs.Lists.{tabulate, joined}
use Rattle.std.specs.List.{list_any}
use Rattle.algebra.specs.Weighted.{sum_over}
use Rattle.square_root.specs.Root.{root_of}
use Rattle.kinds.specs.Kinds.{span_of, grouped_as}
use Rattle.spans.specs.Spans.{weights_in, weighted_sum}
use Rattle.groups.specs.Group.{value_over, group_value, group_refusal, group_answer, group_values, group_row_refusal}
use Rattle.rows.specs.Systems.{is_system}
use Rattle.rows.specs.Editions.{is_edition}
use Rattle.rows.specs.Setups.{setup_of}
use Rattle.rows.specs.Orders.{is_order}
use Rattle.wide_numbers.specs.Squares.{sum_of_squares}
use Rattle.distortion.specs.Distortion.{distortion_of, distortion_answer}
use Rattle.observation.specs.Calls.{empty_record}
use Rattle.observation.specs.RecordAfter.{record_after}
use Rattle.windows.specs.Window.{window_at, out_of_range}
use Rattle.observe.specs.Observe.{window_rows, observe_checks, observe_refusal}
use Rattle.kind_numbers.specs.Kinds.{kinds, is_kind, kind_with}
use Rattle.exported_windows.specs.GroupCalls.{group_call_refusal, group_call_exit, row_call_refusal, row_call_exit, distortion_call_refusal, distortion_call_exit}
use Rattle.record_words.specs.Halves.{packed}
use Rattle.record_words.specs.Words.{parts_of, words_of}
use Rattle.panel.specs.Panel.{panel_refusal}
use Rattle.exported_lines.specs.PanelCall.{panel_call_refusal, panel_call_lines_exit, panel_call_values_exit}
use Rattle.exported_observe.specs.ObserveCall.{observe_call_refusal, observe_call_exit}
use Rattle.worked_numbers.proofs.Tables.{Alike}

-- ---- kifsang_group_value

-- lines 25, 29 to 32 and 36, so that the third order of system 10 has another value in each kind
lines : List ℕ
lines =
    replicate 25 0 ++ (100 ∷ 0 ∷ 0 ∷ 0 ∷ 50 ∷ 50 ∷ 50 ∷ 50 ∷ 0 ∷ 0 ∷ 0 ∷ 300 ∷ replicate 475 0)

group_value_of : ℕ → ℕ → ℕ → ℕ → List ℕ → ℕ × ℕ
group_value_of kind system edition order lent =
    let setup = setup_of system edition in
    (group_call_refusal kind setup order lent, group_call_exit kind setup order lent 77)

group-values-worked :
    Alike
    ((group_value_of 0 10 0 3 lines, (0, 10)) ∷
    (group_value_of 1 10 0 3 lines, (0, 22)) ∷
    (group_value_of 2 10 0 3 lines, (0, 17)) ∷
    (group_value_of 3 10 0 3 lines, (0, 28)) ∷
    (group_value_of 4 10 0 3 lines, (0, 26)) ∷
    (group_value_of 5 10 0 3 lines, (101, 77)) ∷
    -- the first order and the second, under each edition
    (group_value_of 1 12 0 1 (replicate 512 50), (0, 34)) ∷
    (group_value_of 1 12 1 1 (replicate 512 50), (0, 10)) ∷
    (group_value_of 1 12 0 2 (replicate 512 50), (0, 34)) ∷
    (group_value_of 1 12 1 2 (replicate 512 50), (0, 34)) ∷
    -- 101 before 1 before 19 before 6 before 4 before 5
    (group_value_of 5 11 2 41 [], (101, 77)) ∷
    (group_value_of 4 11 2 41 [], (1, 77)) ∷
    (group_value_of 4 10 2 41 [], (19, 77)) ∷
    (group_value_of 4 10 1 41 [], (6, 77)) ∷
    (group_value_of 4 10 0 40 (replicate 511 (2 ^ 59 + 1)), (4, 77)) ∷
    (group_value_of 4 10 0 40 (replicate 512 (2 ^ 59 + 1)), (5, 77)) ∷
    [])
unfolding Alike group_value_of lines group_call_refusal group_call_exit is_kind kind_with kinds group_refusal is_system is_edition is_order group_value value_over root_of largest span_of grouped_as weights_in weighted_sum sum_over tabulate
group-values-worked = refl

-- ---- kifsang_row

row_for : ℕ → ℕ → ℕ → List ℕ → List ℕ → ℕ × List ℕ
row_for kind system edition lent values =
    let setup = setup_of system edition in
    (row_call_refusal kind setup lent values, row_call_exit kind setup lent values)

rows-worked :
    Alike
    ((row_for 0 10 0 (replicate 512 50) (replicate 40 7), (0, replicate 40 10)) ∷
    (row_for 1 12 0 (replicate 512 50) (replicate 40 7), (0, replicate 40 34)) ∷
    (row_for 1 12 1 (replicate 512 50) (replicate 40 7), (0, 10 ∷ replicate 39 34)) ∷
    -- 101 before 102 before 1 before 19 before 4 before 5
    (row_for 5 11 2 [] (replicate 39 7), (101, replicate 39 7)) ∷
    (row_for 4 11 2 [] (replicate 39 7), (102, replicate 39 7)) ∷
    (row_for 4 11 2 [] (replicate 41 7), (102, replicate 41 7)) ∷
    (row_for 4 11 2 [] (replicate 40 7), (1, replicate 40 7)) ∷
    (row_for 4 10 2 [] (replicate 40 7), (19, replicate 40 7)) ∷
    (row_for 4 10 1 (replicate 511 (2 ^ 59 + 1)) (replicate 40 7), (4, replicate 40 7)) ∷
    (row_for 4 10 1 (replicate 512 (2 ^ 59 + 1)) (replicate 40 7), (5, replicate 40 7)) ∷
    -- 101 alone, and 102 alone
    (row_for 5 10 0 (replicate 512 50) (replicate 40 7), (101, replicate 40 7)) ∷
    (row_for 1 10 0 (replicate 512 50) (replicate 39 7), (102, replicate 39 7)) ∷
    (row_for 1 12 1 (replicate 512 50) (replicate 41 7), (102, replicate 41 7)) ∷
    [])
unfolding Alike row_for row_call_refusal row_call_exit is_kind kind_with kinds group_row_refusal group_refusal is_system is_edition is_order group_values group_answer group_value value_over root_of largest span_of grouped_as weights_in weighted_sum sum_over tabulate
rows-worked = refl

-- ---- kifsang_distortion

distortion_for : List ℕ → ℕ × ℕ
distortion_for values = (distortion_call_refusal values, distortion_call_exit values 77)

distortions-worked :
    Alike
    ((distortion_for (1000 ∷ 300 ∷ 400 ∷ replicate 37 0), (0, 500)) ∷
    -- 102 before 12
    (distortion_for (replicate 39 0), (102, 77)) ∷
    (distortion_for (replicate 41 0), (102, 77)) ∷
    (distortion_for (replicate 40 0), (12, 77)) ∷
    -- 102 alone
    (distortion_for (replicate 39 5), (102, 77)) ∷
    (distortion_for (replicate 41 5), (102, 77)) ∷
    [])
unfolding Alike distortion_for distortion_call_refusal distortion_call_exit distortion_answer distortion_of sum_of_squares sum_over largest
distortions-worked = refl

-- ---- kifsang_panel_row

-- the refusal, the lines and the values
panel_for : ℕ → ℕ → List ℤ → ℕ → List ℕ → List ℕ → ℕ × (List ℕ × List ℕ)
panel_for system edition recording start lent values =
    let setup = setup_of system edition in (
      panel_call_refusal setup recording start lent values,
      (panel_call_lines_exit setup recording start lent values, panel_call_values_exit setup recording start lent values),
    )

panels-worked :
    Alike
    -- 102 before 1 before 19 before 2 before 4 before 3
    ((panel_for 11 2 [] 0 (replicate 12 8) (replicate 39 7), (102, (replicate 12 8, replicate 39 7))) ∷
    (panel_for 11 2 [] 0 (replicate 12 8) (replicate 41 7), (102, (replicate 12 8, replicate 41 7))) ∷
    (panel_for 11 2 [] 0 (replicate 12 8) (replicate 40 7), (1, (replicate 12 8, replicate 40 7))) ∷
    (panel_for 10 2 [] 0 (replicate 12 8) (replicate 40 7), (19, (replicate 12 8, replicate 40 7))) ∷
    (panel_for 10 1 (replicate 2048 (pos 131072)) 1 (replicate 12 8) (replicate 40 7), (2, (replicate 12 8, replicate 40 7))) ∷
    (panel_for 12 0 (replicate 2048 (pos 131072)) 0 (replicate 12 8) (replicate 40 7), (4, (replicate 12 8, replicate 40 7))) ∷
    (panel_for 12 0 (replicate 2048 (pos 131072)) 0 (replicate 14 8) (replicate 40 7), (4, (replicate 14 8, replicate 40 7))) ∷
    (panel_for 12 0 (replicate 2048 (pos 131072)) 0 (replicate 13 8) (replicate 40 7), (3, (replicate 13 8, replicate 40 7))) ∷
    -- 102 alone
    (panel_for 10 0 (replicate 2048 (pos 5)) 0 (replicate 13 8) (replicate 39 7), (102, (replicate 13 8, replicate 39 7))) ∷
    (panel_for 12 1 (replicate 2048 (pos 5)) 0 (replicate 13 8) (replicate 41 7), (102, (replicate 13 8, replicate 41 7))) ∷
    [])
unfolding Alike panel_for panel_call_refusal panel_call_lines_exit panel_call_values_exit panel_refusal is_system is_edition window_at out_of_range
panels-worked = refl

-- ---- kifsang_observe

observe_for : ℕ → ℕ → ℕ → List ℤ → ℕ → ℕ → List ℕ → ℕ × List ℕ
observe_for kind system edition recording start windows words =
    let setup = setup_of system edition in
    (observe_call_refusal kind setup recording start windows words, observe_call_exit kind setup recording start windows words)

observations-worked :
    Alike
    -- no window: a fresh record
    ((observe_for 1 12 1 [] 9 0 (replicate 423 7), (0, 12 ∷ 1 ∷ replicate 421 0)) ∷
    -- 101 before 102 before 1 before 19 before 2 before 3
    (observe_for 5 11 2 [] 0 1 (replicate 422 7), (101, replicate 422 7)) ∷
    (observe_for 4 11 2 [] 0 1 (replicate 422 7), (102, replicate 422 7)) ∷
    (observe_for 4 11 2 [] 0 1 (replicate 424 7), (102, replicate 424 7)) ∷
    (observe_for 4 11 2 [] 0 1 (replicate 423 7), (1, replicate 423 7)) ∷
    (observe_for 4 10 2 [] 0 1 (replicate 423 7), (19, replicate 423 7)) ∷
    (observe_for 4 10 0 (replicate 2048 (pos 131072)) 1 1 (replicate 423 7), (2, replicate 423 7)) ∷
    (observe_for 4 10 1 (replicate 2048 (pos 131072)) 0 2 (replicate 423 7), (3, replicate 423 7)) ∷
    -- 101 alone, and 102 alone
    (observe_for 5 10 0 (replicate 2048 (pos 5)) 0 1 (replicate 423 7), (101, replicate 423 7)) ∷
    (observe_for 1 10 0 (replicate 2048 (pos 5)) 0 1 (replicate 422 7), (102, replicate 422 7)) ∷
    (observe_for 1 12 1 (replicate 2048 (pos 5)) 0 1 (replicate 424 7), (102, replicate 424 7)) ∷
    [])
unfolding Alike observe_for observe_call_refusal observe_call_exit is_kind kind_with kinds observe_refusal observe_checks window_rows tabulate is_system is_edition window_at out_of_range record_after empty_record words_of parts_of packed joined
observations-worked = refl
