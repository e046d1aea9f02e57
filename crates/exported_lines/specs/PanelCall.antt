-- What the call for a row with little scratch answers, and what the caller's buffers then hold: document 02, card 6, after the call's own check.
use Rattle.std.specs.Prelude.{List, [], ◌∷◌, ℕ, ℤ, replicate}
use Rattle.refusals.specs.Answers.{unless_refused}
use Rattle.rows.specs.Orders.{order_count}
use Rattle.rows.specs.declared.Setup.{Setup}
use Rattle.windows.specs.Window.{window_at}
use Rattle.spectral_lines.specs.Line.{lines_of}
use Rattle.kinds.specs.declared.Kind.TheVariants.{HarmonicGroup}
use Rattle.groups.specs.Group.{group_values}
use Rattle.panel.specs.Panel.{panel_line_count, panel_refusal}
use Rattle.exported_answers.specs.OwnChecks.{own_first, word_count_check}

-- 102; then 1, 19, 2, 4 and 3
unfoldable pub panel_call_refusal : Setup → List ℤ → ℕ → List ℕ → List ℕ → ℕ
panel_call_refusal setup recording start lines values =
    own_first (word_count_check order_count values ∷ []) (panel_refusal setup recording start lines)

-- the lines at exit: 13 zeros; on a refusal what they were
unfoldable pub panel_call_lines_exit : Setup → List ℤ → ℕ → List ℕ → List ℕ → List ℕ
panel_call_lines_exit setup recording start lines values =
    unless_refused (panel_call_refusal setup recording start lines values) (replicate panel_line_count 0) lines

-- the values at exit: those of the harmonic groups of the window's 512 lines; on a refusal what they were
unfoldable pub panel_call_values_exit : Setup → List ℤ → ℕ → List ℕ → List ℕ → List ℕ
panel_call_values_exit setup recording start lines values =
    unless_refused (panel_call_refusal setup recording start lines values)
    (group_values HarmonicGroup setup (lines_of (window_at recording start)))
    values
