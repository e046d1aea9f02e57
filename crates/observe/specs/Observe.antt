-- The record after windows back to back (document 01, "The list"): the rows of one kind that are worked from them are added to a fresh record, one after the other.
-- The refusals are those of the calls in the order in which they are made: a fresh record, then for each window its lines, its row, and the row added.
use Rattle.std.specs.Prelude.{Bool, List, [], ◌∷◌, ◌++◌, ℕ, zero, suc, ◌+◌, ◌*◌, leb, ℤ}
use Rattle.algebra.specs.Lists.{tabulate}
use Rattle.refusals.specs.Numbers.{record_full}
use Rattle.refusals.specs.Answers.{first_fault, unless_refused}
use Rattle.rows.specs.Setups.{setup_checks}
use Rattle.rows.specs.declared.Setup.{Setup}
use Rattle.rows.specs.declared.Row.{Row}
use Rattle.windows.specs.Window.{window_length, window_at}
use Rattle.windows.specs.Checks.{short_check, range_check}
use Rattle.kinds.specs.declared.Kind.{Kind}
use Rattle.records.specs.Soundness.{most_windows}
use Rattle.observation.specs.Calls.{RecordAnswer, empty_record, refused_record}
use Rattle.observation.specs.RecordAfter.{record_after}
use Rattle.groups.specs.Group.{window_row}

-- where window i begins
abbrev pub window_start : ℕ → ℕ → ℕ
window_start start i = start + window_length * i

-- the rows of the first windows
unfoldable pub window_rows : Kind → Setup → List ℤ → ℕ → ℕ → List Row
window_rows kind setup recording start count =
    tabulate count (λ i. window_row kind setup (window_at recording (window_start start i)))

-- what the window that begins at a place is refused for, where so many windows are held: 2 and 3 of the row "spectrum", 9 of the row "add row".
-- The other checks of these rows and of the row "group value" find nothing: the buffer has 512 lines, a window in range leaves none above 2^59, and the row has the setup of a sound record.
abbrev pub add_window_checks : List ℤ → ℕ → ℕ → List (Bool × ℕ)
add_window_checks recording at held =
    short_check recording at ∷ range_check recording at ∷ (leb most_windows held, record_full) ∷ []

-- 1 and 19 of the row "fresh record", then the checks of window 0, of window 1, ..
unfoldable pub observe_checks : Setup → List ℤ → ℕ → ℕ → List (Bool × ℕ)
observe_checks setup recording start zero = setup_checks setup
observe_checks setup recording start (suc i) =
    observe_checks setup recording start i ++ add_window_checks recording (window_start start i) i

unfoldable pub observe_refusal : Setup → List ℤ → ℕ → ℕ → ℕ
observe_refusal setup recording start count = first_fault (observe_checks setup recording start count)

-- a refusal answers as a refused fresh record does: system 10, edition 2, zeros
unfoldable pub observe_answer : Kind → Setup → List ℤ → ℕ → ℕ → RecordAnswer
observe_answer kind setup recording start count =
    record {
      refusal = observe_refusal setup recording start count;
      observation =
          unless_refused
          (observe_refusal setup recording start count)
          (record_after (empty_record setup) (window_rows kind setup recording start count))
          refused_record;
    }
