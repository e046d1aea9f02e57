-- What the call `fold_window` leaves in the list that it is lent. It answers the refusal of the row "spectrum" of document 01's refusal table.
use Rattle.std.specs.Prelude.{Bool, List, ℕ, ℤ}
use Rattle.algebra.specs.Lists.{tabulate}
use Rattle.refusals.specs.Answers.{unless_refused}
use Rattle.windows.specs.Window.{window_length, window_at}
use Rattle.windows.specs.Checks.{window_refusal}
use Rattle.folding.specs.Halving.{folded_window}

-- a folded window, place by place
abbrev pub folded_list : List ℤ → List ℤ
folded_list window = tabulate window_length (folded_window window)

-- the list at exit: the window, folded, or on a refusal what it held
unfoldable pub folded_exit : List ℤ → ℕ → Bool → List ℤ → List ℤ
folded_exit recording start wrong_count list =
    unless_refused (window_refusal recording start wrong_count) (folded_list (window_at recording start)) list
