-- One call more at the end of a list of calls.
use mathlib.Core.Path.{◌≡◌, refl}
use mathlib.Core.List.{List, [], ◌∷◌, ◌++◌}
use Prim.Native.Nat.{ℕ, ◌+◌}
use native.Mathlib.Numerals.{add-one}
use Rattle.algebra.specs.Lists.{tabulate}
use Rattle.rows.specs.declared.Row.{Row}
use Rattle.records.specs.declared.Observation.{Observation}
use Rattle.observation.specs.Calls.{add_row_answer}
use Rattle.observation.specs.RecordAfter.{record_after}

-- one call more at the end gets the record after the others
pub record-after-snoc :
    (o : Observation) (rows : List Row) (row : Row) →
    record_after o (rows ++ (row ∷ [])) ≡ (add_row_answer (record_after o rows) row).observation
unfolding record_after
record-after-snoc o [] row = refl
record-after-snoc o (first ∷ rows) row = record-after-snoc (add_row_answer o first).observation rows row

-- the same of the rows with the numbers 0 .. n
pub record-after-tabulate :
    (o : Observation) (n : ℕ) (row_of : ℕ → Row) →
    record_after o (tabulate (n + 1) row_of) ≡ (add_row_answer (record_after o (tabulate n row_of)) (row_of n)).observation
unfolding tabulate
record-after-tabulate o n row_of = rw (add-one n) (record-after-snoc o (tabulate n row_of) (row_of n))
