-- What the hypotheses of demand 3 ask no more than: each is met by all that document 01 names. A claim that asks more would be proved as well; here it is refused.
use mathlib.Core.Path.{◌≡◌, refl}
use mathlib.Core.List.{List, map}
use Prim.Native.Nat.{ℕ, ◌≤◌, ◌<◌}
use native.Mathlib.Omega.{arith}
use borrow.Author.Tests.{le-ltb}
use lib.IntN.{ℤ, pos, nat_abs}
use lib.ListN.{length, get_or}
use Rattle.algebra.specs.Weighted.{Everywhere}
use Rattle.algebra.proofs.Lists.{list_any-false}
use Rattle.spectral_lines.specs.Line.{lines_of}
use Rattle.windows.specs.Window.{out_of_range, InRange}
use Rattle.rows.specs.declared.Setup.{Setup}
use Rattle.rows.specs.Rows.{ValuesFit}
use Rattle.kinds.specs.declared.Kind.{Kind}
use Rattle.groups.specs.Group.{group_values}
use Rattle.observation.specs.BookCalls.{AcceptedFit}
use Rattle.accuracy.specs.CallList.{CallList, accepted_rows}
use Rattle.accuracy.specs.WorkedRows.{Worked, Sampled, SampledRows}
use Rattle.accuracy.specs.Claim.{WorkedList}

-- 2,048 samples in −131,071..131,071 are a window in range
window-any :
    (window : List ℤ) → length window ≡ 2048 → ((j : ℕ) → j < 2048 → nat_abs (get_or window j (pos 0)) ≤ 131071) → InRange window
unfolding out_of_range
window-any window whole fit =
    record {
      whole-window = whole;
      samples = list_any-false out_of_range window (pos 0) (λ j inside. le-ltb 131071 (nat_abs (get_or window j (pos 0))) (fit j (omega (arith, inside, whole))));
    }

-- the values of such a window's lines, of any kind, are with any setup a row that is worked from samples
row_any :
    (kind : Kind) (setup : Setup) (window : List ℤ) → InRange window →
    Worked kind (record { setup = setup; values = group_values kind setup (lines_of window) }) window
row_any kind setup window in-range = record { in-range = in-range; values = refl }

-- a list is worked where each accepted row is; of refused rows nothing is asked
list_any :
    (kind : Kind) (list : CallList) → Everywhere (λ row. (window : List ℤ) × Worked kind row window) (accepted_rows list) → WorkedList kind list
unfolding WorkedList
list_any kind list worked = worked

-- rows with any windows that they are worked from
samples-any :
    (kind : Kind) (sampled : List Sampled) → Everywhere (λ s. Worked kind s.row s.window) sampled →
    SampledRows kind (map (λ s. s.row) sampled)
samples-any kind sampled worked = record { sampled = sampled; same_rows = refl; worked = worked }

-- every 32-bit value fits, and of refused rows nothing is asked
rows-any :
    (list : CallList) → Everywhere (λ row. (i : ℕ) → get_or row.values i 0 ≤ 4294967295) (accepted_rows list) →
    AcceptedFit list.setup 0 list.rows
unfolding ValuesFit
rows-any list fit = fit
