-- A new row among the latest leaves zeros where no row has come yet.
use mathlib.Core.Path.{◌≡◌}
use mathlib.Core.Bool.{true}
use mathlib.Core.List.{List}
use Prim.Native.Nat.{ℕ, ◌+◌, ◌-◌, ◌*◌, ◌%◌}
use native.Mathlib.Nat.{mod-le}
use native.Mathlib.Omega.{arith}
use lib.ListN.{length, take, drop}
use lib.Seq.{get_or-drop}
use Rattle.rows.specs.Orders.{order_count}
use Rattle.latest_rows.specs.Latest.{rows_kept, row_place, with_latest}
use Rattle.latest_rows.proofs.Latest.{drop-with_latest}
use Rattle.records.specs.Soundness.{none_above}
use Rattle.records.proofs.NoneAbove.{get_or-le-of-none-above, none-above-of-get_or-le}

-- so where zeros stood for the rows from the n-th on, zeros stand for those after it
pub zeros-with_latest :
    (n : ℕ) (values latest : List ℕ) →
    none_above 0 (drop (n * order_count) latest) ≡ true →
    none_above 0 (drop ((n + 1) * order_count) (with_latest n values latest)) ≡ true
zeros-with_latest n values latest zeros =
    let le = mod-le n rows_kept in
    let k = (n - n % rows_kept) * order_count in
    let front = length (take (row_place n) latest) in
    let place : (n + 1) * order_count ≡ row_place n + order_count + k = omega (arith, le) in
    none-above-of-get_or-le 0 _
    (λ i inside.
    rw (place, drop-with_latest n values latest k, get_or-drop _ latest i 0)
    (let there : row_place n + order_count + (row_place n - front + k) + i ≡ n * order_count + (order_count + (row_place n - front) + i) = omega (arith, le) in
    rw (there, ← get_or-drop (n * order_count) latest (order_count + (row_place n - front) + i) 0)
    (get_or-le-of-none-above 0 _ _ zeros)))
