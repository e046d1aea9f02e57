-- The latest rows of a record (document 02, card 8: "over the latest 15 windows", "The observation record keeps these rows").
-- Their values stand in one list, 40 of each row together, and the row of the n-th accepted call, counted from 0, stands at place n modulo 15 of the
-- rows: a new row is put where the oldest stood, and no other is moved.
use Rattle.std.specs.Prelude.{List, ◌++◌, ℕ, ◌+◌, ◌*◌, ◌%◌, length, get_or, take, drop, replicate}
use Rattle.algebra.specs.Lists.{tabulate}
use Rattle.rows.specs.Orders.{order_count}
use Rattle.rows.specs.Rows.{first_values}

-- the windows of a three-second value, at 0.2 s a window: the rows that a record keeps
abbrev pub rows_kept : ℕ
rows_kept = 15

-- the values of these rows
abbrev pub values_kept : ℕ
values_kept = rows_kept * order_count

-- the place of the first value of the n-th row
abbrev pub row_place : ℕ → ℕ
row_place n = n % rows_kept * order_count

-- "As a window arrives the oldest leaves": the kept values with those of the n-th row
unfoldable pub with_latest : ℕ → List ℕ → List ℕ → List ℕ
with_latest n values latest = take (row_place n) latest ++ (first_values values ++ drop (row_place n + order_count) latest)

-- what is kept after n rows of the order at place i, the oldest first
unfoldable pub latest_values : ℕ → List ℕ → ℕ → List ℕ
latest_values n latest i = tabulate rows_kept (λ j. get_or latest (row_place (n + j) + i) 0)

-- the last 15 of the values that have come, with "zeros where none has come yet"
unfoldable pub last_of : List ℕ → List ℕ
last_of values = drop (length values) (replicate rows_kept 0 ++ values)
