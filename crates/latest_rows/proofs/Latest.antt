-- The latest rows of a record: what a new row changes of their values and of those of an order, and what
-- it leaves; and the last values of a list where there are enough.
use mathlib.Core.Path.{◌≡◌, ap, ap₂, ◌∙◌}
use mathlib.Core.List.{List, [], ◌∷◌, ◌++◌, map}
use Prim.Native.Nat.{ℕ, suc, ◌+◌, ◌-◌, ◌*◌, ◌%◌, ◌<◌, ◌≤◌}
use native.Mathlib.Nat.{mod-lt, div-add-mod, add-mod_right}
use native.Mathlib.Decide.{dec_lt}
use native.Mathlib.Omega.{arith}
use lib.ListN.{length, get_or, take, drop, replicate, length-append, length-drop, length-take, length-map, get_or-replicate, get_or-append}
use lib.Seq.{length-take-le, get_or-append-add, get_or-take, get_or-drop, drop-append-add, drop-drop}
use Rattle.algebra.specs.Lists.{tabulate}
use Rattle.algebra.proofs.Lists.{length-tabulate, get_or-tabulate, tabulate-eq, tabulate-last, tabulate-first, tabulate-same}
use Rattle.rows.specs.Orders.{order_count}
use Rattle.rows.specs.Rows.{first_values}
use Rattle.rows.proofs.Rows.{first_values-whole}
use Rattle.latest_rows.specs.Latest.{rows_kept, values_kept, row_place, with_latest, latest_values, last_of}

-- the 40 values of a row are its first values
pub ruleset whole_rows = (first_values-whole)

-- a row ends within the kept values
pub row_fits : (n : ℕ) → row_place n + order_count ≤ values_kept
row_fits n = omega (arith, mod-lt n {m = rows_kept} (omega arith))

-- of 15 rows that follow each other no two stand at the same place
other_place : (n k : ℕ) → 0 < k → k < rows_kept → (n + k) % rows_kept ≡ n % rows_kept → ⊥
other_place n k positive less same =
    omega (arith, div-add-mod (n + k) rows_kept, div-add-mod n rows_kept, same)

firsts : (values : List ℕ) → length (first_values values) ≡ order_count
unfolding first_values
firsts values = length-tabulate order_count _

-- ---- a new row

module _ (n : ℕ) (values latest : List ℕ) where
  -- among 600 values
  module _ (whole : length latest ≡ values_kept) where
    before-row : length (take (row_place n) latest) ≡ row_place n
    before-row = length-take-le (row_place n) latest (omega (arith, row_fits n, whole))

    pub length-with_latest : length (with_latest n values latest) ≡ values_kept
    unfolding with_latest
    length-with_latest =
        simp (length-append, length-drop) (omega (arith, before-row, firsts values, row_fits n, whole))

    -- it stands at its place
    own_row : (i : ℕ) → i < order_count → get_or (with_latest n values latest) (row_place n + i) 0 ≡ get_or values i 0
    unfolding with_latest first_values
    own_row i inside =
        let rest = drop (row_place n + order_count) latest in
        rw before-row at (get_or-append-add (take (row_place n) latest) (first_values values ++ rest) i 0) ∙
        (get_or-append (first_values values) rest 0 i (omega (arith, firsts values)) ∙
        get_or-tabulate order_count (λ j. get_or values j 0) i 0 inside)

    -- the others stand as they were
    row_before : (place : ℕ) → place < row_place n → get_or (with_latest n values latest) place 0 ≡ get_or latest place 0
    unfolding with_latest
    row_before place less =
        get_or-append (take (row_place n) latest) _ 0 place (omega (arith, before-row)) ∙
        get_or-take (row_place n) latest place 0 less

    row-after : (k : ℕ) → get_or (with_latest n values latest) (row_place n + (order_count + k)) 0 ≡ get_or latest (row_place n + (order_count + k)) 0
    unfolding with_latest
    row-after k =
        let rest = drop (row_place n + order_count) latest in
        rw before-row at (get_or-append-add (take (row_place n) latest) (first_values values ++ rest) (order_count + k) 0) ∙
        (rw (firsts values) at (get_or-append-add (first_values values) rest k 0) ∙
        (get_or-drop (row_place n + order_count) latest k 0 ∙ ap (λ place. get_or latest place 0) (omega arith)))

    other_row :
        (m i : ℕ) → (m ≡ n % rows_kept → ⊥) → i < order_count →
        get_or (with_latest n values latest) (m * order_count + i) 0 ≡ get_or latest (m * order_count + i) 0
    other_row m i other inside = by_order (dec_lt m (n % rows_kept))
      where
        by_order : Dec (m < n % rows_kept) → get_or (with_latest n values latest) (m * order_count + i) 0 ≡ get_or latest (m * order_count + i) 0
        by_order (yes less) = row_before (m * order_count + i) (omega arith)
        by_order (no not-less) =
            let k = m * order_count + i - (row_place n + order_count) in
            let place : m * order_count + i ≡ row_place n + (order_count + k) = omega (arith, other) in
            rw place (row-after k)

    -- no kept value is above a bound on both
    pub with_latest-le :
        (bound : ℕ) → ((i : ℕ) → get_or values i 0 ≤ bound) → ((i : ℕ) → get_or latest i 0 ≤ bound) →
        (place : ℕ) → get_or (with_latest n values latest) place 0 ≤ bound
    with_latest-le bound new old place = by_place (dec_lt place (row_place n)) (dec_lt place (row_place n + order_count))
      where
        by_place : Dec (place < row_place n) → Dec (place < row_place n + order_count) → get_or (with_latest n values latest) place 0 ≤ bound
        by_place (yes less) _ = rw (row_before place less) (old place)
        by_place (no not-less) (yes inside) =
            let at : place ≡ row_place n + (place - row_place n) = omega arith in
            rw (at, own_row (place - row_place n) (omega arith)) (new (place - row_place n))
        by_place (no not-less) (no outside) =
            let k = place - (row_place n + order_count) in
            let at : place ≡ row_place n + (order_count + k) = omega arith in
            rw (at, row-after k) (old (row_place n + (order_count + k)))

    -- "As a window arrives the oldest leaves": of the values of an order, oldest first, the first goes and the new one comes last
    pub latest_values-next :
        (i : ℕ) → i < order_count →
        latest_values (n + 1) (with_latest n values latest) i ≡ drop 1 (latest_values n latest i ++ (get_or values i 0 ∷ []))
    unfolding latest_values
    latest_values-next i inside =
        let kept : ℕ → ℕ = λ j. get_or latest (row_place (n + j) + i) 0 in
        let next : ℕ → ℕ = λ j. get_or (with_latest n values latest) (row_place (n + 1 + j) + i) 0 in
        let front : tabulate 14 next ≡ tabulate 14 (λ j. kept (suc j)) =
        tabulate-eq 14 next (λ j. kept (suc j))
        (λ j below.
        let later : n + 1 + j ≡ n + suc j = omega arith in
        rw later (other_row ((n + suc j) % rows_kept) i (other_place n (suc j) (omega arith) (omega arith)) inside)) in
        let last : next 14 ≡ get_or values i 0 =
        let turn : n + 1 + 14 ≡ n + rows_kept = omega arith in
        rw (turn, add-mod_right n rows_kept) (own_row i inside) in
        tabulate-last 14 next ∙
        (ap₂ (λ (xs : List ℕ) (x : ℕ). xs ++ (x ∷ [])) front last ∙
        rw (tabulate-first 14 kept))

  -- behind the row nothing is changed, among any count of values
  pub drop-with_latest :
      (k : ℕ) →
      drop (row_place n + order_count + k) (with_latest n values latest) ≡
      drop (row_place n + order_count + (row_place n - length (take (row_place n) latest) + k)) latest
  unfolding with_latest
  drop-with_latest k =
      let front = take (row_place n) latest in
      let rest = drop (row_place n + order_count) latest in
      let short : length front ≤ row_place n = omega (arith, length-take (row_place n) latest) in
      let behind = row_place n - length front + k in
      let place : row_place n + order_count + k ≡ length front + (length (first_values values) + behind) = omega (arith, firsts values, short) in
      rw place (
      drop-append-add front (first_values values ++ rest) (length (first_values values) + behind) ∙
      (drop-append-add (first_values values) rest behind ∙ drop-drop behind (row_place n + order_count) latest))

-- ---- the values of an order in a record with no window

pub latest_values-empty : (i : ℕ) → i < order_count → latest_values 0 (replicate values_kept 0) i ≡ replicate rows_kept 0
unfolding latest_values
latest_values-empty i inside =
    tabulate-same rows_kept _ 0
    (λ j below. get_or-replicate {A = ℕ} values_kept (row_place (0 + j) + i) 0 0 (omega (arith, row_fits (0 + j))))

-- ---- the last values of a list

-- where 15 have come, zeros are none of them
pub last_of-enough :
    {A : Type 0} (f : A → ℕ) (places : List A) → rows_kept ≤ length places →
    last_of (map f places) ≡ drop (length places - rows_kept) (map f places)
unfolding last_of
last_of-enough f places enough =
    let zeros : List ℕ = replicate rows_kept 0 in
    let count : length (map f places) ≡ length zeros + (length places - rows_kept) = length-map places f ∙ omega arith in
    ap (λ n. drop n (zeros ++ map f places)) count ∙ drop-append-add zeros (map f places) (length places - rows_kept)
