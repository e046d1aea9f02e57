-- The latest rows after a list of calls: the last 15 accepted rows of the list, and zeros before them
-- where there are fewer. The windows that the record counts are the accepted rows.
use mathlib.Core.Path.{◌≡◌, refl, sym, ◌∙◌}
use mathlib.Core.Bool.{true}
use mathlib.Core.List.{List, [], ◌∷◌, ◌++◌, map, append_assoc, append-nil}
use Prim.Native.Nat.{ℕ, ◌+◌, ◌<◌, ◌≤◌}
use native.Mathlib.Nat.{add-zero, zero-add}
use native.Mathlib.Omega.{arith}
use lib.ListN.{length, drop, length-append}
use lib.Seq.{drop-append-le, drop-drop}
use Rattle.rows.specs.Setups.{is_setup}
use Rattle.rows.specs.declared.Setup.{Setup}
use Rattle.rows.specs.Orders.{order_count}
use Rattle.rows.specs.declared.Row.{Row}
use Rattle.records.specs.declared.Observation.{Observation}
use Rattle.latest_rows.specs.Latest.{values_kept, latest_values, last_of}
use Rattle.records.specs.Soundness.{is_sound}
use Rattle.observation.specs.Calls.{empty_record, fresh_answer, with_row}
use Rattle.observation.specs.RecordAfter.{record_after}
use Rattle.observation.specs.BookCalls.{accepts, accepted_calls, value_at, AcceptedFit}
use Rattle.observation.proofs.SoundRecord.{by-acceptance, answer-sound, empty-record-sound, fresh-of-known}
use Rattle.latest_rows.proofs.Latest.{length-with_latest, latest_values-next, latest_values-empty}

-- the values of the rows that a record accepts in turn, of the order at a place
abbrev accepted_values : Setup → ℕ → List Row → ℕ → List ℕ
accepted_values setup count rows i = map (value_at i) (accepted_calls (λ row. row) (accepts setup) count rows)

-- what a record keeps of an order
abbrev latest_at : Observation → ℕ → List ℕ
latest_at o i = latest_values o.windows o.latest i

-- one value that comes before others, each in place of the oldest
one-first :
    (kept : List ℕ) (value : ℕ) (values : List ℕ) →
    drop (length values) (drop 1 (kept ++ (value ∷ [])) ++ values) ≡ drop (length (value ∷ values)) (kept ++ (value ∷ values))
one-first kept value values =
    let room : 1 ≤ length (kept ++ (value ∷ [])) = simp length-append (omega arith) in
    let count : 1 + length values ≡ length (value ∷ values) = omega arith in
    rw (← drop-append-le 1 (kept ++ (value ∷ [])) values room, append_assoc, drop-drop (length values) 1 (kept ++ (value ∷ values)))
    (rw count)

latest-after :
    (o : Observation) (rows : List Row) (i : ℕ) → i < order_count →
    is_sound o ≡ true → AcceptedFit o.setup o.windows rows → length o.latest ≡ values_kept →
    let values = accepted_values o.setup o.windows rows i in
    latest_at (record_after o rows) i ≡ drop (length values) (latest_at o i ++ values)
unfolding record_after accepted_calls with_row
latest-after o [] i inside sound fits whole = sym (append-nil (latest_at o i))
latest-after o (row ∷ rows) i inside sound fits whole =
    let after = answer-sound o row rows sound fits in
    by-acceptance Kept o row sound
    (λ e next-sound next_fits.
    rw e
    (latest-after (with_row o row) rows i inside next-sound next_fits (length-with_latest o.windows row.values o.latest whole) ∙
    (rw (latest_values-next o.windows row.values o.latest whole i inside) (one-first (latest_at o i) (value_at i row) _))))
    (λ e next-sound next_fits. rw e (latest-after o rows i inside next-sound next_fits whole))
    after.0 after.1
  where
    -- what is to be shown of the record after the first call
    Kept : Observation → Type 0
    Kept next =
        is_sound next ≡ true → AcceptedFit next.setup next.windows rows →
        let values = accepted_values o.setup o.windows (row ∷ rows) i in
        latest_at (record_after next rows) i ≡ drop (length values) (latest_at o i ++ values)

-- the count of windows grows by the accepted rows
windows-after :
    (o : Observation) (rows : List Row) → is_sound o ≡ true → AcceptedFit o.setup o.windows rows →
    (record_after o rows).windows ≡ o.windows + length (accepted_calls (λ row. row) (accepts o.setup) o.windows rows)
unfolding record_after accepted_calls with_row
windows-after o [] sound fits = sym (add-zero o.windows)
windows-after o (row ∷ rows) sound fits =
    let after = answer-sound o row rows sound fits in
    by-acceptance Counted o row sound
    (λ e next-sound next_fits.
    rw e (windows-after (with_row o row) rows next-sound next_fits ∙ omega arith))
    (λ e next-sound next_fits. rw e (windows-after o rows next-sound next_fits))
    after.0 after.1
  where
    Counted : Observation → Type 0
    Counted next =
        is_sound next ≡ true → AcceptedFit next.setup next.windows rows →
        (record_after next rows).windows ≡ o.windows + length (accepted_calls (λ row. row) (accepts o.setup) o.windows (row ∷ rows))

-- from a fresh record on it is the count of accepted rows
pub fresh-record-after-windows :
    (setup : Setup) (rows : List Row) → is_setup setup ≡ true → AcceptedFit setup 0 rows →
    (record_after (fresh_answer setup).observation rows).windows ≡ length (accepted_calls (λ row. row) (accepts setup) 0 rows)
unfolding empty_record
fresh-record-after-windows setup rows known fits =
    rw (fresh-of-known setup known)
    (windows-after (empty_record setup) rows (empty-record-sound setup known) fits ∙ zero-add _)

-- and what is kept is the values of the last 15 of them
pub fresh-record-after-latest :
    (setup : Setup) (rows : List Row) (i : ℕ) → is_setup setup ≡ true → i < order_count → AcceptedFit setup 0 rows →
    latest_at (record_after (fresh_answer setup).observation rows) i ≡ last_of (accepted_values setup 0 rows i)
unfolding empty_record last_of
fresh-record-after-latest setup rows i known inside fits =
    rw (fresh-of-known setup known)
    (latest-after (empty_record setup) rows i inside (empty-record-sound setup known) fits refl ∙
    rw (latest_values-empty i inside))
