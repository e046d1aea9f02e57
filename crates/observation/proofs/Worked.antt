-- The edges of the refusal table's rows "fresh record" and "add row" and of their order with the whole answers, each a table of rows and one computed theorem over it.
use mathlib.Core.List.{List, [], ◌∷◌, map}
use mathlib.Core.Path.{◌≡◌, refl}
use Prim.Native.Nat.{ℕ, ◌+◌, ◌*◌, ◌<◌, max}
use native.Mathlib.Omega.{arith}
use borrow.Author.Tests.{ne_eqb}
use lib.ListN.{get_or}
use Rattle.algebra.specs.Lists.{tabulate, joined}
use Rattle.algebra.specs.Rounding.{nearest}
use Rattle.algebra.proofs.Lists.{get_or-tabulate}
use Rattle.rows.specs.Systems.{is_system}
use Rattle.rows.specs.Editions.{is_edition}
use Rattle.rows.specs.Setups.{setup_of, is_setup, same_setup}
use Rattle.rows.specs.declared.Row.{Row}
use Rattle.rows.specs.declared.Setup.{Setup}
use Rattle.rows.specs.Rows.{first_values}
use Rattle.records.specs.declared.Observation.{Observation}
use Rattle.books.specs.Book.{smoothed_next, book_step}
use Rattle.books.specs.Smoothing.{smoothed_value}
use Rattle.latest_rows.specs.Latest.{with_latest}
use Rattle.records.specs.Soundness.{none_above, all_zero, is_sound}
use Rattle.observation.specs.Calls.{RecordAnswer, empty_record, fresh_refusal, fresh_answer, book_at, next_book, with_row, row_checks, add_row_refusal, add_row_answer}
use Rattle.records.proofs.WorkedRecords.{keeping, only, single, rows_of, observed_under, observed}

-- ---- fresh record

-- a setup, and what is answered for it
pub record Fresh : Type 0 where
  pub setup : Setup
  pub answered : RecordAnswer

-- by the refusal and the system and edition of the record that is answered; the rest of it is zeros
abbrev fresh : ℕ → ℕ → ℕ → ℕ → ℕ → Fresh
fresh system edition refusal recorded under =
    record { setup = setup_of system edition; answered = record { refusal = refusal; observation = observed_under under recorded 0 0 0 0 } }

abbrev fresh_records : List Fresh
fresh_records =
    fresh 10 0 0 10 0 ∷
    fresh 12 1 0 12 1 ∷
    fresh 0 1 1 10 0 ∷
    fresh 11 0 1 10 0 ∷
    fresh 50 0 1 10 0 ∷
    fresh 12 2 19 10 0 ∷
    -- two faults: 1 before 19
    fresh 11 2 1 10 0 ∷
    []

fresh_records-worked : map (λ c. fresh_answer c.setup) fresh_records ≡ map (λ c. c.answered) fresh_records
unfolding fresh_answer empty_record fresh_refusal is_system is_edition
fresh_records-worked = refl

-- ---- add row

-- a record, the setup of a row whose last value is 8944, and what is answered
pub record Call : Type 0 where
  pub observation : Observation
  pub setup : Setup
  pub answered : RecordAnswer

abbrev taken : Observation → Setup → Observation → Call
taken observation setup after =
    record { observation = observation; setup = setup; answered = record { refusal = 0; observation = after } }

-- a refused row leaves the record as it was
abbrev refused : Observation → ℕ → ℕ → ℕ → Call
refused observation system edition refusal =
    record {
      observation = observation;
      setup = setup_of system edition;
      answered = record { refusal = refusal; observation = observation };
    }

abbrev first_fourteen : List ℕ
first_fourteen = 1 ∷ 2 ∷ 3 ∷ 4 ∷ 5 ∷ 6 ∷ 7 ∷ 8 ∷ 9 ∷ 10 ∷ 11 ∷ 12 ∷ 13 ∷ 14 ∷ 0 ∷ []

abbrev fifteen : List ℕ
fifteen = 1 ∷ 2 ∷ 3 ∷ 4 ∷ 5 ∷ 6 ∷ 7 ∷ 8 ∷ 9 ∷ 10 ∷ 11 ∷ 12 ∷ 13 ∷ 14 ∷ 15 ∷ []

abbrev calls : List Call
calls =
    -- the first row; later the smoothed value is 1000/8012 of 8944 and 7012/8012 of 5, to the nearest
    taken (observed 10 0 0 0 0) (setup_of 10 0) (keeping (single 39 8944) (observed 10 1 8944 8944 8944)) ∷
    taken (observed 12 1 5 6 7) (setup_of 12 0) (keeping (single 79 8944) (observed 12 2 1121 1127 1121)) ∷
    taken (observed_under 1 12 1 5 6 7) (setup_of 12 1) (keeping (single 79 8944) (observed_under 1 12 2 1121 1127 1121)) ∷
    taken (observed 12 1 5 2 3) (setup_of 12 0) (keeping (single 79 8944) (observed 12 2 1121 1123 1121)) ∷
    taken (observed 10 44999 5 6 9999) (setup_of 10 0) (keeping (single 599 8944) (observed 10 45000 1121 1127 9999)) ∷
    -- the fifteenth row takes the last place, the sixteenth that of the first, and the one after it that of the second
    taken (keeping (rows_of 40 first_fourteen) (observed 10 14 5 6 7)) (setup_of 10 0)
    (keeping (rows_of 40 (1 ∷ 2 ∷ 3 ∷ 4 ∷ 5 ∷ 6 ∷ 7 ∷ 8 ∷ 9 ∷ 10 ∷ 11 ∷ 12 ∷ 13 ∷ 14 ∷ 8944 ∷ [])) (observed 10 15 1121 1127 1121)) ∷
    taken (keeping (rows_of 40 fifteen) (observed 10 15 5 6 7)) (setup_of 10 0)
    (keeping (rows_of 40 (8944 ∷ 2 ∷ 3 ∷ 4 ∷ 5 ∷ 6 ∷ 7 ∷ 8 ∷ 9 ∷ 10 ∷ 11 ∷ 12 ∷ 13 ∷ 14 ∷ 15 ∷ [])) (observed 10 16 1121 1127 1121)) ∷
    taken (keeping (rows_of 40 fifteen) (observed 10 16 5 6 7)) (setup_of 10 0)
    (keeping (rows_of 40 (1 ∷ 8944 ∷ 3 ∷ 4 ∷ 5 ∷ 6 ∷ 7 ∷ 8 ∷ 9 ∷ 10 ∷ 11 ∷ 12 ∷ 13 ∷ 14 ∷ 15 ∷ [])) (observed 10 17 1121 1127 1121)) ∷
    -- each fault; 8 by the system, by the edition, and by both
    refused (observed 10 0 5 6 7) 10 0 7 ∷
    refused (observed 10 45001 5 6 7) 10 0 7 ∷
    refused (keeping (single 40 1) (observed 10 1 5 6 7)) 10 0 7 ∷
    refused (observed_under 2 10 1 5 6 7) 10 0 7 ∷
    refused (observed 10 1 5 6 7) 11 0 1 ∷
    refused (observed 10 1 5 6 7) 10 2 19 ∷
    refused (observed 10 1 5 6 7) 12 0 8 ∷
    refused (observed 12 1 5 6 7) 10 0 8 ∷
    refused (observed 10 1 5 6 7) 10 1 8 ∷
    refused (observed_under 1 10 1 5 6 7) 10 0 8 ∷
    refused (observed_under 1 10 1 5 6 7) 12 0 8 ∷
    refused (observed 10 45000 5 6 7) 10 0 9 ∷
    refused (keeping (rows_of 40 fifteen) (observed 10 15 5 6 7)) 12 0 8 ∷
    -- two faults: 7 before 1, 1 before 19, 19 before 8, 8 before 9; and 7 before 19, 1 before 8
    refused (observed 11 1 5 6 7) 11 0 7 ∷
    refused (keeping (single 40 1) (observed 10 1 5 6 7)) 11 0 7 ∷
    refused (observed_under 2 10 1 5 6 7) 10 2 7 ∷
    refused (observed 10 1 5 6 7) 9 2 1 ∷
    refused (observed 10 1 5 6 7) 9 1 1 ∷
    refused (observed 10 1 5 6 7) 12 2 19 ∷
    refused (observed 10 45000 5 6 7) 12 0 8 ∷
    refused (observed 10 45000 5 6 7) 10 1 8 ∷
    []

calls-worked : map (λ c. add_row_answer c.observation (record { setup = c.setup; values = only 40 8944 })) calls
    ≡ map (λ c. c.answered) calls
unfolding add_row_answer add_row_refusal row_checks same_setup is_sound is_setup is_system is_edition none_above all_zero with_row with_latest first_values joined tabulate next_book book_at book_step smoothed_next smoothed_value nearest
calls-worked = refl

-- at every count from 1 on, however large, each order's smoothed value is (1000×new + 7012×old) / 8012 to the nearest; it is added to the sum, and the peak is the greater
every-later-row :
    (o : Observation) (row : Row) (i : ℕ) → i < 40 → 0 < o.windows →
    let next = nearest (1000 * get_or row.values i 0 + 7012 * get_or o.smoothed i 0) 8012 in
    (get_or (with_row o row).smoothed i 0 ≡ next)
    × (get_or (with_row o row).sum i 0 ≡ get_or o.sum i 0 + next)
    × (get_or (with_row o row).peak i 0 ≡ max (get_or o.peak i 0) next)
unfolding with_row next_book book_at book_step smoothed_next smoothed_value
every-later-row o row i inside some =
    rw (ne_eqb o.windows 0 (λ e. omega arith)) (get_or-tabulate 40 _ i 0 inside, get_or-tabulate 40 _ i 0 inside, get_or-tabulate 40 _ i 0 inside)
