-- The edges of soundness: a table of records and one computed theorem over it.
use mathlib.Core.Bool.{Bool, true, false}
use mathlib.Core.List.{List, [], ◌∷◌, map}
use mathlib.Core.Path.{◌≡◌, refl}
use Rattle.rows.specs.Systems.{is_system}
use Rattle.rows.specs.Editions.{is_edition}
use Rattle.rows.specs.Setups.{is_setup}
use Rattle.records.specs.declared.Observation.{Observation}
use Rattle.records.specs.Soundness.{none_above, all_zero, is_sound}
use Rattle.records.proofs.WorkedRecords.{observed_under, observed, keeping, single}

-- a record, and whether it is sound
abbrev records : List (Observation × Bool)
records =
    (observed 10 0 0 0 0, true) ∷
    (observed 12 0 0 0 0, true) ∷
    (observed 11 0 0 0 0, false) ∷
    -- A1, and no edition
    (observed_under 1 10 0 0 0 0, true) ∷
    (observed_under 2 10 0 0 0 0, false) ∷
    (observed_under 4294967295 10 0 0 0 0, false) ∷
    -- the largest numbers, and one more of each
    (observed 10 1 4294967295 4294967295 4294967295, true) ∷
    (observed 10 1 4294967296 0 0, false) ∷
    (observed 10 1 0 4294967296 0, false) ∷
    (observed 10 1 0 0 4294967296, false) ∷
    (observed 10 45000 0 193273528275000 0, true) ∷
    (observed 10 45000 0 193273528275001 0, false) ∷
    (observed 10 45001 0 0 0, false) ∷
    -- numbers that no rows give: smoothed above peak and sum, and peak above smoothed and sum
    (observed 10 1 4294967295 0 0, true) ∷
    (observed 12 2 3 1 2, true) ∷
    (observed 10 1 0 0 4294967295, true) ∷
    -- no window means zeros
    (observed 10 0 1 0 0, false) ∷
    (observed 10 0 0 1 0, false) ∷
    (observed 10 0 0 0 1, false) ∷
    -- zeros where no row has come yet: from the place 40 × windows on
    (keeping (single 0 1) (observed 10 0 0 0 0), false) ∷
    (keeping (single 599 1) (observed 10 0 0 0 0), false) ∷
    (keeping (single 39 1) (observed 10 1 0 0 0), true) ∷
    (keeping (single 40 1) (observed 10 1 0 0 0), false) ∷
    (keeping (single 559 4294967295) (observed 10 14 0 0 0), true) ∷
    (keeping (single 560 1) (observed 10 14 0 0 0), false) ∷
    (keeping (single 599 1) (observed 10 14 0 0 0), false) ∷
    (keeping (single 599 4294967295) (observed 10 15 0 0 0), true) ∷
    (keeping (single 0 1) (observed 10 45000 0 0 0), true) ∷
    []

records-worked : map (λ c. is_sound c.0) records ≡ map (λ c. c.1) records
unfolding is_sound is_setup is_system is_edition none_above all_zero
records-worked = refl
