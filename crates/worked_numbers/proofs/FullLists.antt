-- A list that fills a record, of any kind and under each setup: rows that are refused with 1, 19, 8 and 8, a row 45,000 times, and once more, when it is refused with 9.
-- It is worked from samples, the exported calls come to it, and demand 3 is claimed of it.
use mathlib.Core.Path.{◌≡◌, refl, sym, ap, ◌∙◌}
use mathlib.Core.Bool.{true, false}
use mathlib.Core.List.{List, [], ◌∷◌, ◌++◌, append-nil}
use Prim.Native.Nat.{ℕ, ◌+◌, ◌-◌}
use native.Mathlib.Omega.{arith}
use lib.IntN.{ℤ}
use lib.ListN.{length, replicate, length-replicate}
use Rattle.algebra.specs.Weighted.{Everywhere}
use Rattle.algebra.proofs.Weighted.{everywhere-append}
use Rattle.rows.specs.Systems.{is_system}
use Rattle.rows.specs.Editions.{is_edition}
use Rattle.rows.specs.Setups.{setup_of, is_setup, same_setup}
use Rattle.rows.specs.declared.Row.{Row}
use Rattle.rows.specs.declared.Setup.{Setup}
use Rattle.rows.proofs.Setups.{setup-parts, same_setup-self}
use Rattle.spectral_lines.specs.Line.{lines_of}
use Rattle.windows.specs.Window.{InRange}
use Rattle.kinds.specs.declared.Kind.{Kind}
use Rattle.groups.specs.Group.{group_values}
use Rattle.groups.proofs.GroupSum.{group_values-length}
use Rattle.observation.specs.Calls.{row_checks, add_row_refusal}
use Rattle.observation.specs.BookCalls.{accepts, accepted_calls}
use Rattle.observation.proofs.SoundRecord.{add_row_refusal-own}
use Rattle.accuracy.specs.CallList.{CallList, after, accepted_rows}
use Rattle.accuracy.specs.WorkedRows.{Worked}
use Rattle.accuracy.specs.Claim.{WorkedList, ListHolds}
use Rattle.accuracy.proofs.Demand3.{demand3}
use Rattle.accuracy.proofs.VerdictsGiven.{after-sound}
use Rattle.accuracy.proofs.WorkedLists.{again-then, everywhere-replicate}
use Rattle.exported_accuracy.specs.Calls.{words_after}
use Rattle.exported_accuracy.specs.Claim.{WordsHold}
use Rattle.exported_accuracy.proofs.ExportedDemand3.{exported-demand3}
use Rattle.worked_numbers.proofs.EachSetup.{EachSetup}
use Rattle.worked_numbers.proofs.CalledLists.{calls_for, every-list}

-- of no system, of no edition, of the other system and of the other edition
others : Setup → List Row
others setup =
    record { setup = setup_of 11 setup.edition; values = replicate 40 1 } ∷
    record { setup = setup_of setup.system 2; values = replicate 40 1 } ∷
    record { setup = setup_of (22 - setup.system) setup.edition; values = replicate 40 1 } ∷
    record { setup = setup_of setup.system (1 - setup.edition); values = replicate 40 1 } ∷
    []

-- a book accepts none of them
abbrev OthersRefused : Setup → Type 0
OthersRefused setup =
    (rest : List Row) → accepted_calls (λ r. r) (accepts setup) 0 (others setup ++ rest) ≡ accepted_calls (λ r. r) (accepts setup) 0 rest

others-refused : EachSetup OthersRefused
unfolding others accepted_calls accepts row_checks same_setup is_system is_edition
others-refused = (λ rest. refl, λ rest. refl, λ rest. refl, λ rest. refl)

module _ (kind : Kind) (window : List ℤ) (in-range : InRange window) (setup : Setup) (count : ℕ) where
  own : Row
  own = record { setup = setup; values = group_values kind setup (lines_of window) }

  list : CallList
  list = record { setup = setup; rows = others setup ++ (replicate count own ++ (own ∷ [])) }

  -- every row has 40 values
  own-forty : length own.values ≡ 40
  unfolding own
  own-forty = group_values-length kind setup (lines_of window)

  all-forty : Everywhere (λ row. length row.values ≡ 40) list.rows
  unfolding list others
  all-forty = (
    refl,
    (
      refl,
      (
        refl,
        (
          refl,
          everywhere-append (λ row. length row.values ≡ 40) (replicate count own) (own ∷ [])
              (everywhere-replicate (λ row. length row.values ≡ 40) count own own-forty)
              (own-forty, tt),
        ),
      ),
    ),
  )

  module _ (full : count ≡ 45000) (known : is_setup setup ≡ true) (refused : OthersRefused setup) where
    -- the last row finds the record full
    last-refused : accepts setup count own ≡ false
    unfolding accepts row_checks own
    last-refused = let parts = setup-parts setup known in rw (full, parts.system-known, parts.edition-known, same_setup-self setup)

    last-left : accepted_calls (λ r. r) (accepts setup) count (own ∷ []) ≡ []
    unfolding accepted_calls
    last-left = rw last-refused

    accepted-own : accepted_rows list ≡ replicate count own
    unfolding list own
    accepted-own =
        refused (replicate count own ++ (own ∷ []))
        ∙ (again-then setup own known refl count 0 (own ∷ []) (omega (arith, full))
        ∙ (ap (λ (rest : List Row). replicate count own ++ rest) from-count ∙ append-nil (replicate count own)))
      where
        from-count : accepted_calls (λ r. r) (accepts setup) (0 + count) (own ∷ []) ≡ []
        from-count = let same : 0 + count ≡ count = omega arith in rw same last-left

    full-worked : WorkedList kind list
    unfolding WorkedList own
    full-worked =
        rw accepted-own
        (everywhere-replicate (λ row. (w : List ℤ) × Worked kind row w) count own (window, record { in-range = in-range; values = refl }))

    full-holds : ListHolds kind list
    unfolding list
    full-holds = demand3.lists kind list known full-worked

    full-windows : (after list).windows ≡ 45000
    full-windows = full-holds.latest.same-windows ∙ (rw accepted-own (length-replicate count own) ∙ full)

    -- another row of the list's own setup is refused with 9
    one-more-refused : add_row_refusal (after list) own ≡ 9
    unfolding list own
    one-more-refused =
        add_row_refusal-own (after list) own (after-sound kind list known full-worked) (sym full-holds.same-setup) ∙ rw full-windows

    full-words : (words : List ℕ) → length words ≡ 423 → WordsHold kind list (words_after words (calls_for list))
    unfolding list
    full-words words whole = exported-demand3.lists kind words whole (calls_for list) list (every-list list known all-forty) full-worked

-- at each system and under each edition
module _ (kind : Kind) (window : List ℤ) (in-range : InRange window) where
  abbrev Full : Setup → Type 0
  Full setup =
      let full = list kind window in-range setup 45000 in
      WorkedList kind full ×
      ((after full).windows ≡ 45000) ×
      (add_row_refusal (after full) (own kind window in-range setup 45000) ≡ 9) ×
      ((words : List ℕ) → length words ≡ 423 → WordsHold kind full (words_after words (calls_for full)))

  full-of : (setup : Setup) → is_setup setup ≡ true → OthersRefused setup → Full setup
  full-of setup known refused = (
    full-worked kind window in-range setup 45000 refl known refused,
    full-windows kind window in-range setup 45000 refl known refused,
    one-more-refused kind window in-range setup 45000 refl known refused,
    full-words kind window in-range setup 45000 refl known refused,
  )

  full-lists : EachSetup Full
  unfolding is_setup is_system is_edition
  full-lists = (
    full-of (setup_of 10 0) refl others-refused.0,
    full-of (setup_of 12 0) refl others-refused.1,
    full-of (setup_of 10 1) refl others-refused.2,
    full-of (setup_of 12 1) refl others-refused.3,
  )
