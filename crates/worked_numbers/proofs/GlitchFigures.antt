-- The bounds of card 14 in figures, at each system and under each edition: 10×d + 14 units for a group value, and for a smoothed one
-- 1000 × (10×d + 14) over 8012, rounded up; of the library's calls and of the exported ones. The claims name their numbers, and a weaker
-- one would be proved as well; here it is refused.
use mathlib.Core.Path.{◌≡◌}
use mathlib.Core.Bool.{true}
use mathlib.Core.List.{List}
use Prim.Native.Nat.{ℕ, ◌+◌, ◌-◌, ◌*◌, ◌/◌, ◌≤◌}
use native.Mathlib.Omega.{arith}
use lib.IntN.{ℤ, pos, nat_abs, ◌-ℤ◌}
use lib.ListN.{get_or}
use Rattle.algebra.specs.Lists.{tabulate}
use Rattle.algebra.specs.Rounding.{rounded_up}
use Rattle.rows.specs.Setups.{is_setup}
use Rattle.rows.specs.declared.Setup.{Setup}
use Rattle.windows.specs.Window.{window_at}
use Rattle.spectrum.specs.Spectrum.{spectrum_refusal, spectrum_exit}
use Rattle.kinds.specs.declared.Kind.{Kind}
use Rattle.groups.specs.Group.{group_answer, group_row_answer}
use Rattle.records.specs.declared.Observation.{Observation}
use Rattle.observation.specs.Calls.{add_row_answer}
use Rattle.glitch.specs.Windows.{AcceptedWindow}
use Rattle.glitch.specs.Claim.{GroupsBounded, SmoothedBounded}
use Rattle.glitch.proofs.Glitch.{glitch}
use Rattle.lists.specs.LentWords.{words_from}
use Rattle.record_words.specs.Parts.{parts_from}
use Rattle.record_words.specs.Words.{of_parts, record_of}
use Rattle.exported_windows.specs.GroupCalls.{group_call_refusal, group_call_exit, row_call_refusal, row_call_exit}
use Rattle.exported_records.specs.RecordCalls.{add_row_call_refusal, add_row_call_exit}
use Rattle.exported_accuracy.proofs.ExportedGlitch.{exported-glitch}
use Rattle.worked_numbers.proofs.EachSetup.{EachSetup, each-setup}

-- neither of two values is more than so many units above the other
abbrev Within : ℕ → ℕ → ℕ → Type 0
Within units a b = (a ≤ b + units) × (b ≤ a + units)

-- two recordings with an accepted window each, which are alike but for the sample at a place of the windows
module _
    (one : List ℤ) (one-start : ℕ) (one-buffer : List ℕ) (one-accepted : spectrum_refusal one one-start one-buffer ≡ 0)
    (other : List ℤ) (other-start : ℕ) (other-buffer : List ℕ) (other-accepted : spectrum_refusal other other-start other-buffer ≡ 0)
    (place : ℕ)
    (alike : (j : ℕ) → ¬ (j ≡ place) → get_or (window_at one one-start) j (pos 0) ≡ get_or (window_at other other-start) j (pos 0))
  where
    abbrev one_lines : List ℕ
    one_lines = spectrum_exit one one-start one-buffer

    abbrev other_lines : List ℕ
    other_lines = spectrum_exit other other-start other-buffer

    -- the size of the glitch
    abbrev d : ℕ
    d = nat_abs (get_or (window_at one one-start) place (pos 0) -ℤ get_or (window_at other other-start) place (pos 0))

    abbrev one_window : AcceptedWindow
    one_window = record { recording = one; start = one-start; buffer = one-buffer; accepted = one-accepted }

    abbrev other_window : AcceptedWindow
    other_window = record { recording = other; start = other-start; buffer = other-buffer; accepted = other-accepted }

    -- ---- the library's calls

    abbrev GroupsWithin : Kind → ℕ → Setup → Type 0
    GroupsWithin kind order setup =
        let first = group_answer kind setup order one_lines in
        let second = group_answer kind setup order other_lines in
        (first.refusal ≡ 0) × (second.refusal ≡ 0) × Within (10 * d + 14) first.value second.value

    groups-known : (kind : Kind) (setup : Setup) (order : ℕ) → is_setup setup ≡ true → 1 ≤ order → order ≤ 40 → GroupsWithin kind order setup
    unfolding GroupsBounded
    groups-known kind setup order known least most =
        let apart = glitch.groups kind setup one_window other_window place known alike order least most in
        (apart.one-answered, apart.other-answered, (omega (arith, apart.values.one-le), omega (arith, apart.values.other-le)))

    groups-within : (kind : Kind) (order : ℕ) → 1 ≤ order → order ≤ 40 → EachSetup (GroupsWithin kind order)
    groups-within kind order least most =
        each-setup (GroupsWithin kind order) λ setup known. groups-known kind setup order known least most

    -- any record with a window, and any order
    abbrev SmoothedWithin : Kind → Observation → ℕ → Setup → Type 0
    SmoothedWithin kind o order setup =
        let one_row = group_row_answer kind setup one_lines in
        let other_row = group_row_answer kind setup other_lines in
        let first = add_row_answer o one_row.row in
        let second = add_row_answer o other_row.row in
        (one_row.refusal ≡ 0) × (other_row.refusal ≡ 0) × (first.refusal ≡ second.refusal) ×
        Within ((1000 * (10 * d + 14) + 8011) / 8012)
        (get_or first.observation.smoothed (order - 1) 0) (get_or second.observation.smoothed (order - 1) 0)

    smoothed-known :
        (kind : Kind) (setup : Setup) (o : Observation) (order : ℕ) →
        is_setup setup ≡ true → 1 ≤ o.windows → 1 ≤ order → order ≤ 40 → SmoothedWithin kind o order setup
    unfolding SmoothedBounded rounded_up
    smoothed-known kind setup o order known held least most =
        let moved = glitch.smoothed kind setup one_window other_window place o known alike held in
        let apart = moved.values order least most in
        (moved.one-answered, moved.other-answered, moved.same-refusal, (omega (arith, apart.one-le), omega (arith, apart.other-le)))

    smoothed-within :
        (kind : Kind) (o : Observation) (order : ℕ) → 1 ≤ o.windows → 1 ≤ order → order ≤ 40 → EachSetup (SmoothedWithin kind o order)
    smoothed-within kind o order held least most =
        each-setup (SmoothedWithin kind o order) λ setup known. smoothed-known kind setup o order known held least most

    -- ---- the exported calls, after kifsang_spectrum for both windows

    -- what kifsang_group_value leaves, neither call refused
    called-groups-within :
        (number : ℕ) (setup : Setup) (order before : ℕ) →
        group_call_refusal number setup order one_lines ≡ 0 →
        group_call_refusal number setup order other_lines ≡ 0 →
        Within (10 * d + 14) (group_call_exit number setup order one_lines before) (group_call_exit number setup order other_lines before)
    called-groups-within number setup order before first second =
        let apart = exported-glitch.groups one_window other_window place number setup order before alike first second in
        (omega (arith, apart.one-le), omega (arith, apart.other-le))

    -- the smoothed words that kifsang_row, neither call refused, and then kifsang_add_row leave, where the words held at least
    -- one window
    called-smoothed-within :
        (number : ℕ) (setup : Setup) (before words : List ℕ) (order : ℕ) →
        row_call_refusal number setup one_lines before ≡ 0 →
        row_call_refusal number setup other_lines before ≡ 0 →
        1 ≤ get_or words 2 0 → 1 ≤ order → order ≤ 40 →
        let one_row = row_call_exit number setup one_lines before in
        let other_row = row_call_exit number setup other_lines before in
        (add_row_call_refusal words setup one_row ≡ add_row_call_refusal words setup other_row) ×
        Within ((1000 * (10 * d + 14) + 8011) / 8012)
        (get_or (add_row_call_exit words setup one_row) (3 + (order - 1)) 0) (get_or (add_row_call_exit words setup other_row) (3 + (order - 1)) 0)
    unfolding rounded_up record_of of_parts parts_from words_from tabulate
    called-smoothed-within number setup before words order first second held least most =
        let moved = exported-glitch.smoothed one_window other_window place number setup before words alike first second held in
        let apart = moved.values order least most in
        (moved.same-refusal, (omega (arith, apart.one-le), omega (arith, apart.other-le)))
