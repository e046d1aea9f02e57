-- The rows of an observation that is not refused are worked from samples, and its record is the one after their list.
use mathlib.Core.Path.{◌≡◌, refl, sym, ap, ◌∙◌}
use mathlib.Core.Bool.{true}
use mathlib.Core.List.{List}
use Prim.Native.Nat.{ℕ, ◌<◌}
use lib.IntN.{ℤ}
use Rattle.algebra.proofs.Weighted.{everywhere-tabulate}
use Rattle.refusals.specs.Numbers.{no_refusal}
use Rattle.refusals.proofs.Answers.{unless_refused-accepted}
use Rattle.rows.specs.declared.Row.{Row}
use Rattle.rows.specs.Setups.{is_setup}
use Rattle.rows.specs.declared.Setup.{Setup}
use Rattle.windows.specs.Window.{window_at}
use Rattle.spectrum.proofs.Accepted as Lines
use Rattle.kinds.specs.declared.Kind.{Kind}
use Rattle.groups.specs.Group.{window_row}
use Rattle.records.specs.declared.Observation.{Observation}
use Rattle.records.proofs.SoundParts.{sound-parts}
use Rattle.observation.proofs.SoundRecord.{fresh-of-known}
use Rattle.observe.specs.Observe.{window_start, window_rows, observe_refusal, observe_answer}
use Rattle.observe.proofs.Observed.{calls-follow, calls-accepted}
use Rattle.accuracy.specs.CallList.{after}
use Rattle.accuracy.specs.WorkedRows.{Worked}
use Rattle.accuracy.specs.Claim.{WorkedList, observed_list}
use Rattle.accuracy.proofs.AcceptedCalls.{each-accepted-everywhere}

module _
    (kind : Kind) (setup : Setup) (recording : List ℤ) (start windows : ℕ)
    (accepted : observe_refusal setup recording start windows ≡ no_refusal)
  where
    pub observed-setup : is_setup setup ≡ true
    observed-setup =
        let follows = calls-follow kind setup recording start windows in
        let held = follows.held (follows.refusal_is ∙ accepted) in
        rw held.setup-is at (sound-parts _ held.sound).setup-known

    pub observed-record : (observe_answer kind setup recording start windows).observation ≡ after (observed_list kind setup recording start windows)
    unfolding observe_answer after
    observed-record = rw (fresh-of-known setup observed-setup) (unless_refused-accepted _ _ _ accepted)

    pub observed-windows : (observe_answer kind setup recording start windows).observation.windows ≡ windows
    unfolding observe_answer
    observed-windows =
        let follows = calls-follow kind setup recording start windows in
        let held = follows.held (follows.refusal_is ∙ accepted) in
        ap (λ (o : Observation). o.windows) (unless_refused-accepted _ _ _ accepted ∙ sym held.record_is) ∙ held.windows-are

    -- the row of each window
    observed-row : (i : ℕ) → i < windows →
        let window = window_at recording (window_start start i) in
        Worked kind (window_row kind setup window) window
    unfolding window_row
    observed-row i inside =
        let call = Lines.accepted recording (window_start start i) _ (calls-accepted setup recording start kind windows i inside accepted).spectrum-accepted in
        record { in-range = call.in-range; values = refl }

    pub observed-worked : WorkedList kind (observed_list kind setup recording start windows)
    unfolding WorkedList window_rows
    observed-worked =
        each-accepted-everywhere (λ row. row) _ _ 0 _
        (everywhere-tabulate (λ (row : Row). (window : List ℤ) × Worked kind row window) windows _
        (λ i inside. (window_at recording (window_start start i), observed-row i inside)))
