-- The calls for one window and a sound record: they are refused for what the definition says, and add the window's row where they are accepted.
use mathlib.Core.Path.{◌≡◌, refl, ◌∙◌}
use mathlib.Core.Bool.{Bool, true, false}
use mathlib.Core.List.{List, [], ◌∷◌}
use Prim.Native.Nat.{ℕ}
use native.Mathlib.Omega.{arith}
use lib.IntN.{ℤ}
use Rattle.refusals.specs.Numbers.{no_refusal, short_window, sample_out_of_range}
use Rattle.refusals.specs.Answers.{first_fault}
use Rattle.rows.specs.Setups.{is_setup}
use Rattle.rows.specs.declared.Setup.{Setup}
use Rattle.rows.specs.Rows.{refused_row}
use Rattle.rows.specs.declared.Row.{Row}
use Rattle.windows.specs.Window.{window_at}
use Rattle.windows.specs.Checks.{short_check, range_check}
use Rattle.spectrum.specs.Spectrum.{spectrum_refusal, spectrum_exit}
use Rattle.kinds.specs.declared.Kind.{Kind}
use Rattle.groups.proofs.GroupSum.{window_row-setup, window_row-accepted}
use Rattle.records.specs.declared.Observation.{Observation}
use Rattle.records.specs.Soundness.{is_sound}
use Rattle.observation.specs.Calls.{RecordAnswer, add_row_answer}
use Rattle.records.proofs.SoundParts.{sound-parts}
use Rattle.observation.proofs.SoundRecord.{add_row_refusal-own}
use Rattle.groups.specs.Group.{group_row_answer, window_row}
use Rattle.observe.specs.Observe.{add_window_checks}
use Rattle.observe.specs.Calls.{lent_lines, row_calls, window_calls}

-- the buffer that is lent has 512 lines, so `spectrum` tests the window alone
pub spectrum_refusal-lent :
    (recording : List ℤ) (at : ℕ) →
    spectrum_refusal recording at lent_lines ≡ first_fault (short_check recording at ∷ range_check recording at ∷ [])
unfolding spectrum_refusal
spectrum_refusal-lent recording at = refl

module _ (kind : Kind) (setup : Setup) (recording : List ℤ) (at : ℕ) where
  row_calls-short : (short_check recording at).0 ≡ true → row_calls kind setup recording at ≡ record { refusal = short_window; row = refused_row }
  unfolding row_calls
  row_calls-short short = rw (spectrum_refusal-lent recording at, short)

  row_calls-out :
      (short_check recording at).0 ≡ false → (range_check recording at).0 ≡ true →
      row_calls kind setup recording at ≡ record { refusal = sample_out_of_range; row = refused_row }
  unfolding row_calls
  row_calls-out whole out = rw (spectrum_refusal-lent recording at, whole, out)

  row_calls-taken :
      is_setup setup ≡ true → (short_check recording at).0 ≡ false → (range_check recording at).0 ≡ false →
      row_calls kind setup recording at ≡ record { refusal = no_refusal; row = window_row kind setup (window_at recording at) }
  unfolding row_calls spectrum_exit group_row_answer window_row
  row_calls-taken known whole in-range =
      rw (spectrum_refusal-lent recording at, whole, in-range, window_row-accepted setup (window_at recording at) known in-range)

module _ (kind : Kind) (recording : List ℤ) (at : ℕ) (o : Observation) (sound : is_sound o ≡ true) where
  abbrev row_added : Row
  row_added = window_row kind o.setup (window_at recording at)

  -- what the calls answer, and the record that they leave where they are accepted
  pub record Answered (answer : RecordAnswer) : Type 0 where
    pub refusal_is : answer.refusal ≡ first_fault (add_window_checks recording at o.windows)
    pub record_is : answer.refusal ≡ no_refusal → answer.observation ≡ (add_row_answer o row_added).observation

  pub window_calls-answered : Answered (window_calls kind recording at o)
  unfolding window_calls add_row_answer
  window_calls-answered = by_tests (short_check recording at).0 (range_check recording at).0 refl refl
    where
      by_tests :
          (short out : Bool) → (short_check recording at).0 ≡ short → (range_check recording at).0 ≡ out →
          Answered (window_calls kind recording at o)
      by_tests true out e f =
          rw (row_calls-short kind o.setup recording at e)
          (record { refusal_is = rw e; record_is = λ none. absurd (omega arith) })
      by_tests false true e f =
          rw (row_calls-out kind o.setup recording at e f)
          (record { refusal_is = rw (e, f); record_is = λ none. absurd (omega arith) })
      by_tests false false e f =
          rw (row_calls-taken kind o.setup recording at (sound-parts o sound).setup-known e f)
          (record {
            refusal_is = add_row_refusal-own o row_added sound (window_row-setup kind o.setup _) ∙ rw (e, f);
            record_is = λ none. refl;
          })
