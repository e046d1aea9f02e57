-- The calls made one after the other come to the definition: the same refusal, and where nothing is refused the same record.
use mathlib.Core.Path.{◌≡◌, refl, sym, ap, ◌∙◌}
use mathlib.Core.Bool.{true, false}
use mathlib.Core.List.{List}
use Prim.Native.Nat.{ℕ, zero, suc, ◌+◌, ◌-◌, ◌<◌, ◌≤◌}
use native.Mathlib.Decide.{ℕ_discrete}
use native.Mathlib.Nat.{zero-add, suc-add}
use native.Mathlib.Numerals.{add-one}
use native.Mathlib.Omega.{arith}
use borrow.Author.Tests.{not-false, ltb-false, ne_eqb}
use lib.IntN.{ℤ}
use lib.Dec.{leb}
use lib.ListN.{length}
use Rattle.algebra.specs.Lists.{tabulate}
use Rattle.refusals.specs.Numbers.{no_refusal, unknown_system, unknown_edition, short_window, sample_out_of_range, record_full}
use Rattle.refusals.specs.Answers.{first_fault, unless_refused}
use Rattle.refusals.proofs.Answers.{numbered, no-faults, unless_refused-accepted, unless_refused-refused, unless_refused-same}
use Rattle.refusals.proofs.Appended.{numbered-append, first_fault-append, first_fault-append-none}
use Rattle.rows.specs.Setups.{is_setup}
use Rattle.rows.specs.declared.Setup.{Setup}
use Rattle.rows.proofs.Setups.{is_setup-known}
use Rattle.rows.specs.declared.Row.{Row}
use Rattle.windows.specs.Window.{window_length, window_at}
use Rattle.spectral_lines.specs.Line.{lines_of}
use Rattle.windows.specs.Checks.{short_check, range_check}
use Rattle.spectrum.specs.Spectrum.{spectrum_refusal}
use Rattle.kinds.specs.declared.Kind.{Kind}
use Rattle.records.specs.declared.Observation.{Observation}
use Rattle.records.specs.Soundness.{is_sound, most_windows}
use Rattle.observation.specs.Calls.{RecordAnswer, empty_record, refused_record, fresh_checks, fresh_refusal, fresh_answer, with_row, add_row_refusal, add_row_answer}
use Rattle.observation.specs.RecordAfter.{record_after}
use Rattle.records.proofs.SoundParts.{sound-parts}
use Rattle.observation.proofs.SoundRecord.{empty-record-sound, fresh-of-known, with-row-sound, accepted-call, add_row_answer-accepted, add_row_refusal-own}
use Rattle.observation.proofs.RecordAfter.{record-after-tabulate}
use Rattle.observation.proofs.RecordBooks.{answer-setup}
use Rattle.groups.specs.Group.{group_row_refusal, window_row}
use Rattle.groups.proofs.GroupSum.{window_row-accepted, window_row-fits, window_row-setup}
use Rattle.observe.specs.Observe.{window_start, window_rows, add_window_checks, observe_checks, observe_refusal, observe_answer}
use Rattle.observe.specs.Calls.{lent_lines, row_calls, window_calls, calls_after}
use Rattle.observe.proofs.WindowCalls.{spectrum_refusal-lent, window_calls-answered}

module _ (setup : Setup) (recording : List ℤ) (start : ℕ) where
  observe_checks-numbered : (n : ℕ) → numbered (observe_checks setup recording start n) ≡ true
  unfolding observe_checks
  observe_checks-numbered zero = refl
  observe_checks-numbered (suc n) =
      numbered-append (observe_checks setup recording start n) (add_window_checks recording (window_start start n) n) (observe_checks-numbered n) refl

  -- one window more is looked at where those before it are not refused
  pub observe_refusal-next :
      (n : ℕ) →
      let before = observe_refusal setup recording start n in
      observe_refusal setup recording start (suc n) ≡ unless_refused before (first_fault (add_window_checks recording (window_start start n) n)) before
  unfolding observe_refusal observe_checks
  observe_refusal-next n =
      first_fault-append (observe_checks setup recording start n) (add_window_checks recording (window_start start n) n) (observe_checks-numbered n)

module _ (kind : Kind) (setup : Setup) (recording : List ℤ) (start : ℕ) where
  -- the row of window n
  abbrev row_of : ℕ → Row
  row_of n = window_row kind setup (window_at recording (window_start start n))

  -- the record after the first n windows, where none was refused
  pub record Held (n : ℕ) (o : Observation) : Type 0 where
    pub record_is : o ≡ record_after (empty_record setup) (window_rows kind setup recording start n)
    pub sound : is_sound o ≡ true
    pub setup-is : o.setup ≡ setup
    pub windows-are : o.windows ≡ n

  pub record Follows (n : ℕ) (answer : RecordAnswer) : Type 0 where
    pub refusal_is : answer.refusal ≡ observe_refusal setup recording start n
    pub held : answer.refusal ≡ no_refusal → Held n answer.observation

  empty-held : is_setup setup ≡ true → Held 0 (empty_record setup)
  unfolding window_rows tabulate record_after empty_record
  empty-held known = record {
    record_is = refl;
    sound = empty-record-sound setup known;
    setup-is = refl;
    windows-are = refl;
  }

  fresh-held : fresh_refusal setup ≡ no_refusal → Held 0 (fresh_answer setup).observation
  unfolding fresh_refusal
  fresh-held none =
      let passed = no-faults (fresh_checks setup) refl none in
      let known = is_setup-known setup (not-false _ (passed unknown_system)) (not-false _ (passed unknown_edition)) in
      rw (fresh-of-known setup known) (empty-held known)

  next-held :
      (n : ℕ) (o : Observation) → Held n o → add_row_refusal o (row_of n) ≡ no_refusal →
      Held (suc n) (add_row_answer o (row_of n)).observation
  unfolding window_rows with_row
  next-held n o held none =
      let added = add_row_answer-accepted o (row_of n) none in
      let room = (accepted-call o (row_of n) none).row-accepted.room in
      record {
        record_is =
            ap (λ (x : Observation). (add_row_answer x (row_of n)).observation) held.record_is
            ∙ sym (rw (add-one n) at (record-after-tabulate (empty_record setup) n row_of));
        sound = rw added (with-row-sound o (row_of n) held.sound room (window_row-fits kind setup _));
        setup-is = answer-setup o (row_of n) ∙ held.setup-is;
        windows-are = rw (added, held.windows-are) (add-one n);
      }

  window-follows :
      (n : ℕ) (o : Observation) → Held n o → observe_refusal setup recording start n ≡ no_refusal →
      Follows (suc n) (window_calls kind recording (window_start start n) o)
  window-follows n o held none =
      let answered = window_calls-answered kind recording (window_start start n) o held.sound in
      let own : window_row kind o.setup (window_at recording (window_start start n)) ≡ row_of n = rw held.setup-is in
      record {
        refusal_is =
            answered.refusal_is
            ∙ (rw held.windows-are refl
            ∙ sym (observe_refusal-next setup recording start n ∙ unless_refused-accepted _ _ _ none));
        held = λ passed.
            let full = no-faults (add_window_checks recording (window_start start n) o.windows) refl (sym answered.refusal_is ∙ passed) record_full in
            let accepted : add_row_refusal o (row_of n) ≡ no_refusal =
            add_row_refusal-own o (row_of n) held.sound (window_row-setup kind setup _ ∙ sym held.setup-is) ∙ rw full in
            rw (answered.record_is passed, own) (next-held n o held accepted);
      }

  pub calls-follow : (n : ℕ) → Follows n (calls_after kind setup recording start n)
  unfolding calls_after observe_refusal observe_checks fresh_answer fresh_refusal
  calls-follow zero = record { refusal_is = refl; held = fresh-held }
  calls-follow (suc n) = by-refusal (ℕ_discrete (calls_after kind setup recording start n).refusal no_refusal) (calls-follow n)
    where
      before : RecordAnswer
      before = calls_after kind setup recording start n

      by-refusal :
          Dec (before.refusal ≡ no_refusal) → Follows n before →
          Follows (suc n)
          (unless_refused before.refusal (window_calls kind recording (window_start start n) before.observation) before)
      by-refusal (yes e) follows =
          rw (unless_refused-accepted before.refusal _ before e)
          (window-follows n before.observation (follows.held e) (sym follows.refusal_is ∙ e))
      by-refusal (no f) follows =
          rw (unless_refused-refused before.refusal _ before f)
          (record {
            refusal_is =
                follows.refusal_is
                ∙ sym
                (observe_refusal-next setup recording start n
                ∙ unless_refused-refused _ _ _ (λ e. f (follows.refusal_is ∙ e)));
            held = λ e. absurd (f e);
          })

  -- the calls for one window more, after windows that are not refused: those for its row, and the row added
  pub calls-next :
      (n : ℕ) →
      let o = (calls_after kind setup recording start n).observation in
      let answer = row_calls kind setup recording (window_start start n) in
      (calls_after kind setup recording start n).refusal ≡ no_refusal →
      calls_after kind setup recording start (suc n)
      ≡ unless_refused answer.refusal (add_row_answer o answer.row) (record { refusal = answer.refusal; observation = o })
  unfolding calls_after window_calls
  calls-next n none =
      let o = (calls_after kind setup recording start n).observation in
      rw none
      (ap
      (λ (own : Setup).
      let answer = row_calls kind own recording (window_start start n) in
      unless_refused answer.refusal (add_row_answer o answer.row) (record { refusal = answer.refusal; observation = o }))
      ((calls-follow n).held none).setup-is)

  -- a refused call is the last
  calls_after-stops :
      (k n : ℕ) → ((calls_after kind setup recording start n).refusal ≡ no_refusal → ⊥) →
      calls_after kind setup recording start (k + n) ≡ calls_after kind setup recording start n
  unfolding calls_after
  calls_after-stops zero n refused = rw (zero-add n)
  calls_after-stops (suc k) n refused =
      let same = calls_after-stops k n refused in
      let still : (calls_after kind setup recording start (k + n)).refusal ≡ no_refusal → ⊥ = λ e. refused (rw same at e) in
      rw (suc-add k n) (unless_refused-refused _ _ _ still ∙ same)

  -- "the first refused call decides": the calls one after the other, with the record of a refused fresh record where one is refused
  pub observe_answer-calls :
      (n : ℕ) →
      let calls = calls_after kind setup recording start n in
      observe_answer kind setup recording start n
      ≡ record { refusal = calls.refusal; observation = unless_refused calls.refusal calls.observation refused_record }
  unfolding observe_answer
  observe_answer-calls n =
      let follows = calls-follow n in
      rw (← follows.refusal_is)
      (ap
      (λ (o : Observation). record { refusal = (calls_after kind setup recording start n).refusal; observation = o })
      (unless_refused-same _ _ _ refused_record (λ e. sym (follows.held e).record_is)))

  pub observe_answer-accepted :
      (n : ℕ) (answer : RecordAnswer) → calls_after kind setup recording start n ≡ answer → answer.refusal ≡ no_refusal →
      observe_answer kind setup recording start n ≡ answer
  observe_answer-accepted n answer e none = observe_answer-calls n ∙ rw (e, unless_refused-accepted answer.refusal answer.observation refused_record none)

  pub observe_answer-refused :
      (k n : ℕ) → ((calls_after kind setup recording start n).refusal ≡ no_refusal → ⊥) →
      observe_answer kind setup recording start (k + n)
      ≡ record { refusal = (calls_after kind setup recording start n).refusal; observation = refused_record }
  observe_answer-refused k n refused =
      observe_answer-calls (k + n) ∙ rw (calls_after-stops k n refused, ne_eqb _ no_refusal refused)

-- ---- an observation that is not refused

module _ (setup : Setup) (recording : List ℤ) (start : ℕ) where
  -- neither are the windows before its last, nor the last
  refused-neither :
      (n : ℕ) → observe_refusal setup recording start (suc n) ≡ no_refusal →
      (observe_refusal setup recording start n ≡ no_refusal)
      × (first_fault (add_window_checks recording (window_start start n) n) ≡ no_refusal)
  unfolding observe_refusal observe_checks
  refused-neither n none =
      first_fault-append-none (observe_checks setup recording start n) (add_window_checks recording (window_start start n) n)
      (observe_checks-numbered setup recording start n) none

  observe_refusal-before :
      (k n : ℕ) → observe_refusal setup recording start (k + n) ≡ no_refusal → observe_refusal setup recording start n ≡ no_refusal
  observe_refusal-before zero n none = rw (zero-add n) at none
  observe_refusal-before (suc k) n none =
      let later : observe_refusal setup recording start (suc (k + n)) ≡ no_refusal = rw (suc-add k n) at none in
      observe_refusal-before k n (refused-neither (k + n) later).0

  -- each window of it is whole and in range, and finds room
  pub record Taken (n : ℕ) : Type 0 where
    pub whole : (short_check recording (window_start start n)).0 ≡ false
    pub in-range : (range_check recording (window_start start n)).0 ≡ false
    pub room : leb most_windows n ≡ false

  pub window-taken : (n : ℕ) → observe_refusal setup recording start (suc n) ≡ no_refusal → Taken n
  window-taken n none =
      let passed = no-faults (add_window_checks recording (window_start start n) n) refl (refused-neither n none).1 in
      record { whole = passed short_window; in-range = passed sample_out_of_range; room = passed record_full }

  pub window-inside :
      (n : ℕ) → observe_refusal setup recording start (suc n) ≡ no_refusal →
      window_start start n + window_length ≤ length recording
  window-inside n none = omega (arith, ltb-false (length recording - window_start start n) window_length (window-taken n none).whole)

  -- none of its calls is refused: the lines of each window, their row, and that row added to the record after the windows before it
  pub record CallsAccepted (kind : Kind) (n : ℕ) : Type 0 where
    pub spectrum-accepted : spectrum_refusal recording (window_start start n) lent_lines ≡ no_refusal
    pub row-accepted : group_row_refusal setup (lines_of (window_at recording (window_start start n))) ≡ no_refusal
    pub add-accepted :
        add_row_refusal
        (record_after (empty_record setup) (window_rows kind setup recording start n))
        (window_row kind setup (window_at recording (window_start start n)))
        ≡ no_refusal

  pub calls-accepted :
      (kind : Kind) (count n : ℕ) → n < count → observe_refusal setup recording start count ≡ no_refusal → CallsAccepted kind n
  calls-accepted kind count n inside none =
      let there : count - suc n + suc n ≡ count = omega arith in
      let next = observe_refusal-before (count - suc n) (suc n) (rw there none) in
      let taken = window-taken n next in
      let follows = calls-follow kind setup recording start n in
      let held = follows.held (follows.refusal_is ∙ (refused-neither n next).0) in
      let o = record_after (empty_record setup) (window_rows kind setup recording start n) in
      let sound : is_sound o ≡ true = rw held.record_is at held.sound in
      let setup-is : o.setup ≡ setup = rw held.record_is at held.setup-is in
      let windows-are : o.windows ≡ n = rw held.record_is at held.windows-are in
      record {
        spectrum-accepted = spectrum_refusal-lent recording (window_start start n) ∙ rw (taken.whole, taken.in-range);
        row-accepted = window_row-accepted setup (window_at recording (window_start start n)) (rw setup-is at (sound-parts o sound).setup-known) taken.in-range;
        add-accepted =
            add_row_refusal-own o _ sound (window_row-setup kind setup _ ∙ sym setup-is) ∙ rw (windows-are, taken.room);
      }
