-- The turns of `observe`, in plain values: the calls for the windows so far are accepted and leave a record, and those for the next window add its row or are refused.
use mathlib.Core.Path.{◌≡◌, refl, sym, ap, ◌∙◌}
use mathlib.Core.List.{List}
use Prim.Native.Nat.{ℕ, zero, suc, max, ◌+◌, ◌-◌, ◌≤◌}
use native.Mathlib.Numerals.{add-one}
use native.Mathlib.Omega.{arith}
use lib.IntN.{ℤ}
use lib.ListN.{length}
use Rattle.std.specs.Prelude.{Ok, Err}
use Rattle.refusals.specs.Numbers.{no_refusal}
use Rattle.refusals.specs.Answers.{number_of, unless_refused}
use Rattle.refusals.specs.declared.Refusal.{Refusal}
use Rattle.refusals.proofs.Results.{number_is_positive, refused_is_no_acceptance}
use Rattle.rows.specs.Rows.{RowAnswer, row_answer_of}
use Rattle.rows.specs.declared.Row.{Row}
use Rattle.rows.specs.declared.Setup.{Setup}
use Rattle.kinds.specs.declared.Kind.{Kind}
use Rattle.records.specs.declared.Observation.{Observation}
use Rattle.observation.specs.Calls.{RecordAnswer, record_answer_of, add_row_answer}
use Rattle.observe.specs.Observe.{window_start, observe_refusal, observe_answer}
use Rattle.observe.specs.Calls.{row_calls, calls_after}
use Rattle.observe.proofs.Observed.{calls-follow, calls-next, observe_answer-accepted, observe_answer-refused, window-inside}

-- after windows that are not refused the next begins within the recording, or where the first does
starts-by :
    (setup : Setup) (recording : List ℤ) (start i : ℕ) → observe_refusal setup recording start i ≡ no_refusal →
    window_start start i ≤ max start (length recording)
starts-by setup recording start zero none = omega arith
starts-by setup recording start (suc i) none = omega (arith, window-inside setup recording start i none)

module _ (kind : Kind) (setup : Setup) (recording : List ℤ) (start : ℕ) where
  -- a refusal of the calls for the first windows is the answer
  pub refused-answer :
      (refusal : Refusal) (n windows : ℕ) → n ≤ windows → (calls_after kind setup recording start n).refusal ≡ number_of refusal →
      record_answer_of (Err refusal) ≡ observe_answer kind setup recording start windows
  refused-answer refusal n windows inside e =
      let refused : (calls_after kind setup recording start n).refusal ≡ no_refusal → ⊥ = λ none. omega (arith, number_is_positive refusal, e, none) in
      let count : windows - n + n ≡ windows = omega arith in
      sym (rw (count, e) at (observe_answer-refused kind setup recording start (windows - n) n refused))

  module _ (i : ℕ) (o : Observation) (calls : calls_after kind setup recording start i ≡ record_answer_of (Ok o)) where
    -- where these windows are all, the record is the answer
    pub accepted-answer : (windows : ℕ) → i ≡ windows → record_answer_of (Ok o) ≡ observe_answer kind setup recording start windows
    accepted-answer windows all = sym (rw all at (observe_answer-accepted kind setup recording start i (record_answer_of (Ok o)) calls refl))

    -- the next window begins within the recording, or where the first does
    pub begins-by : window_start start i ≤ max start (length recording)
    begins-by =
        let follows = calls-follow kind setup recording start i in
        starts-by setup recording start i (sym follows.refusal_is ∙ ap (λ (r : RecordAnswer). r.refusal) calls)

    -- the calls for one window more are those of the turn
    turn :
        (found : RowAnswer) → found ≡ row_calls kind setup recording (window_start start i) →
        calls_after kind setup recording start (i + 1)
        ≡ unless_refused found.refusal (add_row_answer o found.row) (record { refusal = found.refusal; observation = o })
    turn found row =
        let before = ap (λ (r : RecordAnswer). r.refusal) calls in
        rw (add-one i) (rw (calls, ← row) at (calls-next kind setup recording start i before))

    pub row-refused :
        (refusal : Refusal) → row_answer_of (Err refusal) ≡ row_calls kind setup recording (window_start start i) →
        (calls_after kind setup recording start (i + 1)).refusal ≡ number_of refusal
    row-refused refusal row = rw (turn (row_answer_of (Err refusal)) row, refused_is_no_acceptance refusal)

    pub row-added :
        (row : Row) → row_answer_of (Ok row) ≡ row_calls kind setup recording (window_start start i) →
        calls_after kind setup recording start (i + 1) ≡ add_row_answer o row
    row-added row found = turn (row_answer_of (Ok row)) found
