-- The words of a record follow the list of document 01 that the calls have come to.
-- The invariant: there are 423 words, any before the first fresh record or observation; after it they are the words of
-- the record after the list, where its accepted rows hold values of 32 bits as a caller's rows do.
use mathlib.Core.Path.{◌≡◌, refl, sym, ap}
use mathlib.Core.Bool.{Bool, true, false, cond, not, ◌&&◌}
use mathlib.Core.List.{List, [], ◌∷◌, ◌++◌, map, append-nil}
use mathlib.Core.Option.{Option, none, some}
use Prim.Native.Nat.{ℕ, ◌≤◌, ◌<◌}
use native.Mathlib.Omega.{arith}
use native.Mathlib.Decide.{dec_le}
use lib.Dec.{eqb, leb}
use lib.IntN.{ℤ}
use lib.ListN.{length, get_or, take, drop, replicate, length-replicate, length-take, take-append-drop, drop_of_length-le}
use lib.Seq.{take_all}
use borrow.Author.Tests.{eqb-true, eq-eqb, ne_eqb, le-leb, lt-leb}
use Rattle.std.specs.List.{list_any}
use Rattle.algebra.proofs.Lists.{length-tabulate}
use Rattle.refusals.specs.Numbers.{no_refusal, unknown_system, unknown_edition}
use Rattle.refusals.specs.Answers.{first_fault, unless_refused}
use Rattle.rows.specs.Systems.{is_system}
use Rattle.rows.specs.Editions.{is_edition}
use Rattle.rows.specs.Setups.{is_setup}
use Rattle.rows.proofs.Setups.{is_setup-known}
use Rattle.rows.specs.declared.Setup.{Setup}
use Rattle.rows.specs.Orders.{order_count}
use Rattle.rows.specs.Rows.{largest_value, ValuesFit}
use Rattle.rows.specs.declared.Row.{Row}
use Rattle.records.specs.declared.Observation.{Observation}
use Rattle.latest_rows.specs.Latest.{values_kept, with_latest}
use Rattle.records.specs.Soundness.{is_sound, none_above}
use Rattle.observation.specs.BookCalls.{accepted_calls, AcceptedFit}
use Rattle.observation.specs.Calls.{empty_record, fresh_refusal, with_row, add_row_refusal, add_row_answer}
use Rattle.observation.specs.RecordAfter.{record_after}
use Rattle.observation.proofs.RecordAfter.{record-after-snoc}
use Rattle.records.proofs.NoneAbove.{get_or-le-of-none-above}
use Rattle.latest_rows.proofs.Latest.{length-with_latest, with_latest-le}
use Rattle.observation.proofs.SoundRecord.{by-acceptance, answer-sound, empty-record-sound, fresh-of-known}
use Rattle.observe.specs.Observe.{window_rows, observe_refusal}
use Rattle.accuracy.specs.CallList.{CallList, after, accepted}
use Rattle.accuracy.specs.Claim.{observed_list}
use Rattle.accuracy.proofs.AcceptedCalls.{each-accepted-front}
use Rattle.accuracy.proofs.ObservedRows.{observed-setup}
use Rattle.kind_numbers.specs.Kinds.{is_kind, kind_with}
use Rattle.exported_answers.specs.OwnChecks.{unknown_kind, wrong_word_count, word_count_check, own_first}
use Rattle.record_words.specs.Halves.{half_base}
use Rattle.record_words.specs.Words.{latest_words, record_parts, record_words, parts_of, words_of, record_of, Whole}
use Rattle.record_words.proofs.Halves.{packed-length}
use Rattle.record_words.proofs.Words.{latest-of-record, record-of-words, words_of-length}
use Rattle.exported_records.specs.RecordCalls.{lent_row, fresh_call_refusal, fresh_call_exit, add_row_call_refusal, add_row_call_exit}
use Rattle.exported_observe.specs.ObserveCall.{observe_call_refusal, observe_call_exit}
use Rattle.exported_accuracy.specs.Calls.{Asked, fresh_record, observe_windows, add_row, ask_verdict, ask_three_second, Call, left_by, words_at_exit, words_after, with_call, list_asked, list_at_exit, list_after}

-- ---- what a call leaves

-- what holds on success and on a refusal holds of what a call leaves
by-refusal :
    {A : Type 0} (P : A → Type 0) (refusal : ℕ) {accepted unchanged : A} →
    P accepted →
    P unchanged →
    P (unless_refused refusal accepted unchanged)
by-refusal P refusal {accepted} {unchanged} success refused = either (eqb refusal no_refusal)
  where
    either : (none : Bool) → P (cond none accepted unchanged)
    either true = success
    either false = refused

-- ---- records whose parts have their counts of words, and the latest rows their count of values

record PartsWhole (o : Observation) : Type 0 where
  parts : map length (parts_of o) ≡ record_parts
  latest : length o.latest ≡ values_kept

empty-parts : (setup : Setup) → PartsWhole (empty_record setup)
unfolding empty_record parts_of
empty-parts setup =
    let zeros = length-replicate {A = ℕ} values_kept 0 in
    record { parts = rw (packed-length (replicate values_kept 0) latest_words zeros); latest = zeros }

with-row-parts : (o : Observation) (row : Row) → length o.latest ≡ values_kept → PartsWhole (with_row o row)
unfolding with_row parts_of
with-row-parts o row before =
    let kept = length-with_latest o.windows row.values o.latest before in
    record { parts = simp (length-tabulate, packed-length (with_latest o.windows row.values o.latest) latest_words kept); latest = kept }

record-after-parts : (o : Observation) (rows : List Row) → PartsWhole o → PartsWhole (record_after o rows)
unfolding record_after add_row_answer
record-after-parts o [] before = before
record-after-parts o (row ∷ rows) before =
    record-after-parts (add_row_answer o row).observation rows
    (by-refusal PartsWhole (add_row_refusal o row) (with-row-parts o row before.latest) before)

-- ---- and whose latest rows hold values of 32 bits

zero-fits : (values : List ℕ) → none_above 0 values ≡ true → (i : ℕ) → get_or values i 0 < half_base
zero-fits values zeros i = omega (arith, get_or-le-of-none-above 0 values i zeros)

empty-whole : (setup : Setup) → Whole (empty_record setup)
unfolding empty_record none_above
empty-whole setup =
    let whole = empty-parts setup in
    record {
      parts = whole.parts;
      latest = whole.latest;
      latest-fit = zero-fits (replicate values_kept 0) refl;
    }

with-row-whole : (o : Observation) (row : Row) → Whole o → ValuesFit row → Whole (with_row o row)
unfolding with_row ValuesFit
with-row-whole o row before fits =
    let whole = with-row-parts o row before.latest in
    record {
      parts = whole.parts;
      latest = whole.latest;
      latest-fit = λ i.
          omega (
            arith,
            with_latest-le o.windows row.values o.latest before.latest largest_value fits (λ j. omega (arith, before.latest-fit j)) i,
          );
    }

record-after-whole :
    (o : Observation) (rows : List Row) → is_sound o ≡ true → AcceptedFit o.setup o.windows rows → Whole o → Whole (record_after o rows)
unfolding record_after accepted_calls
record-after-whole o [] sound fits before = before
record-after-whole o (row ∷ rows) sound fits before =
    let next = answer-sound o row rows sound fits in
    record-after-whole (add_row_answer o row).observation rows next.0 next.1
    (by-acceptance Whole o row sound (λ e. with-row-whole o row before (rw e at fits).0) (λ e. before))

-- ---- the invariant

-- the accepted rows of a list hold values of 32 bits
abbrev pub Fit : CallList → Type 0
Fit list = AcceptedFit list.setup 0 list.rows

pub record Follows (list : CallList) (words : List ℕ) : Type 0 where
  pub known : is_setup list.setup ≡ true
  pub counted : length words ≡ record_words
  pub held : Fit list → words ≡ words_of (after list)

abbrev pub FollowsBegun : Option CallList → List ℕ → Type 0
FollowsBegun none words = length words ≡ record_words
FollowsBegun (some list) words = Follows list words

pub after-whole : (list : CallList) → is_setup list.setup ≡ true → Fit list → Whole (after list)
unfolding after empty_record
after-whole list known fits =
    rw (fresh-of-known list.setup known)
    (record-after-whole (empty_record list.setup) list.rows (empty-record-sound list.setup known) fits (empty-whole list.setup))

-- the words hold the record after the list
pub record-held : (list : CallList) (words : List ℕ) → Follows list words → Fit list → record_of words ≡ after list
record-held list words follows fits =
    rw (follows.held fits) (record-of-words (after list) (after-whole list follows.known fits))

follows-length : (begun : Option CallList) (words : List ℕ) → FollowsBegun begun words → length words ≡ record_words
follows-length none words whole = whole
follows-length (some list) words follows = follows.counted

-- ---- one call

-- the words with a row of 40 values added, or what they were where it is refused
abbrev row_added : List ℕ → Row → List ℕ
row_added words row = unless_refused (add_row_refusal (record_of words) row) (words_of (with_row (record_of words) row)) words

row-added-length : (words : List ℕ) (row : Row) → length words ≡ record_words → length (row_added words row) ≡ record_words
row-added-length words row whole =
    by-refusal (λ (l : List ℕ). length l ≡ record_words) (add_row_refusal (record_of words) row)
    (words_of-length _ (with-row-parts (record_of words) row (latest-of-record words)).parts)
    whole

row-follows :
    (begun : Option CallList) (words : List ℕ) (row : Row) →
    FollowsBegun begun words →
    FollowsBegun (with_call begun row) (row_added words row)
unfolding with_call after add_row_answer
row-follows none words row whole = row-added-length words row whole
row-follows (some list) words row follows =
    record {
      known = follows.known;
      counted = row-added-length words row follows.counted;
      held = λ fits.
          let before = each-accepted-front (λ r. r) ValuesFit (accepted list) 0 list.rows (row ∷ []) fits in
          rw (record-held list words follows before, follows.held before, record-after-snoc _ list.rows row)
          (either (eqb (add_row_refusal (after list) row) no_refusal));
    }
  where
    either :
        (accepted : Bool) →
        cond accepted (words_of (with_row (after list) row)) (words_of (after list)) ≡
        words_of (cond accepted (with_row (after list) row) (after list))
    either true = refl
    either false = refl

-- an observation that is not refused is the list of its windows' rows
pub observed-follows :
    (number : ℕ) (setup : Setup) (recording : List ℤ) (start windows : ℕ) →
    observe_refusal setup recording start windows ≡ no_refusal →
    Follows
    (observed_list (kind_with number) setup recording start windows)
    (words_of (record_after (empty_record setup) (window_rows (kind_with number) setup recording start windows)))
unfolding after
observed-follows number setup recording start windows accepted =
    let known = observed-setup (kind_with number) setup recording start windows accepted in
    record {
      known = known;
      counted = words_of-length _ (record-after-parts (empty_record setup) _ (empty-parts setup)).parts;
      held = λ fits. rw (fresh-of-known setup known);
    }

module _ (begun : Option CallList) (words : List ℕ) (follows : FollowsBegun begun words) where
  whole : length words ≡ record_words
  whole = follows-length begun words follows

  fresh-follows : (setup : Setup) → FollowsBegun (list_asked begun (fresh_record setup)) (fresh_call_exit setup words)
  unfolding list_asked fresh_call_exit fresh_call_refusal fresh_refusal after record_after is_setup
  fresh-follows setup =
      rw (eq-eqb (length words) record_words whole) (go (is_system setup.system) (is_edition setup.edition) refl refl)
    where
      go :
          (known edition : Bool) →
          is_system setup.system ≡ known →
          is_edition setup.edition ≡ edition →
          FollowsBegun
          (cond (known && edition) (some (record { setup = setup; rows = [] })) begun)
          (unless_refused
          (first_fault ((not known, unknown_system) ∷ (not edition, unknown_edition) ∷ []))
          (words_of (empty_record setup))
          words)
      go true true e f =
          let is-setup = is_setup-known setup e f in
          record {
            known = is-setup;
            counted = words_of-length _ (empty-parts setup).parts;
            held = λ fits. ap words_of (sym (fresh-of-known setup is-setup));
          }
      go true false e f = follows
      go false edition e f = follows

  observe-follows :
      (number : ℕ) (setup : Setup) (recording : List ℤ) (start windows : ℕ) →
      FollowsBegun (list_asked begun (observe_windows number setup recording start windows)) (observe_call_exit number setup recording start windows words)
  unfolding list_asked observe_call_exit observe_call_refusal
  observe-follows number setup recording start windows =
      rw (eq-eqb (length words) record_words whole) (go (is_kind number) (eqb (observe_refusal setup recording start windows) no_refusal) refl)
    where
      list : CallList
      list = observed_list (kind_with number) setup recording start windows

      go :
          (known accepted : Bool) →
          eqb (observe_refusal setup recording start windows) no_refusal ≡ accepted →
          FollowsBegun
          (cond (known && eqb (observe_refusal setup recording start windows) no_refusal) (some list) begun)
          (unless_refused
          (own_first ((not known, unknown_kind) ∷ []) (observe_refusal setup recording start windows))
          (words_of (record_after (empty_record setup) (window_rows (kind_with number) setup recording start windows)))
          words)
      go true true e = rw e (observed-follows number setup recording start windows (eqb-true _ _ e))
      go true false e = rw e follows
      go false accepted e = follows

  add-row-follows :
      (setup : Setup) (values : List ℕ) → FollowsBegun (list_asked begun (add_row setup values)) (add_row_call_exit words setup values)
  unfolding list_asked add_row_call_exit add_row_call_refusal
  add-row-follows setup values = rw (eq-eqb (length words) record_words whole) (go (eqb (length values) order_count))
    where
      row : Row
      row = lent_row setup values

      go :
          (forty : Bool) →
          FollowsBegun
          (cond forty (with_call begun row) begun)
          (unless_refused
          (own_first ((not forty, wrong_word_count) ∷ []) (add_row_refusal (record_of words) row))
          (words_of (with_row (record_of words) row))
          words)
      go true = row-follows begun words row follows
      go false = follows

  asked-follows : (asked : Asked) → FollowsBegun (list_asked begun asked) (left_by words asked)
  unfolding left_by list_asked
  asked-follows (fresh_record setup) = fresh-follows setup
  asked-follows (observe_windows number setup recording start windows) = observe-follows number setup recording start windows
  asked-follows (add_row setup values) = add-row-follows setup values
  asked-follows (ask_verdict q) = follows
  asked-follows (ask_three_second order) = follows

  -- other than 423 words stay as they were
  left_alone : (part : List ℕ) (asked : Asked) → (length part ≡ record_words → ⊥) → left_by part asked ≡ part
  unfolding left_by fresh_call_exit fresh_call_refusal observe_call_exit observe_call_refusal add_row_call_exit add_row_call_refusal
  left_alone part (fresh_record setup) other = rw (ne_eqb (length part) record_words other)
  left_alone part (observe_windows number setup recording start windows) other = by_kind (is_kind number)
    where
      by_kind :
          (known : Bool) →
          unless_refused
          (own_first ((not known, unknown_kind) ∷ word_count_check record_words part ∷ []) (observe_refusal setup recording start windows))
          (words_of (record_after (empty_record setup) (window_rows (kind_with number) setup recording start windows)))
          part
          ≡ part
      by_kind true = rw (ne_eqb (length part) record_words other)
      by_kind false = refl
  left_alone part (add_row setup values) other = rw (ne_eqb (length part) record_words other)
  left_alone part (ask_verdict q) other = refl
  left_alone part (ask_three_second order) other = refl

  call-follows : (call : Call) → FollowsBegun (list_at_exit begun call) (words_at_exit words call)
  unfolding words_at_exit list_at_exit
  call-follows call = by_count (dec_le record_words call.lent)
    where
      by_count :
          Dec (record_words ≤ call.lent) →
          FollowsBegun
          (cond (leb record_words call.lent) (list_asked begun call.asked) begun)
          (left_by (take call.lent words) call.asked ++ drop call.lent words)
      by_count (yes all) =
          rw (
            le-leb record_words call.lent all,
            take_all call.lent words (omega (arith, whole)),
            drop_of_length-le words {i = call.lent} (omega (arith, whole)),
            append-nil,
          )
          (asked-follows call.asked)
      by_count (no fewer) =
          let other : length (take call.lent words) ≡ record_words → ⊥ =
          λ e. omega (arith, length-take call.lent words, whole) in
          rw (lt-leb record_words call.lent (omega arith), left_alone (take call.lent words) call.asked other, take-append-drop)
          follows

-- ---- any calls

pub calls-follow :
    (calls : List Call) (begun : Option CallList) (words : List ℕ) →
    FollowsBegun begun words →
    FollowsBegun (list_after begun calls) (words_after words calls)
unfolding list_after words_after
calls-follow [] begun words follows = follows
calls-follow (call ∷ calls) begun words follows =
    calls-follow calls (list_at_exit begun call) (words_at_exit words call) (call-follows begun words follows call)
