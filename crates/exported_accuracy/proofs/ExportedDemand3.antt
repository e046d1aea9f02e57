-- Demand 3 for the exported calls: the words follow the list of document 01, and demand 3 holds of the record after it.
use mathlib.Core.Path.{◌≡◌, ap, ◌∙◌, subst}
use mathlib.Core.Bool.{cond}
use mathlib.Core.List.{List, [], ◌∷◌}
use mathlib.Core.Option.{none}
use Prim.Native.Nat.{ℕ, ◌-◌, ◌≤◌}
use borrow.Author.Tests.{eq-eqb, le-ltb}
use lib.Dec.{ltb}
use lib.ListN.{length, get_or}
use native.Mathlib.Omega.{arith}
use lib.IntN.{ℤ}
use Rattle.refusals.specs.Numbers.{no_refusal, too_few_windows}
use Rattle.refusals.specs.Answers.{first_fault}
use Rattle.rows.specs.declared.Setup.{Setup}
use Rattle.kinds.specs.declared.Kind.{Kind}
use Rattle.books.specs.Book.{Book}
use Rattle.books.specs.Smoothing.{reported}
use Rattle.latest_rows.specs.Latest.{rows_kept}
use Rattle.observation.specs.Calls.{book_at}
use Rattle.verdict.specs.declared.Question.{Question}
use Rattle.verdict.specs.Call.{verdict_refusal}
use Rattle.three_seconds.specs.ThreeSecond.{three_second_of}
use Rattle.accuracy.specs.Distance.{EveryOrder}
use Rattle.accuracy.specs.CallList.{CallList, after, accepted_rows}
use Rattle.accuracy.specs.LatestRows.{last_values}
use Rattle.accuracy.specs.Claim.{WorkedList, ListHolds, reported_book, observed_list}
use Rattle.accuracy.proofs.WorkedRows.{worked-list-fits}
use Rattle.accuracy.proofs.Demand3.{demand3}
use Rattle.exported_answers.specs.OwnChecks.{word_count_check}
use Rattle.record_words.specs.Words.{record_words, parts_of}
use Rattle.record_words.proofs.Words.{smoothed-word}
use Rattle.kind_numbers.specs.Kinds.{kind_with, kind_check}
use Rattle.exported_observe.specs.ObserveCall.{observe_call_refusal, observe_call_exit}
use Rattle.exported_judgements.specs.VerdictCall.{verdict_call_refusal, verdict_call_exit}
use Rattle.exported_judgements.specs.ThreeSecondCall.{three_second_call_refusal, three_second_call_exit}
use Rattle.exported_answers.proofs.Handed.{own-first-none}
use Rattle.exported_judgements.proofs.VerdictCases.{given-case}
use Rattle.exported_accuracy.specs.Calls.{words_after}
use Rattle.exported_accuracy.specs.Claim.{smoothed_word, CalledVerdict, CalledThreeSecond, WordsHold, CalledObserve, ExportedDemand3Holds}
use Rattle.exported_accuracy.proofs.WordsFollow.{Fit, Follows, FollowsBegun, after-whole, record-held, observed-follows, calls-follow}
use Rattle.exported_accuracy.proofs.CalledGroups.{called-group, called-row, called-panel}

-- the three-second value that is asked for
called-three-second : (list : CallList) (words : List ℕ) → Follows list words → Fit list → CalledThreeSecond list words
unfolding three_second_call_refusal three_second_call_exit
called-three-second list words follows fits =
    let claimed = demand3.latest list follows.known fits in
    let held = record-held list words follows fits in
    let asked : EveryOrder (λ order. three_second_call_refusal words order ≡ cond (ltb (length (accepted_rows list)) rows_kept) too_few_windows no_refusal) =
    λ order positive le. rw (eq-eqb (length words) record_words follows.counted, held, claimed.asked order positive le) in
    let left : EveryOrder (λ order.
    rows_kept ≤ length (accepted_rows list) →
    (before : ℕ) → three_second_call_exit words order before ≡ three_second_of (last_values list order)) =
    λ order positive le enough before.
    rw (
      asked order positive le,
      le-ltb (length (accepted_rows list)) rows_kept enough,
      held,
      claimed.same-latest order positive le,
    ) in
    record {
      asked = asked;
      left = left;
      near = λ kind order positive le enough samples before.
          rw (left order positive le enough before)
          (rw (claimed.answered order positive le enough) at (claimed.near kind order positive le enough samples));
    }

module _
    (kind : Kind) (list : CallList) (words : List ℕ)
    (follows : Follows list words) (worked : WorkedList kind list)
  where
    fits : Fit list
    fits = worked-list-fits kind list worked

    claimed : ListHolds kind list
    claimed = demand3.lists kind list follows.known worked

    smoothed-held : EveryOrder (λ order. smoothed_word words order ≡ (reported_book list order).smoothed)
    unfolding book_at parts_of
    smoothed-held order positive le =
        let count = ap (λ (counts : List ℕ). get_or counts 3 0) (after-whole list follows.known fits).parts in
        rw (follows.held fits)
        (smoothed-word (after list) (order - 1) (omega (arith, count)) ∙
        ap (λ (book : Book reported). book.smoothed) (claimed.same_books order positive le))

    called-verdict :
        (q : Question) →
        verdict_call_refusal words q ≡ no_refusal →
        CalledVerdict kind list words q
    unfolding verdict_call_refusal verdict_call_exit
    called-verdict q asked =
        let o = after list in
        let held = record-held list words follows fits in
        let passed : verdict_refusal o q ≡ no_refusal =
        own-first-none (first_fault (word_count_check record_words words ∷ [])) _ (rw held at asked) in
        let given = claimed.verdicts q passed in
        let same = (given-case o q given.verdict given.given).1 in
        record {
          named = given.named;
          verdict = given.verdict;
          of-order = given.of-order;
          number = λ before. rw (asked, held, same);
          kept = given.kept;
        }

    pub words-hold : WordsHold kind list words
    words-hold =
        record {
          held = follows.held fits;
          claimed = claimed;
          smoothed-low = λ order positive le book. rw (smoothed-held order positive le) (claimed.smoothed-low order positive le book);
          smoothed-high = λ order positive le book. rw (smoothed-held order positive le) (claimed.smoothed-high order positive le book);
          three-seconds = called-three-second list words follows fits;
          verdicts = called-verdict;
        }

-- the words that an observation leaves, where neither the own checks nor the library's refuse it
observed-words :
    (recording : List ℤ) (start number : ℕ) (setup : Setup) (windows : ℕ) (before : List ℕ) → CalledObserve recording start number setup windows before
unfolding observe_call_refusal observe_call_exit
observed-words recording start number setup windows before asked =
    let passed = own-first-none (first_fault (kind_check number ∷ word_count_check record_words before ∷ [])) _ asked in
    rw asked
    (words-hold (kind_with number) (observed_list (kind_with number) setup recording start windows) _
    (observed-follows number setup recording start windows passed)
    (demand3.observed (kind_with number) setup recording start windows passed).worked)

pub exported-demand3 : ExportedDemand3Holds
exported-demand3 =
    record {
      groups = called-group;
      rows = called-row;
      panels = called-panel;
      latest = λ words whole calls list came fits.
          let follow = calls-follow calls none words whole in
          let follows = subst (λ begun. FollowsBegun begun (words_after words calls)) came follow in
          (follows.held fits, called-three-second list _ follows fits);
      lists = λ kind words whole calls list came worked.
          let follow = calls-follow calls none words whole in
          words-hold kind list _ (subst (λ begun. FollowsBegun begun (words_after words calls)) came follow) worked;
      observed = λ recording start number setup windows before asked. observed-words recording start number setup windows before asked;
    }
