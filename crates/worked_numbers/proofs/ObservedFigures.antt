-- The margins of demand 3 and the verdicts in figures, of the windows that `observe` and kifsang_observe take, of any kind and setup.
use mathlib.Core.Path.{◌≡◌, refl, sym, ap, ◌∙◌}
use mathlib.Core.List.{List}
use Prim.Native.Nat.{ℕ, ◌+◌, ◌-◌, ◌*◌, ◌≤◌}
use native.Mathlib.Omega.{arith}
use lib.IntN.{ℤ}
use lib.ListN.{length, get_or}
use Rattle.algebra.specs.Fraction.{whole, ◌+ᶠ◌}
use Rattle.windows.specs.Window.{window_at}
use Rattle.kinds.specs.declared.Kind.{Kind}
use Rattle.rows.specs.declared.Setup.{Setup}
use Rattle.records.specs.declared.Observation.{Observation}
use Rattle.books.specs.Book.{Book}
use Rattle.books.specs.Smoothing.{reported}
use Rattle.observation.specs.Calls.{book_at}
use Rattle.classes.specs.Letters.{class_with}
use Rattle.limits.specs.Limit.{limit_of}
use Rattle.verdict.specs.Question.{asked}
use Rattle.three_seconds.specs.ThreeSecond.{three_second_answer}
use Rattle.accuracy.specs.CallList.{CallList, after, accepted_rows}
use Rattle.accuracy.specs.Claim.{WorkedList, observed_list}
use Rattle.observe.specs.Observe.{observe_refusal, observe_answer, window_rows}
use Rattle.accuracy.proofs.Demand3.{demand3}
use Rattle.record_words.specs.Words.{words_of}
use Rattle.kind_numbers.specs.Kinds.{kind_with}
use Rattle.exported_observe.specs.ObserveCall.{observe_call_refusal, observe_call_exit}
use Rattle.exported_judgements.specs.ThreeSecondCall.{three_second_call_exit}
use Rattle.exported_judgements.specs.VerdictCall.{verdict_call_refusal, verdict_call_exit}
use Rattle.exported_accuracy.specs.Claim.{WordsHold}
use Rattle.exported_accuracy.proofs.ExportedDemand3.{exported-demand3}
use Rattle.algebra.specs.Lists.{tabulate}
use Rattle.groups.specs.Group.{window_row}
use Rattle.worked_numbers.proofs.SmoothedFigures.{Within12}
use Rattle.worked_numbers.proofs.ThreeSecondFigures.{Within8, within-8-of, ValueLeft, value-left}
use Rattle.worked_numbers.proofs.VerdictFigures.{NumberSays, called-number-says}

-- the list of an observation: the rows of its windows, which begin 2,048 samples apart; they are worked from samples
observed-rows :
    (kind : Kind) (setup : Setup) (recording : List ℤ) (start windows : ℕ) →
    observed_list kind setup recording start windows ≡
    record { setup = setup; rows = tabulate windows (λ i. window_row kind setup (window_at recording (start + 2048 * i))) }
unfolding window_rows
observed-rows kind setup recording start windows = refl

observed-worked :
    (kind : Kind) (setup : Setup) (recording : List ℤ) (start windows : ℕ) →
    observe_refusal setup recording start windows ≡ 0 →
    WorkedList kind (observed_list kind setup recording start windows)
observed-worked kind setup recording start windows accepted = (demand3.observed kind setup recording start windows accepted).worked

-- the record is the one after the list of these rows
observed-record :
    (kind : Kind) (setup : Setup) (recording : List ℤ) (start windows : ℕ) →
    observe_refusal setup recording start windows ≡ 0 →
    (observe_answer kind setup recording start windows).observation ≡ after (observed_list kind setup recording start windows)
observed-record kind setup recording start windows accepted = (demand3.observed kind setup recording start windows accepted).same-record

-- it holds as many windows as were asked for
observed-windows :
    (kind : Kind) (setup : Setup) (recording : List ℤ) (start windows : ℕ) →
    observe_refusal setup recording start windows ≡ 0 →
    (observe_answer kind setup recording start windows).observation.windows ≡ windows
observed-windows kind setup recording start windows accepted = (demand3.observed kind setup recording start windows accepted).windows-held

-- the record that `observe` answers, of any kind and setup
observed-within-12 :
    (kind : Kind) (setup : Setup) (recording : List ℤ) (start windows order : ℕ) →
    observe_refusal setup recording start windows ≡ 0 →
    1 ≤ order →
    order ≤ 40 →
    Within12 kind (observed_list kind setup recording start windows) order
    (get_or (observe_answer kind setup recording start windows).observation.smoothed (order - 1) 0)
unfolding whole ◌+ᶠ◌ book_at
observed-within-12 kind setup recording start windows order accepted least most l u =
    let observed = demand3.observed kind setup recording start windows accepted in
    let held = ap (λ (book : Book reported). book.smoothed) (observed.holds.same_books order least most) in
    rw (observed.same-record, held)
    (omega (arith, observed.holds.smoothed-low order least most l), omega (arith, observed.holds.smoothed-high order least most u))

-- and its three-second values, from the fifteenth window on
observed-within-8 :
    (kind : Kind) (setup : Setup) (recording : List ℤ) (start windows order : ℕ) →
    observe_refusal setup recording start windows ≡ 0 →
    1 ≤ order →
    order ≤ 40 →
    let list = observed_list kind setup recording start windows in
    (length (accepted_rows list) ≡ windows) ×
    Within8 kind list order (three_second_answer (observe_answer kind setup recording start windows).observation order).value
observed-within-8 kind setup recording start windows order accepted least most =
    let observed = demand3.observed kind setup recording start windows accepted in
    let list = observed_list kind setup recording start windows in
    let same = observed.same-record in (
      sym observed.holds.latest.same-windows ∙ (ap (λ (o : Observation). o.windows) (sym same) ∙ observed.windows-held),
      rw same (within-8-of kind list order _ (observed.holds.latest.near kind order least most)),
    )

-- the words that kifsang_observe leaves of a kind, by its number, and the verdicts that are then asked
module _
    (recording : List ℤ) (start number windows : ℕ) (setup : Setup) (before : List ℕ)
    (accepted : observe_call_refusal number setup recording start windows before ≡ 0)
  where
    abbrev kind : Kind
    kind = kind_with number

    abbrev list : CallList
    list = observed_list kind setup recording start windows

    abbrev words : List ℕ
    words = observe_call_exit number setup recording start windows before

    held : WordsHold kind list words
    held = exported-demand3.observed recording start number setup windows before accepted

    observed-words-held : words ≡ words_of (after list)
    observed-words-held = held.held

    observed-words-within-12 : (order : ℕ) → 1 ≤ order → order ≤ 40 → Within12 kind list order (get_or words (3 + (order - 1)) 0)
    unfolding whole ◌+ᶠ◌
    observed-words-within-12 order least most l u =
        (omega (arith, held.smoothed-low order least most l), omega (arith, held.smoothed-high order least most u))

    observed-words-three-second : (order : ℕ) → 1 ≤ order → order ≤ 40 → ValueLeft list words order
    observed-words-three-second order least most = value-left list words order least most held.three-seconds

    observed-words-within-8 :
        (order value : ℕ) → 1 ≤ order → order ≤ 40 → Within8 kind list order (three_second_call_exit words order value)
    observed-words-within-8 order value least most =
        within-8-of kind list order _ (λ enough samples. held.three-seconds.near kind order least most enough samples value)

    observed-number-says :
        (order letter k value : ℕ) →
        verdict_call_refusal words (asked order letter k) ≡ 0 →
        let limit = limit_of (class_with letter) order in
        NumberSays kind list order limit.num limit.den k (verdict_call_exit words (asked order letter k) value)
    observed-number-says = called-number-says kind list words held
