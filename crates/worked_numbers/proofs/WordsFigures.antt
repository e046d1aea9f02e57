-- The margins of demand 3 and the verdicts in figures, of the words of a record after any exported calls.
use mathlib.Core.Path.{◌≡◌}
use mathlib.Core.List.{List}
use mathlib.Core.Option.{none, some}
use Prim.Native.Nat.{ℕ, ◌+◌, ◌-◌, ◌≤◌}
use native.Mathlib.Omega.{arith}
use lib.ListN.{length, get_or}
use Rattle.algebra.specs.Fraction.{whole, ◌+ᶠ◌}
use Rattle.kinds.specs.declared.Kind.{Kind}
use Rattle.observation.specs.BookCalls.{AcceptedFit}
use Rattle.classes.specs.Letters.{class_with}
use Rattle.limits.specs.Limit.{limit_of}
use Rattle.verdict.specs.Question.{asked}
use Rattle.accuracy.specs.CallList.{CallList, after}
use Rattle.accuracy.specs.Claim.{WorkedList}
use Rattle.record_words.specs.Words.{words_of}
use Rattle.exported_judgements.specs.ThreeSecondCall.{three_second_call_exit}
use Rattle.exported_judgements.specs.VerdictCall.{verdict_call_refusal, verdict_call_exit}
use Rattle.exported_accuracy.specs.Calls.{Call, words_after, list_after}
use Rattle.exported_accuracy.specs.Claim.{WordsHold}
use Rattle.exported_accuracy.proofs.ExportedDemand3.{exported-demand3}
use Rattle.worked_numbers.proofs.SmoothedFigures.{Within12}
use Rattle.worked_numbers.proofs.ThreeSecondFigures.{Within8, within-8-of, ValueLeft, value-left}
use Rattle.worked_numbers.proofs.VerdictFigures.{NumberSays, EachFigure, called-number-says, called-figures-say}

module _
    (kind : Kind) (words : List ℕ) (calls : List Call) (list : CallList)
    (whole-record : length words ≡ 423) (came : list_after none calls ≡ some list) (worked : WorkedList kind list)
  where
    holds : WordsHold kind list (words_after words calls)
    holds = exported-demand3.lists kind words whole-record calls list came worked

    words-within-12 :
        (order : ℕ) → 1 ≤ order → order ≤ 40 → Within12 kind list order (get_or (words_after words calls) (3 + (order - 1)) 0)
    unfolding whole ◌+ᶠ◌
    words-within-12 order least most l u =
        (omega (arith, holds.smoothed-low order least most l), omega (arith, holds.smoothed-high order least most u))

    words-number-says :
        (order letter k before : ℕ) →
        verdict_call_refusal (words_after words calls) (asked order letter k) ≡ 0 →
        let limit = limit_of (class_with letter) order in
        NumberSays kind list order limit.num limit.den k (verdict_call_exit (words_after words calls) (asked order letter k) before)
    words-number-says = called-number-says kind list (words_after words calls) holds

    words-figures-say :
        (k before : ℕ) →
        EachFigure (λ letter order num den.
        verdict_call_refusal (words_after words calls) (asked order letter k) ≡ 0 →
        NumberSays kind list order num den k (verdict_call_exit (words_after words calls) (asked order letter k) before))
    words-figures-say = called-figures-say kind list (words_after words calls) holds

-- whatever 32-bit values their rows hold
module _
    (words : List ℕ) (calls : List Call) (list : CallList)
    (whole-record : length words ≡ 423) (came : list_after none calls ≡ some list) (fits : AcceptedFit list.setup 0 list.rows)
  where
    words-held : words_after words calls ≡ words_of (after list)
    words-held = (exported-demand3.latest words whole-record calls list came fits).0

    words-three-second : (order : ℕ) → 1 ≤ order → order ≤ 40 → ValueLeft list (words_after words calls) order
    words-three-second order least most =
        value-left list (words_after words calls) order least most (exported-demand3.latest words whole-record calls list came fits).1

    words-within-8 :
        (kind : Kind) (order before : ℕ) → 1 ≤ order → order ≤ 40 →
        Within8 kind list order (three_second_call_exit (words_after words calls) order before)
    words-within-8 kind order before least most =
        let called = (exported-demand3.latest words whole-record calls list came fits).1 in
        within-8-of kind list order _ (λ enough samples. called.near kind order least most enough samples before)
