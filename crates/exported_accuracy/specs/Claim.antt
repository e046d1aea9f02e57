-- Demand 3 of what the exported calls leave in the caller's buffers (document 01, "Groups", "The list" and "Class A verdicts"), in every class,
-- under every edition, with the three-second value and with the panel's row (document 02, cards 1, 6, 7 and 8).
use Rattle.std.specs.Prelude.{◌≡◌, cond, List, ℕ, ◌+◌, ◌-◌, ◌≤◌, ltb, ℤ, length, get_or}
use Rattle.std.proofs.Math.Option.{none, some}
use Rattle.algebra.specs.Fraction.{whole, ◌+ᶠ◌, ◌≤ᶠ◌}
use Rattle.refusals.specs.Numbers.{no_refusal, too_few_windows}
use Rattle.rows.specs.declared.Setup.{Setup}
use Rattle.rows.specs.Orders.{order_count}
use Rattle.spectral_lines.specs.Line.{line_count}
use Rattle.windows.specs.Window.{window_at}
use Rattle.spectrum.specs.Spectrum.{spectrum_refusal, spectrum_exit}
use Rattle.kinds.specs.declared.Kind.{Kind}
use Rattle.kinds.specs.declared.Kind.TheVariants.{HarmonicGroup}
use Rattle.classes.specs.Letters.{letter_of}
use Rattle.verdict.specs.declared.Question.{Question}
use Rattle.verdict.specs.declared.Verdict.{Verdict}
use Rattle.books.specs.Smoothing.{smoothed_margin}
use Rattle.latest_rows.specs.Latest.{rows_kept}
use Rattle.observation.specs.BookCalls.{AcceptedFit}
use Rattle.verdict.specs.Question.{class_asked}
use Rattle.verdict.specs.Call.{order_number}
use Rattle.three_seconds.specs.ThreeSecond.{three_second_of}
use Rattle.accuracy.specs.Distance.{EveryOrder, WithinMargin, ValueNear}
use Rattle.accuracy.specs.CallList.{CallList, after, accepted_rows, state}
use Rattle.accuracy.specs.WorkedRows.{Worked, SampledRows}
use Rattle.accuracy.specs.LatestRows.{three_second_margin, exact_three_second, last_rows, last_values}
use Rattle.accuracy.specs.Claim.{WorkedList, LBook, UBook, Keeps, ListHolds, observed_list}
use Rattle.kind_numbers.specs.Kinds.{kind_with}
use Rattle.exported_windows.specs.GroupCalls.{group_call_refusal, group_call_exit, row_call_refusal, row_call_exit}
use Rattle.exported_lines.specs.PanelCall.{panel_call_refusal, panel_call_values_exit}
use Rattle.record_words.specs.Words.{smoothed_place, record_words, words_of}
use Rattle.exported_records.specs.RecordCalls.{lent_row}
use Rattle.exported_observe.specs.ObserveCall.{observe_call_refusal, observe_call_exit}
use Rattle.exported_judgements.specs.VerdictCall.{verdict_number, verdict_call_refusal, verdict_call_exit}
use Rattle.exported_judgements.specs.ThreeSecondCall.{three_second_call_refusal, three_second_call_exit}
use Rattle.exported_accuracy.specs.Calls.{Call, words_after, list_after}

-- the word of an order's smoothed value
abbrev pub smoothed_word : List ℕ → ℕ → ℕ
smoothed_word words order = get_or words (smoothed_place + (order - 1)) 0

-- a verdict call that is not refused leaves the number of a verdict of the order that keeps its claim in the class that is asked, whose letter was given, whatever the number was before
pub record CalledVerdict (kind : Kind) (list : CallList) (words : List ℕ) (q : Question) : Type 0 where
  pub named : letter_of (class_asked q) ≡ q.letter
  pub verdict : Verdict
  pub of-order : order_number verdict ≡ q.order
  pub number : (before : ℕ) → verdict_call_exit words q before ≡ verdict_number verdict
  pub kept : Keeps kind list (class_asked q) q.order q.scale verdict

-- what the call for the three-second value answers of some words after any list of add row calls, whatever 32-bit
-- values its rows hold (document 02, card 8)
pub record CalledThreeSecond (list : CallList) (words : List ℕ) : Type 0 where
  -- it is refused with 20 before the fifteenth accepted row, and not from then on
  pub asked : EveryOrder (λ order. three_second_call_refusal words order ≡ cond (ltb (length (accepted_rows list)) rows_kept) too_few_windows no_refusal)
  -- and leaves then the value of the last 15 accepted rows, whatever the value was before
  pub left : EveryOrder (λ order.
      rows_kept ≤ length (accepted_rows list) →
      (before : ℕ) → three_second_call_exit words order before ≡ three_second_of (last_values list order))
  -- within 8 units of the exact one, where these rows are worked from samples of one kind
  pub near : (kind : Kind) → EveryOrder (λ order.
      rows_kept ≤ length (accepted_rows list) →
      (samples : SampledRows kind (last_rows list)) (before : ℕ) →
      WithinMargin three_second_margin (three_second_call_exit words order before) (exact_three_second kind order samples.sampled))

-- what some words hold after a list of document 01
pub record WordsHold (kind : Kind) (list : CallList) (words : List ℕ) : Type 0 where
  -- they are the words of the record after the list, of which demand 3 is claimed
  pub held : words ≡ words_of (after list)
  pub claimed : ListHolds kind list
  -- smoothed is at least the smoothing of the l less 12, and at most that of the u plus 12
  pub smoothed-low : EveryOrder (λ order.
      (book : LBook kind list order) → (state list book).smoothed ≤ᶠ whole (smoothed_word words order + smoothed_margin))
  pub smoothed-high : EveryOrder (λ order.
      (book : UBook kind list order) → whole (smoothed_word words order) ≤ᶠ (state list book).smoothed +ᶠ whole smoothed_margin)
  -- a three-second value is that of the list
  pub three-seconds : CalledThreeSecond list words
  pub verdicts :
      (q : Question) →
      verdict_call_refusal words q ≡ no_refusal →
      CalledVerdict kind list words q

-- kifsang_spectrum of a recording, and then a call for its lines, neither refused
module _ (recording : List ℤ) (start : ℕ) (buffer : List ℕ) (number : ℕ) (setup : Setup) where
  abbrev pub CalledGroup : ℕ → ℕ → Type 0
  CalledGroup order before =
      spectrum_refusal recording start buffer ≡ no_refusal →
      group_call_refusal number setup order (spectrum_exit recording start buffer) ≡ no_refusal →
      ValueNear (kind_with number) setup order (window_at recording start)
      (group_call_exit number setup order (spectrum_exit recording start buffer) before)

  abbrev pub CalledRow : List ℕ → Type 0
  CalledRow before =
      spectrum_refusal recording start buffer ≡ no_refusal →
      row_call_refusal number setup (spectrum_exit recording start buffer) before ≡ no_refusal →
      Worked
      (kind_with number)
      (lent_row setup (row_call_exit number setup (spectrum_exit recording start buffer) before))
      (window_at recording start)

-- kifsang_panel_row of a recording, not refused (document 02, card 6): its row is worked from samples, each of its values is within 7 units of the exact group,
-- and it is the very row that kifsang_spectrum, with any 512 lines, and kifsang_row, of kind 1 with any 40 values, leave; neither is refused
module _ (recording : List ℤ) (start : ℕ) (setup : Setup) (lines before : List ℕ) where
  pub record PanelHolds : Type 0 where
    pub worked : Worked HarmonicGroup (lent_row setup (panel_call_values_exit setup recording start lines before)) (window_at recording start)
    pub near : EveryOrder (λ order.
        ValueNear HarmonicGroup setup order (window_at recording start)
        (get_or (panel_call_values_exit setup recording start lines before) (order - 1) 0))
    pub same_row : (all values : List ℕ) → length all ≡ line_count → length values ≡ order_count →
        (spectrum_refusal recording start all ≡ no_refusal) ×
        (row_call_refusal 1 setup (spectrum_exit recording start all) values ≡ no_refusal) ×
        (panel_call_values_exit setup recording start lines before ≡ row_call_exit 1 setup (spectrum_exit recording start all) values)

  abbrev pub CalledPanel : Type 0
  CalledPanel = panel_call_refusal setup recording start lines before ≡ no_refusal → PanelHolds

-- kifsang_observe, not refused: the words that it leaves hold what demand 3 claims of the list of the windows' rows, which are worked from samples
abbrev pub CalledObserve : List ℤ → ℕ → ℕ → Setup → ℕ → List ℕ → Type 0
CalledObserve recording start number setup windows before =
    observe_call_refusal number setup recording start windows before ≡ no_refusal →
    WordsHold (kind_with number) (observed_list (kind_with number) setup recording start windows)
    (observe_call_exit number setup recording start windows before)

-- Demand 3 for the exported calls: the distance of a group value; a row that is worked from samples, with 512 lines and with 13; and for any calls on
-- any 423 words, refused ones and ones that lend fewer words included, that they hold the record after the list that they have
-- come to and what the three-second value then is, and the claim about that list where its accepted rows are worked from samples
-- of one kind; and of an observation, whose rows are.
pub record ExportedDemand3Holds : Type 0 where
  pub groups :
      (recording : List ℤ) (start : ℕ) (buffer : List ℕ) (number : ℕ) (setup : Setup) (order before : ℕ) →
      CalledGroup recording start buffer number setup order before
  pub rows :
      (recording : List ℤ) (start : ℕ) (buffer : List ℕ) (number : ℕ) (setup : Setup) (before : List ℕ) →
      CalledRow recording start buffer number setup before
  pub panels :
      (recording : List ℤ) (start : ℕ) (setup : Setup) (lines before : List ℕ) →
      CalledPanel recording start setup lines before
  pub latest :
      (words : List ℕ) →
      length words ≡ record_words →
      (calls : List Call) (list : CallList) →
      list_after none calls ≡ some list →
      AcceptedFit list.setup 0 list.rows →
      (words_after words calls ≡ words_of (after list)) × CalledThreeSecond list (words_after words calls)
  pub lists :
      (kind : Kind) (words : List ℕ) →
      length words ≡ record_words →
      (calls : List Call) (list : CallList) →
      list_after none calls ≡ some list →
      WorkedList kind list →
      WordsHold kind list (words_after words calls)
  pub observed :
      (recording : List ℤ) (start number : ℕ) (setup : Setup) (windows : ℕ) (before : List ℕ) →
      CalledObserve recording start number setup windows before
