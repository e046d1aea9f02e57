-- Demand 3 as one claim about a list of add row calls as a whole (document 01, "The list" and "Class A verdicts"), under every edition,
-- with verdicts in every class and the three-second value (document 02, cards 1, 7 and 8).
use Rattle.std.specs.Prelude.{◌≡◌, true, ◌⊎◌, List, ℕ, ◌+◌, ◌-◌, ℤ}
use Rattle.algebra.specs.Fraction.{whole, Side, lower, upper, RootBound, ◌+ᶠ◌, ◌≤ᶠ◌}
use Rattle.refusals.specs.Numbers.{no_refusal}
use Rattle.rows.specs.Setups.{is_setup}
use Rattle.rows.specs.declared.Setup.{Setup}
use Rattle.kinds.specs.declared.Kind.{Kind}
use Rattle.groups.specs.Exact.{exact_group}
use Rattle.books.specs.Book.{Book}
use Rattle.books.specs.Smoothing.{reported, smoothed_margin}
use Rattle.observation.specs.Calls.{book_at}
use Rattle.observation.specs.BookCalls.{EachAccepted, Fed, value_at, AcceptedFit}
use Rattle.observe.specs.Observe.{window_rows, observe_refusal, observe_answer}
use Rattle.classes.specs.declared.Class.{Class}
use Rattle.classes.specs.Letters.{letter_of}
use Rattle.verdict.specs.declared.Question.{Question}
use Rattle.verdict.specs.declared.Verdict.{Verdict}
use Rattle.verdict.specs.declared.Verdict.TheVariants.{Within, Close, Over}
use Rattle.verdict.specs.Call.{Given, verdict_refusal, verdict_answer, order_number}
use Rattle.verdict.specs.Question.{class_asked}
use Rattle.accuracy.specs.Distance.{EveryOrder, WeightsNear, GroupsNear}
use Rattle.accuracy.specs.ExactBook.{exact}
use Rattle.accuracy.specs.Rule.{Passes, AverageExceeds, PeakExceeds, AverageTouches, PeakTouches}
use Rattle.accuracy.specs.CallList.{CallList, after, accepted, reported_from, ExactBook, state}
use Rattle.accuracy.specs.WorkedRows.{Worked}
use Rattle.accuracy.specs.LatestRows.{LatestHolds}

-- "Accepted rows are worked from samples, all of one kind; a refused row may hold anything"
unfoldable pub WorkedList : Kind → CallList → Type 0
WorkedList kind list =
    EachAccepted (λ row. row) (λ row. (window : List ℤ) × Worked kind row window) (accepted list) 0 list.rows

-- What an exact book of an order may be fed at a row: of any window that the row is worked from, for an l book an l with l² at most G, for a u book a u with u² at least G.
unfoldable pub Feeds : Side → Kind → ℕ → Fed exact → Type 0
Feeds side kind order call =
    (window : List ℤ) ×
    Worked kind call.row window ×
    RootBound side call.value (exact_group kind call.row.setup order window)

-- the reported book of an order reads the row's value at its place
abbrev pub reported_book : CallList → ℕ → Book reported
reported_book list order = reported_from list (value_at (order - 1))

module _ (kind : Kind) (list : CallList) where
  -- document 01's l books and u books of an order
  abbrev pub LBook : ℕ → Type 0
  LBook order = ExactBook list (Feeds lower kind order)

  abbrev pub UBook : ℕ → Type 0
  UBook order = ExactBook list (Feeds upper kind order)

  -- what each verdict claims of the exact books, or of the reported one, in a class
  unfoldable pub Keeps : (class : Class) (order scale : ℕ) → Verdict → Type 0
  Keeps class order scale (Within h) = (book : LBook order) → Passes class order scale (state list book)
  Keeps class order scale (Over h) =
      ((book : UBook order) → AverageExceeds class order scale (state list book)) ⊎
      ((book : UBook order) → PeakExceeds class order scale (state list book))
  Keeps class order scale (Close h) =
      AverageTouches class order scale (reported_book list order) ⊎ PeakTouches class order scale (reported_book list order)

  -- the letter is that of the class that is asked; a verdict is given, for the order that was asked, and it keeps its claim in that class
  pub record GivenVerdict (q : Question) : Type 0 where
    pub named : letter_of (class_asked q) ≡ q.letter
    pub verdict : Verdict
    pub given : verdict_answer (after list) q ≡ Given verdict
    pub of-order : order_number verdict ≡ q.order
    pub kept : Keeps (class_asked q) q.order q.scale verdict

  -- what holds after a list of calls, and of the three-second values and the verdicts then asked
  pub record ListHolds : Type 0 where
    -- the record's system and edition, n, smoothed values, sums and peaks are those of the reported books
    pub same-setup : (after list).setup ≡ list.setup
    pub same_books : EveryOrder (λ order. book_at (after list) (order - 1) ≡ reported_book list order)
    -- smoothed is at least the smoothing of the l less 12, and at most that of the u plus 12
    pub smoothed-low : EveryOrder (λ order.
        (book : LBook order) → (state list book).smoothed ≤ᶠ whole ((reported_book list order).smoothed + smoothed_margin))
    pub smoothed-high : EveryOrder (λ order.
        (book : UBook order) → whole (reported_book list order).smoothed ≤ᶠ (state list book).smoothed +ᶠ whole smoothed_margin)
    -- the latest rows and the three-second value are those of the list, and from the fifteenth accepted row on the
    -- value is within 8 units of the exact one
    pub latest : LatestHolds list
    -- for every order, class and K that is not refused one of the three verdicts is given and keeps its claim
    pub verdicts : (q : Question) → verdict_refusal (after list) q ≡ no_refusal → GivenVerdict q

-- Windows back to back that `observe` takes: the calls that it makes are a list of document 01, the row of each window in turn. Its rows are worked from samples, so no hypothesis is left.
module _ (kind : Kind) (setup : Setup) (recording : List ℤ) (start windows : ℕ) where
  abbrev pub observed_list : CallList
  observed_list = record { setup = setup; rows = window_rows kind setup recording start windows }

  pub record ObservedHolds : Type 0 where
    -- the record that is answered is the one after that list
    pub same-record : (observe_answer kind setup recording start windows).observation ≡ after observed_list
    -- it holds so many windows, whose rows are worked from samples
    pub windows-held : (observe_answer kind setup recording start windows).observation.windows ≡ windows
    pub worked : WorkedList kind observed_list
    pub holds : ListHolds kind observed_list

-- Demand 3: the distance of 7 units, over weights and so of every group value; the latest rows and the three-second
-- value after every list of calls, whatever 32-bit values its rows hold; for every kind, both systems and both editions
-- the claim about every list of calls whose accepted rows are worked from samples; and so of every observation that is
-- not refused.
pub record Demand3Holds : Type 0 where
  pub weights : WeightsNear
  pub groups : GroupsNear
  pub latest : (list : CallList) → is_setup list.setup ≡ true → AcceptedFit list.setup 0 list.rows → LatestHolds list
  pub lists : (kind : Kind) (list : CallList) → is_setup list.setup ≡ true → WorkedList kind list → ListHolds kind list
  pub observed :
      (kind : Kind) (setup : Setup) (recording : List ℤ) (start windows : ℕ) →
      observe_refusal setup recording start windows ≡ no_refusal →
      ObservedHolds kind setup recording start windows
