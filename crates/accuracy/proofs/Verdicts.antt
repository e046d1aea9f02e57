-- What a verdict keeps in each class (document 01, "Class A verdicts"; document 02, card 1), from how near the exact books are to the reported one.
-- The averages are within the margin, since the sums are within it for each window; the margin in the verdict's tests is then enough for every exact book.
use mathlib.Core.Path.{◌≡◌, subst}
use mathlib.Core.Logic.{⊎_elim, ⊎_map}
use Prim.Native.Nat.{ℕ, ◌-◌, max}
use native.Mathlib.Nat.{mul-le-mul_right}
use native.Mathlib.Omega.{arith}
use Rattle.algebra.specs.Fraction.{Fraction, whole, ◌≤ᶠ◌, Side, Near}
use Rattle.algebra.proofs.Fraction.{near-weaken, near-divide, near-le-bound, near-gt-bound}
use Rattle.refusals.specs.Numbers.{no_refusal}
use Rattle.kinds.specs.declared.Kind.{Kind}
use Rattle.books.specs.Book.{Book}
use Rattle.books.specs.Smoothing.{reported, smoothed_margin}
use Rattle.records.specs.Average.{average_of, peak_of}
use Rattle.observation.specs.Calls.{book_at}
use Rattle.classes.specs.declared.Class.{Class}
use Rattle.classes.proofs.ClassLetters.{class_with-letter}
use Rattle.limit_tests.specs.Limit.{limit_in_units, peak_limit_in_units}
use Rattle.verdict.specs.declared.Question.{Question}
use Rattle.verdict.specs.declared.Verdict.{Verdict}
use Rattle.verdict.specs.declared.Verdict.TheVariants.{Within, Close, Over}
use Rattle.verdict.specs.Question.{class_asked}
use Rattle.verdict.specs.Call.{verdict_refusal, verdict_in, verdict_of}
use Rattle.verdict.proofs.Verdicts.{Says, verdict-says, verdict-order, accepted, accepted-given}
use Rattle.accuracy.specs.ExactBook.{exact}
use Rattle.accuracy.specs.Rule.{exact_average, reported_average, PeakExceeds}
use Rattle.accuracy.specs.CallList.{CallList, after, ExactBook, state}
use Rattle.accuracy.specs.Claim.{Feeds, UBook, reported_book, Keeps, GivenVerdict}
use Rattle.accuracy.proofs.Books.{BookNear}

average-near :
    {side : Side} (kept : ℕ) (book : Book reported) (exact_book : Book exact) →
    BookNear side kept book exact_book →
    Near side (reported_average book) (exact_average exact_book) kept
average-near kept book exact_book near =
    rw near.same_count
    (near-divide (max book.count 1) kept _ (near-weaken (mul-le-mul_right kept (omega arith)) near.sum_near))

module _ (kind : Kind) (list : CallList) (class : Class) (order scale : ℕ) where
  -- the limits of the two tests
  abbrev limit : Fraction
  limit = limit_in_units class order scale

  abbrev peak_limit : Fraction
  peak_limit = peak_limit_in_units class order scale

  -- "every" stands inside each side of over: one u book that is not over on the average shows that every u book is over on the peak
  over-every-peak :
      (h : ℕ) →
      Keeps kind list class order scale (Over h) →
      (book other : UBook kind list order) →
      exact_average (state list book) ≤ᶠ limit →
      PeakExceeds class order scale (state list other)
  unfolding Keeps
  over-every-peak h keeps book other le = ⊎_elim (λ over. absurd (omega (arith, over book))) (λ over. over other) keeps

  -- what a verdict says of a book's average and peak
  abbrev SaysOf : Book reported → Verdict → Type 0
  SaysOf book = Says limit peak_limit (reported_average book) (whole book.peak)

  module _
      (near : (side : Side) (book : ExactBook list (Feeds side kind order)) →
      BookNear side smoothed_margin (reported_book list order) (state list book))
    where
      says-keeps : (verdict : Verdict) → SaysOf (reported_book list order) verdict → Keeps kind list class order scale verdict
      unfolding Keeps
      says-keeps (Within h) says = λ book. (
        near-le-bound limit (average-near _ _ _ (near _ book)) says.0,
        near-le-bound peak_limit (near _ book).peak-near says.1,
      )
      says-keeps (Over h) says =
          ⊎_map
          (λ over book. near-gt-bound limit (average-near _ _ _ (near _ book)) over)
          (λ over book. near-gt-bound peak_limit (near _ book).peak-near over)
          says
      says-keeps (Close h) says = says

      -- the record after the list holds the reported book
      pub verdict-keeps :
          book_at (after list) (order - 1) ≡ reported_book list order →
          Keeps kind list class order scale (verdict_in class (after list) order scale)
      unfolding average_of peak_of book_at
      verdict-keeps same =
          let verdict = verdict_in class (after list) order scale in
          says-keeps _ (subst (λ book. SaysOf book verdict) same (verdict-says class (after list) order scale))

-- the verdict of a call that is not refused, in the class that is asked
pub given-verdict :
    (kind : Kind) (list : CallList) (q : Question) →
    verdict_refusal (after list) q ≡ no_refusal →
    Keeps kind list (class_asked q) q.order q.scale (verdict_of (after list) q) →
    GivenVerdict kind list q
given-verdict kind list q asked kept =
    record {
      named = class_with-letter q.letter (accepted (after list) q asked).known-class;
      verdict = verdict_of (after list) q;
      given = accepted-given (after list) q asked;
      of-order = verdict-order (class_asked q) (after list) q.order q.scale;
      kept = kept;
    }
