-- The books and the verdicts after a worked list of calls, with refused ones between two accepted ones.
-- Of the pulse's harmonic groups, document 01's 8944, the third order is then, under both editions, judged over, close and within at K = 3883, 3884 .. 3893 and 3894 in class A, and at K = 2588, 2589 .. 2595 and 2596 in class B.
use mathlib.Core.Path.{◌≡◌, refl, sym, ap, subst, ◌∙◌}
use mathlib.Core.Bool.{true}
use mathlib.Core.List.{List}
use Prim.Native.Nat.{ℕ, ◌+◌, ◌-◌}
use native.Mathlib.Omega.{arith}
use lib.IntN.{ℤ}
use lib.ListN.{replicate}
use Rattle.algebra.specs.Fraction.{whole, times, divide}
use Rattle.algebra.specs.Largest.{largest}
use Rattle.algebra.specs.Lists.{tabulate}
use Rattle.std.specs.List.{list_any}
use Rattle.algebra.specs.Rounding.{nearest}
use Rattle.algebra.specs.Weighted.{sum_over}
use Rattle.square_root.specs.Root.{root_of}
use Rattle.spectral_lines.specs.Line.{line_count, lines_of}
use Rattle.windows.specs.Window.{InRange}
use Rattle.spectral_lines.proofs.Pulse as Pulse
use Rattle.spectral_lines.proofs.Pulse.{pulse, pulse-in-range}
use Rattle.kinds.specs.declared.Kind.{Kind}
use Rattle.kinds.specs.declared.Kind.TheVariants.{HarmonicGroup}
use Rattle.kinds.specs.Kinds.{span_of, grouped_as}
use Rattle.spans.specs.Spans.{weights_in, weighted_sum}
use Rattle.groups.specs.Group.{value_over, group_value, group_refusal, group_answer, group_values}
use Rattle.rows.specs.Systems.{is_system}
use Rattle.rows.specs.Editions.{is_edition}
use Rattle.rows.specs.Setups.{setup_of, is_setup, same_setup}
use Rattle.rows.proofs.Editions.{each-edition}
use Rattle.rows.specs.Orders.{is_order}
use Rattle.records.specs.declared.Observation.{Observation}
use Rattle.books.specs.Book.{Book, empty_book, smoothed_next, book_step}
use Rattle.books.specs.Smoothing.{smoothed_value, reported}
use Rattle.observation.specs.Calls.{row_checks, book_at}
use Rattle.observation.specs.BookCalls.{accepts, book_call, book_after, own_values}
use Rattle.fractions.specs.Parts.{parts, raised, at_most}
use Rattle.classes.specs.declared.Class.{Class}
use Rattle.classes.specs.declared.Class.TheVariants.{A, B}
use Rattle.classes.specs.Letters.{letter_of}
use Rattle.limits.specs.Limit.{own_figures, figure_in, class_a_limit, limit_of, over_order}
use Rattle.limit_tests.specs.Limit.{limit_in_units, peak_limit_in_units}
use Rattle.limit_tests.specs.Tests.{is_within, is_over}
use Rattle.verdict.specs.declared.Verdict.{Verdict}
use Rattle.verdict.specs.declared.Verdict.TheVariants.{Within, Close, Over}
use Rattle.verdict.specs.Call.{VerdictAnswer, Given, combined, verdict_in, verdict_answer}
use Rattle.verdict.specs.Question.{asked, is_scale}
use Rattle.records.specs.Average.{average_of, peak_of}
use Rattle.accuracy.specs.Distance.{EveryOrder, value_of}
use Rattle.accuracy.specs.Rule.{reported_average}
use Rattle.accuracy.specs.CallList.{CallList, after, reported_from}
use Rattle.accuracy.specs.Claim.{ListHolds, reported_book}
use Rattle.accuracy.proofs.WorkedLists.{worked_row, other_rows, list_of, accepted-count, list-worked, list-holds}
use Rattle.accuracy.proofs.VerdictsGiven.{given-in}

-- ---- the list with two accepted rows

module _
    (kind : Kind) (window next : List ℤ) (in-range : InRange window) (next-in-range : InRange next)
    (edition : ℕ) (known : is_edition edition ≡ true)
  where
    abbrev example : CallList
    example = list_of kind window next 1 edition

    example-holds : ListHolds kind example
    example-holds = (list-holds kind window next 1 (omega arith) in-range next-in-range edition known).0

    -- the record holds the reported books
    example-books : EveryOrder (λ order. book_at (after example) (order - 1) ≡ reported_book example order)
    example-books = example-holds.same_books

    -- the refused rows aren't counted
    two-windows : (after example).windows ≡ 2
    two-windows = example-holds.latest.same-windows ∙ accepted-count kind window next 1 (omega arith) edition known

-- ---- the pulse

pub pulse-window : InRange pulse
unfolding pulse
pulse-window = record { whole-window = refl; samples = pulse-in-range }

pulse-lines : lines_of pulse ≡ replicate line_count 4000000
unfolding lines_of
pulse-lines = Pulse.pulse-lines 0 line_count

-- the harmonic groups of the orders 1 and 3; under A1 the first is its component
pub pulse-values :
    ((group_answer HarmonicGroup (setup_of 10 0) 3 (replicate line_count 4000000)).value ≡ 8944)
    × ((group_answer HarmonicGroup (setup_of 10 1) 3 (replicate line_count 4000000)).value ≡ 8944)
    × ((group_answer HarmonicGroup (setup_of 10 0) 1 (replicate line_count 4000000)).value ≡ 8944)
    × ((group_answer HarmonicGroup (setup_of 10 1) 1 (replicate line_count 4000000)).value ≡ 2828)
unfolding group_answer group_refusal is_system is_edition is_order group_value value_over root_of largest span_of grouped_as weights_in weighted_sum sum_over tabulate
pulse-values = (refl, refl, refl, refl)

pub pulse-group :
    (edition order value : ℕ) → (group_answer HarmonicGroup (setup_of 10 edition) order (replicate line_count 4000000)).value ≡ value →
    value_of HarmonicGroup (setup_of 10 edition) order pulse ≡ value
pulse-group edition order value =
    ◌∙◌ (ap (λ (lines : List ℕ). (group_answer HarmonicGroup (setup_of 10 edition) order lines).value) pulse-lines)

-- the record after the pulse twice, under an edition
abbrev pulsed : ℕ → Observation
pulsed edition = after (list_of HarmonicGroup pulse pulse 1 edition)

-- the book of an order whose value is the same twice
abbrev twice : ℕ → Book reported
twice value = record { count = 2; smoothed = value; sum = value + value; peak = value }

pulse-books :
    (book_at (pulsed 0) 2 ≡ twice 8944) × (book_at (pulsed 1) 2 ≡ twice 8944) × (book_at (pulsed 0) 0 ≡ twice 8944) × (book_at (pulsed 1) 0 ≡ twice 2828)
unfolding reported_from book_after book_call own_values accepts row_checks same_setup is_system is_edition list_of worked_row other_rows book_step empty_book smoothed_next smoothed_value nearest tabulate group_values
pulse-books =
    let books = example-books HarmonicGroup pulse pulse pulse-window pulse-window in (
      books 0 refl 3 (omega arith) (omega arith) ∙ rw (pulse-group 0 3 8944 pulse-values.0),
      books 1 refl 3 (omega arith) (omega arith) ∙ rw (pulse-group 1 3 8944 pulse-values.1),
      books 0 refl 1 (omega arith) (omega arith) ∙ rw (pulse-group 0 1 8944 pulse-values.2),
      books 1 refl 1 (omega arith) (omega arith) ∙ rw (pulse-group 1 1 2828 pulse-values.3),
    )

-- the third order's is the same under both editions
pulse-book : (edition : ℕ) → is_edition edition ≡ true → book_at (pulsed edition) 2 ≡ twice 8944
pulse-book = each-edition (λ edition. book_at (pulsed edition) 2 ≡ twice 8944) pulse-books.0 pulse-books.1

-- what is answered of the third order then
abbrev pulse_answer : Class → ℕ → ℕ → VerdictAnswer
pulse_answer class scale edition = verdict_answer (pulsed edition) (asked 3 (letter_of class) scale)

-- the verdict that a book of the third order gets
judged : Book reported → Class → ℕ → Verdict
judged book class scale =
    combined
    (parts (reported_average book))
    (parts (limit_in_units class 3 scale))
    (parts (whole book.peak))
    (parts (peak_limit_in_units class 3 scale))
    3

pulse-answer :
    (class : Class) (scale : ℕ) (verdict : Verdict) →
    is_scale scale ≡ true →
    judged (twice 8944) class scale ≡ verdict →
    (edition : ℕ) → is_edition edition ≡ true →
    pulse_answer class scale edition ≡ Given verdict
unfolding is_setup is_system list_of verdict_in average_of peak_of book_at judged
pulse-answer class scale verdict is-scale is edition known =
    let worked = list-worked HarmonicGroup pulse pulse 1 (omega arith) pulse-window pulse-window edition known in
    let two = two-windows HarmonicGroup pulse pulse pulse-window pulse-window edition known in
    given-in HarmonicGroup (list_of HarmonicGroup pulse pulse 1 edition) known worked (omega (arith, two)) class 3 scale refl is-scale
    ∙ ap Given (subst (λ (book : Book reported). judged book class scale ≡ verdict) (sym (pulse-book edition known)) is)

-- 2.3 × K is 8930.9, 8933.2, 8953.9 and 8956.2 in class A, and 3.45 × K is 8928.6, 8932.05, 8952.75 and 8956.2 in class B; 150 % of each is above the peak with the margin
pulse-verdicts :
    (edition : ℕ) → is_edition edition ≡ true →
    (pulse_answer A 3883 edition ≡ Given (Over 3)) ×
    (pulse_answer A 3884 edition ≡ Given (Close 3)) ×
    (pulse_answer A 3893 edition ≡ Given (Close 3)) ×
    (pulse_answer A 3894 edition ≡ Given (Within 3)) ×
    (pulse_answer B 2588 edition ≡ Given (Over 3)) ×
    (pulse_answer B 2589 edition ≡ Given (Close 3)) ×
    (pulse_answer B 2595 edition ≡ Given (Close 3)) ×
    (pulse_answer B 2596 edition ≡ Given (Within 3))
unfolding judged combined raised at_most is_over is_within limit_in_units peak_limit_in_units limit_of class_a_limit figure_in own_figures over_order whole times divide
pulse-verdicts edition known = (
  pulse-answer A 3883 (Over 3) refl refl edition known,
  pulse-answer A 3884 (Close 3) refl refl edition known,
  pulse-answer A 3893 (Close 3) refl refl edition known,
  pulse-answer A 3894 (Within 3) refl refl edition known,
  pulse-answer B 2588 (Over 3) refl refl edition known,
  pulse-answer B 2589 (Close 3) refl refl edition known,
  pulse-answer B 2595 (Close 3) refl refl edition known,
  pulse-answer B 2596 (Within 3) refl refl edition known,
)
