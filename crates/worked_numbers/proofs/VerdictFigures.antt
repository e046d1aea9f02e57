-- What the numbers of the three verdicts say in figures, of every order and class against its limit: of a limit of num/den milliamperes, num × K / (1000 × den) units
-- and 150 % of that, 3 × num × K / (2000 × den). The claims name their numbers, and a weaker one would be proved as well; here it is refused.
use mathlib.Core.Path.{◌≡◌, refl, sym}
use mathlib.Core.Bool.{true}
use mathlib.Core.List.{List}
use mathlib.Core.Logic.{◌⊎◌, inl, inr, ⊎_map}
use Prim.Native.Nat.{ℕ, ◌+◌, ◌*◌, ◌^◌, ◌<◌, ◌≤◌, max}
use native.Mathlib.Omega.{arith}
use borrow.Author.Tests.{le-leb}
use Rattle.algebra.specs.Fraction.{whole, times, divide, ◌+ᶠ◌}
use Rattle.kinds.specs.declared.Kind.{Kind}
use Rattle.rows.specs.declared.Setup.{Setup}
use Rattle.rows.specs.declared.Row.{Row}
use Rattle.classes.specs.declared.Class.{Class}
use Rattle.classes.specs.declared.Class.TheVariants.{A, B}
use Rattle.classes.specs.Letters.{letter_of, class_with}
use Rattle.limits.specs.Limit.{has_limit, own_figures, figure_in, class_a_limit, limit_of, over_order}
use Rattle.verdict.specs.declared.Verdict.{Verdict}
use Rattle.verdict.specs.declared.Verdict.TheVariants.{Within, Close, Over}
use Rattle.verdict.specs.Question.{asked, class_asked, is_scale}
use Rattle.limit_tests.specs.Limit.{limit_in_units, peak_limit_in_units}
use Rattle.accuracy.specs.CallList.{CallList, after, state}
use Rattle.accuracy.specs.Claim.{WorkedList, LBook, UBook, reported_book, Keeps}
use Rattle.accuracy.proofs.Demand3.{demand3}
use Rattle.accuracy.proofs.VerdictsGiven.{not-refused}
use Rattle.exported_judgements.specs.VerdictCall.{verdict_number, verdict_call_refusal, verdict_call_exit}
use Rattle.exported_accuracy.specs.Claim.{WordsHold}
use Rattle.verdict.specs.declared.Question.{Question}
use Rattle.verdict.specs.Call.{Given, verdict_refusal, verdict_answer, order_number}
use Rattle.worked_numbers.proofs.EachSetup.{EachSetup, each-setup}

module _ (kind : Kind) (list : CallList) (order num den k : ℕ) where
  -- 1: every l book's average is at most the limit, and its peak at most 150 % of it
  abbrev SaysWithin : Type 0
  SaysWithin =
      (l : LBook kind list order) →
      let book = state list l in
      (book.sum.num * (1000 * den) ≤ num * k * (max book.count 1 * book.sum.den)) ×
      (book.peak.num * (2000 * den) ≤ 3 * num * k * book.peak.den)

  -- 2: the reported average less 12 is at most the limit and with 12 more above it, or so the reported peak with 150 % of it
  abbrev SaysClose : Type 0
  SaysClose =
      let book = reported_book list order in
      let n = max book.count 1 in
      ((book.sum * (1000 * den) ≤ num * k * n + 12000 * den * n) × (num * k * n < book.sum * (1000 * den) + 12000 * den * n)) ⊎
      ((book.peak * (2000 * den) ≤ 3 * num * k + 24000 * den) × (3 * num * k < book.peak * (2000 * den) + 24000 * den))

  -- 3: every u book's average is above the limit, or every u book's peak above 150 % of it
  abbrev SaysOver : Type 0
  SaysOver =
      ((u : UBook kind list order) →
      let book = state list u in num * k * (max book.count 1 * book.sum.den) < book.sum.num * (1000 * den)) ⊎
      ((u : UBook kind list order) →
      let book = state list u in 3 * num * k * book.peak.den < book.peak.num * (2000 * den))

  -- the number is one of the three, and tells what stands with it
  abbrev pub NumberSays : ℕ → Type 0
  NumberSays number = ((number ≡ 1) × SaysWithin) ⊎ (((number ≡ 2) × SaysClose) ⊎ ((number ≡ 3) × SaysOver))

verdict-number-says :
    (kind : Kind) (list : CallList) (class : Class) (order k : ℕ) (verdict : Verdict) →
    Keeps kind list class order k verdict →
    NumberSays kind list order (limit_of class order).num (limit_of class order).den k (verdict_number verdict)
unfolding Keeps verdict_number limit_in_units peak_limit_in_units whole times divide ◌+ᶠ◌
verdict-number-says kind list class order k (Within h) keeps = inl (refl, λ l. (omega (arith, (keeps l).0), omega (arith, (keeps l).1)))
verdict-number-says kind list class order k (Close h) keeps =
    let touches : SaysClose kind list order (limit_of class order).num (limit_of class order).den k =
    ⊎_map
    (λ average. (omega (arith, average.not-over), omega (arith, average.not_within)))
    (λ peak. (omega (arith, peak.not-over), omega (arith, peak.not_within)))
    keeps in
    inr (inl (refl, touches))
verdict-number-says kind list class order k (Over h) keeps =
    inr (inr (refl, ⊎_map (λ every u. omega (arith, every u)) (λ every u. omega (arith, every u)) keeps))

-- the class that is asked, whatever the order and K: A by the letter 65, B by 66
class-asked : (order k : ℕ) → (class_asked (asked order 65 k) ≡ A) × (class_asked (asked order 66 k) ≡ B)
unfolding class_with letter_of
class-asked order k = (refl, refl)

-- the letter of a class is 65 or 66
letter-known : (class : Class) (letter : ℕ) → letter_of class ≡ letter → (letter ≡ 65) ⊎ (letter ≡ 66)
unfolding letter_of
letter-known A letter e = inl (sym e)
letter-known B letter e = inr (sym e)

-- ---- of the library's verdicts, after any list of calls

-- a verdict that is not refused was asked by such a letter
abbrev LetterNamed : Kind → List Row → Question → Setup → Type 0
LetterNamed kind rows q setup =
    let list : CallList = record { setup = setup; rows = rows } in
    WorkedList kind list → verdict_refusal (after list) q ≡ 0 → (q.letter ≡ 65) ⊎ (q.letter ≡ 66)

letter-named : (kind : Kind) (rows : List Row) (q : Question) → EachSetup (LetterNamed kind rows q)
letter-named kind rows q =
    each-setup (LetterNamed kind rows q) λ setup known worked passed.
    let list : CallList = record { setup = setup; rows = rows } in
    letter-known (class_asked q) q.letter ((demand3.lists kind list known worked).verdicts q passed).named

abbrev VerdictSays : Kind → List Row → Question → Setup → Type 0
VerdictSays kind rows q setup =
    let list : CallList = record { setup = setup; rows = rows } in
    let limit = limit_of (class_with q.letter) q.order in
    WorkedList kind list →
    verdict_refusal (after list) q ≡ 0 →
    (verdict : Verdict) × (verdict_answer (after list) q ≡ Given verdict) × (order_number verdict ≡ q.order) ×
    NumberSays kind list q.order limit.num limit.den q.scale (verdict_number verdict)

verdict-says : (kind : Kind) (rows : List Row) (q : Question) → EachSetup (VerdictSays kind rows q)
verdict-says kind rows q =
    each-setup (VerdictSays kind rows q) λ setup known worked passed.
    let list : CallList = record { setup = setup; rows = rows } in
    let given = (demand3.lists kind list known worked).verdicts q passed in (
      given.verdict,
      given.given,
      given.of-order,
      verdict-number-says kind list (class_asked q) q.order q.scale given.verdict given.kept,
    )

-- none is refused of a record that holds a window: of the orders 2..40, in both classes, with K in 1..2^28
abbrev NoneRefused : Kind → List Row → ℕ → ℕ → Setup → Type 0
NoneRefused kind rows order k setup =
    let list : CallList = record { setup = setup; rows = rows } in
    WorkedList kind list →
    1 ≤ (after list).windows →
    (verdict_refusal (after list) (asked order 65 k) ≡ 0) × (verdict_refusal (after list) (asked order 66 k) ≡ 0)

none-refused :
    (kind : Kind) (rows : List Row) (order k : ℕ) → 2 ≤ order → order ≤ 40 → 1 ≤ k → k ≤ 2 ^ 28 → EachSetup (NoneRefused kind rows order k)
unfolding letter_of
none-refused kind rows order k least most some-units most-units =
    each-setup (NoneRefused kind rows order k) λ setup known worked held.
    let list : CallList = record { setup = setup; rows = rows } in
    let has-limit : has_limit order ≡ true = rw (le-leb 2 order least, le-leb order 40 most) in
    let is-scale : is_scale k ≡ true = rw (le-leb 1 k some-units, le-leb k (2 ^ 28) most-units) in (
      not-refused kind list known worked held A order k has-limit is-scale,
      not-refused kind list known worked held B order k has-limit is-scale,
    )

-- ---- of the exported verdicts, of words that hold a record, whatever the number was before the call

-- a class letter, an order, and the limit in milliamperes: 2,300 of order 3 and 2250/19 of order 19 in class A, and half as much again in class B
abbrev pub EachFigure : (ℕ → ℕ → ℕ → ℕ → Type 0) → Type 0
EachFigure P = P 65 3 2300 1 × P 66 3 6900 2 × P 65 19 2250 19 × P 66 19 6750 38

module _ (kind : Kind) (list : CallList) (words : List ℕ) (holds : WordsHold kind list words) where
  -- asked by the letter of a class
  called-letter-named : (order letter k : ℕ) → verdict_call_refusal words (asked order letter k) ≡ 0 → (letter ≡ 65) ⊎ (letter ≡ 66)
  called-letter-named order letter k passed = letter-known (class_with letter) letter (holds.verdicts (asked order letter k) passed).named

  -- of every order, in the class that the letter names
  pub called-number-says :
      (order letter k before : ℕ) →
      verdict_call_refusal words (asked order letter k) ≡ 0 →
      let limit = limit_of (class_with letter) order in
      NumberSays kind list order limit.num limit.den k (verdict_call_exit words (asked order letter k) before)
  called-number-says order letter k before passed =
      let given = holds.verdicts (asked order letter k) passed in
      rw (given.number before) (verdict-number-says kind list (class_with letter) order k given.verdict given.kept)

  -- against limits in figures
  pub called-figures-say :
      (k before : ℕ) →
      EachFigure (λ letter order num den.
      verdict_call_refusal words (asked order letter k) ≡ 0 →
      NumberSays kind list order num den k (verdict_call_exit words (asked order letter k) before))
  unfolding class_with letter_of limit_of class_a_limit figure_in own_figures over_order whole times divide
  called-figures-say k before = (
    called-number-says 3 65 k before,
    called-number-says 3 66 k before,
    called-number-says 19 65 k before,
    called-number-says 19 66 k before,
  )
