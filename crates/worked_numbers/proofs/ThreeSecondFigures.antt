-- The three-second value of 15 windows and its 8 units in figures, at each system and under each edition.
-- The claims name their numbers, and a weaker one would be proved as well; here it is refused.
use mathlib.Core.Path.{◌≡◌, ◌∙◌}
use mathlib.Core.List.{List, ◌++◌, map}
use Prim.Native.Nat.{ℕ, ◌+◌, ◌-◌, ◌*◌, ◌≤◌}
use native.Mathlib.Omega.{arith}
use lib.ListN.{length, drop, replicate}
use borrow.Author.Tests.{lt-ltb, le-ltb}
use Rattle.algebra.specs.Fraction.{whole, divide, square, sumᶠ}
use Rattle.refusals.specs.Answers.{Answer}
use Rattle.kinds.specs.declared.Kind.{Kind}
use Rattle.rows.specs.declared.Setup.{Setup}
use Rattle.groups.specs.Exact.{exact_group}
use Rattle.rows.specs.declared.Row.{Row}
use Rattle.latest_rows.specs.Latest.{latest_values, last_of}
use Rattle.observation.specs.BookCalls.{value_at, AcceptedFit}
use Rattle.latest_rows.proofs.Latest.{last_of-enough}
use Rattle.three_seconds.specs.ThreeSecond.{three_second_of, three_second_answer}
use Rattle.accuracy.specs.Distance.{WithinMargin}
use Rattle.accuracy.specs.CallList.{CallList, after, accepted_rows}
use Rattle.accuracy.specs.WorkedRows.{Sampled, SampledRows}
use Rattle.accuracy.specs.LatestRows.{exact_three_second, last_rows, LatestHolds}
use Rattle.accuracy.proofs.Demand3.{demand3}
use Rattle.exported_judgements.specs.ThreeSecondCall.{three_second_call_refusal, three_second_call_exit}
use Rattle.exported_accuracy.specs.Claim.{CalledThreeSecond}
use Rattle.worked_numbers.proofs.EachSetup.{EachSetup, each-setup}

-- the values of an order in the accepted rows of a list
abbrev values_of : CallList → ℕ → List ℕ
values_of list order = map (value_at (order - 1)) (accepted_rows list)

-- an answer before the fifteenth accepted row, and from then on
abbrev Answers : CallList → ℕ → Answer → Type 0
Answers list order answered =
    let n = length (accepted_rows list) in
    (n ≤ 14 → answered ≡ record { refusal = 20; value = 0 }) ×
    (15 ≤ n → answered ≡ record { refusal = 0; value = three_second_of (drop (n - 15) (values_of list order)) })

-- after any list of calls of the library, whatever 32-bit values its rows hold: the windows counted are the accepted rows, the kept
-- values of an order are its last 15, with zeros before them where there are fewer, and the answer is theirs
abbrev LatestKept : List Row → ℕ → Setup → Type 0
LatestKept rows order setup =
    let list : CallList = record { setup = setup; rows = rows } in
    let o = after list in
    let values = values_of list order in
    AcceptedFit setup 0 rows →
    (o.windows ≡ length (accepted_rows list)) ×
    (latest_values o.windows o.latest (order - 1) ≡ drop (length values) (replicate 15 0 ++ values)) ×
    Answers list order (three_second_answer o order)

-- which of the two it is, by the count of accepted rows
three-second-answers :
    (list : CallList) (order : ℕ) → 1 ≤ order → order ≤ 40 → LatestHolds list → Answers list order (three_second_answer (after list) order)
unfolding three_second_answer
three-second-answers list order least most kept = (
  λ few. rw (kept.asked order least most, lt-ltb (length (accepted_rows list)) 15 (omega (arith, few))),
  λ enough. kept.answered order least most enough ∙ rw (last_of-enough (value_at (order - 1)) (accepted_rows list) enough),
)

latest-kept : (rows : List Row) (order : ℕ) → 1 ≤ order → order ≤ 40 → EachSetup (LatestKept rows order)
unfolding last_of
latest-kept rows order least most =
    each-setup (LatestKept rows order) λ setup known fits.
    let list : CallList = record { setup = setup; rows = rows } in
    let kept = demand3.latest list known fits in
    (kept.same-windows, kept.same-latest order least most, three-second-answers list order least most kept)

-- 15 times the square of t less 8 (not below 0) is at most the sum of the exact groups of the last 15 windows, and
-- that is at most 15 times the square of t plus 8
abbrev pub Within8 : Kind → CallList → ℕ → ℕ → Type 0
Within8 kind list order t =
    let rows = accepted_rows list in
    15 ≤ length rows →
    (samples : SampledRows kind (drop (length rows - 15) rows)) →
    let g = sumᶠ (map (λ (s : Sampled). exact_group kind s.row.setup order s.window) samples.sampled) in
    (15 * ((t - 8) * (t - 8)) * g.den ≤ g.num) × (g.num ≤ 15 * ((t + 8) * (t + 8)) * g.den)

-- what is claimed of the exact square, in these figures
pub within-8-of :
    (kind : Kind) (list : CallList) (order t : ℕ) →
    (15 ≤ length (accepted_rows list) →
    (samples : SampledRows kind (last_rows list)) → WithinMargin 8 t (exact_three_second kind order samples.sampled)) →
    Within8 kind list order t
unfolding exact_three_second whole square divide
within-8-of kind list order t claimed enough samples =
    let near = claimed enough samples in
    (omega (arith, near.not-far-below), omega (arith, near.not-far-above))

-- after any list of calls of the library, whatever 32-bit values its rows hold before the last 15
abbrev ListWithin8 : Kind → List Row → ℕ → Setup → Type 0
ListWithin8 kind rows order setup =
    let list : CallList = record { setup = setup; rows = rows } in
    AcceptedFit setup 0 rows → Within8 kind list order (three_second_answer (after list) order).value

within-8 : (kind : Kind) (rows : List Row) (order : ℕ) → 1 ≤ order → order ≤ 40 → EachSetup (ListWithin8 kind rows order)
within-8 kind rows order least most =
    each-setup (ListWithin8 kind rows order) λ setup known fits.
    let list : CallList = record { setup = setup; rows = rows } in
    within-8-of kind list order _ ((demand3.latest list known fits).near kind order least most)

-- the refusal of the exported call before the fifteenth accepted row, and from then on with the value that is left, whatever it was before
abbrev pub ValueLeft : CallList → List ℕ → ℕ → Type 0
ValueLeft list words order =
    let n = length (accepted_rows list) in
    (n ≤ 14 → three_second_call_refusal words order ≡ 20) ×
    (15 ≤ n → (before : ℕ) →
    (three_second_call_refusal words order ≡ 0) × (three_second_call_exit words order before ≡ three_second_of (drop (n - 15) (values_of list order))))

pub value-left : (list : CallList) (words : List ℕ) (order : ℕ) → 1 ≤ order → order ≤ 40 → CalledThreeSecond list words → ValueLeft list words order
value-left list words order least most called = (
  λ few. called.asked order least most ∙ rw (lt-ltb (length (accepted_rows list)) 15 (omega (arith, few))),
  λ enough before. (
    called.asked order least most ∙ rw (le-ltb (length (accepted_rows list)) 15 enough),
    called.left order least most enough before ∙ rw (last_of-enough (value_at (order - 1)) (accepted_rows list) enough),
  ),
)
