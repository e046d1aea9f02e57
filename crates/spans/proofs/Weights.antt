-- Laws of the weighted sum over any list of weights, and over any span: every line is before the span's end, and
-- the sum of 2×w×L is twice the sum of the lines, less one line at each end where the ends are half.
-- Of the groups: for systems 10 and 12 and orders 1..40 twice their weights add up to at most 24, and their lines are among the 512.
use Rattle.std.proofs.Common.{◌≡◌, ℕ, zero, suc, ◌+◌, ◌-◌, ◌*◌, ◌<◌, ◌≤◌, Bool, true, false, cond, List, sym, refl, ap, ◌∙◌, mul-le-mul_left, add-one, arith, eq-eqb, ne_eqb}
use Rattle.algebra.specs.Lists.{tabulate}
use Rattle.algebra.specs.Weighted.{sum_over, Everywhere}
use Rattle.algebra.proofs.Weighted.{sum_over-append, sum_over-eq, sum_over-le-multiple, everywhere-append, everywhere-imp, everywhere-all}
use Rattle.rows.specs.Orders.{is_order}
use Rattle.rows.specs.Setups.{is_setup}
use Rattle.rows.specs.declared.Setup.{Setup}
use Rattle.spectral_lines.specs.Line.{line_count}
use Rattle.kinds.specs.declared.Kind.{Kind}
use Rattle.kinds.specs.declared.Span.{Span}
use Rattle.kinds.specs.Kinds.{group_span, largest_total}
use Rattle.kinds.proofs.Bounds.{TwoEnds, group_span-bounds}
use Rattle.spans.specs.Spans.{Weighted, twice_weight_at, weights_in, weights_of, total_twice_weight, weighted_sum, lines_total}

-- a fact of the number of every line in a list of weights
abbrev pub EveryLine : (ℕ → Type 0) → List Weighted → Type 0
EveryLine P xs = Everywhere (λ x. P x.line) xs

-- ---- any list of weights

module _ (f : ℕ → ℕ) where
  -- lines that are alike have the same sum
  pub weighted_sum-eq : (g : ℕ → ℕ) (xs : List Weighted)
      → EveryLine (λ k. f k ≡ g k) xs → weighted_sum f xs ≡ weighted_sum g xs
  unfolding weighted_sum
  weighted_sum-eq g xs e = sum_over-eq _ _ xs (everywhere-imp _ _ (λ x same. ap (λ line. x.twice_weight * line) same) xs e)

  -- no line above m: the sum is at most the total weight times m
  pub weighted_sum-le-total : (m : ℕ) → ((k : ℕ) → f k ≤ m) → (xs : List Weighted) → weighted_sum f xs ≤ total_twice_weight xs * m
  unfolding weighted_sum
  weighted_sum-le-total m h xs =
      sum_over-le-multiple _ (λ x. x.twice_weight) m xs
      (everywhere-all _ (λ x. mul-le-mul_left x.twice_weight (h x.line)) xs)

-- ---- any span

module _ (f : ℕ → ℕ) where
  pub lines_total-none : (first : ℕ) → lines_total f first 0 ≡ 0
  unfolding lines_total sum_over tabulate
  lines_total-none first = refl

  pub lines_total-suc : (first count : ℕ) → lines_total f first (count + 1) ≡ lines_total f first count + f (first + count)
  unfolding lines_total sum_over tabulate
  lines_total-suc first count = rw (add-one count, sum_over-append f (tabulate count (λ i. first + i)) _) (omega arith)

  -- some lines, and more after them
  pub lines_total-append : (first some more : ℕ) → lines_total f first (some + more) ≡ lines_total f first some + lines_total f (first + some) more
  lines_total-append first some zero =
      let e : some + 0 ≡ some = omega arith in
      rw e (omega (arith, lines_total-none (first + some)))
  lines_total-append first some (suc more) =
      let e : some + suc more ≡ some + more + 1 = omega arith in
      let same : first + some + more ≡ first + (some + more) = omega arith in
      rw (e, ← add-one more)
      (omega (
        arith,
        lines_total-suc first (some + more),
        rw same at (lines_total-suc (first + some) more),
        lines_total-append first some more,
      ))

-- so many lines from a first on, with any weights
abbrev lines_with : (ℕ → ℕ) → ℕ → ℕ → List Weighted
lines_with twice first count = tabulate count (λ i. record { line = first + i; twice_weight = twice i })

lines_with-every : (P : ℕ → Type 0) (twice : ℕ → ℕ) (first count : ℕ)
    → ((i : ℕ) → i < count → P (first + i)) → EveryLine P (lines_with twice first count)
unfolding tabulate
lines_with-every P twice first zero p = tt
lines_with-every P twice first (suc count) p =
    everywhere-append _ (lines_with twice first count) _
    (lines_with-every P twice first count (λ i h. p i (omega arith)))
    (p count (omega arith), tt)

-- every line of a span is before its end
pub weights_in-line-lt : (span : Span) → EveryLine (λ k. k < span.first + span.count) (weights_in span)
unfolding weights_in
weights_in-line-lt span = lines_with-every _ _ span.first span.count (λ i h. omega arith)

module _ (f : ℕ → ℕ) (twice : ℕ → ℕ) (first : ℕ) where
  lines_with-none : weighted_sum f (lines_with twice first 0) ≡ 0
  unfolding weighted_sum sum_over tabulate
  lines_with-none = refl

  -- one line more
  lines_with-suc : (count : ℕ)
      → weighted_sum f (lines_with twice first (count + 1)) ≡ weighted_sum f (lines_with twice first count) + twice count * f (first + count)
  unfolding weighted_sum sum_over tabulate
  lines_with-suc count = rw (add-one count, sum_over-append _ (lines_with twice first count) _) (omega arith)

  -- more lines, with weight 1
  lines_with-whole : (some more : ℕ) → ((i : ℕ) → i < more → twice (some + i) ≡ 2)
      → weighted_sum f (lines_with twice first (some + more)) ≡ weighted_sum f (lines_with twice first some) + 2 * lines_total f (first + some) more
  lines_with-whole some zero h =
      let e : some + 0 ≡ some = omega arith in
      rw (e, lines_total-none f (first + some)) (omega arith)
  lines_with-whole some (suc more) h =
      let e : some + suc more ≡ some + more + 1 = omega arith in
      let same : first + some + more ≡ first + (some + more) = omega arith in
      rw (e, ← add-one more, lines_with-suc (some + more), lines_total-suc f (first + some) more, same, h more (omega arith))
      (omega (arith, lines_with-whole some more (λ i l. h i (omega arith))))

-- the same weights at other places, where the same lines stand
lines_with-moved : (f g twice : ℕ → ℕ) (first other count : ℕ) → ((i : ℕ) → i < count → f (first + i) ≡ g (other + i))
    → weighted_sum f (lines_with twice first count) ≡ weighted_sum g (lines_with twice other count)
lines_with-moved f g twice first other zero same = lines_with-none f twice first ∙ sym (lines_with-none g twice other)
lines_with-moved f g twice first other (suc count) same =
    rw (
      ← add-one count,
      lines_with-suc f twice first count,
      lines_with-suc g twice other count,
      lines_with-moved f g twice first other count (λ i below. same i (omega arith)),
      same count (omega arith),
    )

pub weighted_sum-moved : (f g : ℕ → ℕ) (span : Span) (first : ℕ) → ((i : ℕ) → i < span.count → f (first + i) ≡ g (span.first + i))
    → weighted_sum f (weights_in (record { first = first; count = span.count; half_ends = span.half_ends })) ≡ weighted_sum g (weights_in span)
unfolding weights_in
weighted_sum-moved f g span first = lines_with-moved f g (twice_weight_at span) first span.first span.count

module _ (f : ℕ → ℕ) (span : Span) where
  -- a span with half ends: the lines between count twice, and each end once
  pub weighted_sum-half_ends : span.half_ends ≡ true → 2 ≤ span.count
      → weighted_sum f (weights_in span) ≡ f span.first + 2 * lines_total f (span.first + 1) (span.count - 2) + f (span.first + (span.count - 1))
  unfolding weights_in
  weighted_sum-half_ends e many =
      let twice = twice_weight_at span in
      let between = span.count - 2 in
      let last = 1 + between in
      let whole : last + 1 ≡ span.count = omega arith in
      let end : span.count - 1 ≡ last = omega arith in
      let start : span.first + 0 ≡ span.first = omega arith in
      let first-half : twice 0 ≡ 1 = rw e in
      let last-half : twice last ≡ 1 =
      rw (e, ne_eqb last 0 (λ z. omega arith), eq-eqb (last + 1) span.count whole) in
      let all-between : (i : ℕ) → i < between → twice (1 + i) ≡ 2 =
      λ i h. rw (e, ne_eqb (1 + i) 0 (λ z. omega arith), ne_eqb (1 + i + 1) span.count (λ z. omega arith)) in
      rw end
      (omega (
        arith,
        rw (first-half, lines_with-none f twice span.first, start) at (lines_with-suc f twice span.first 0),
        lines_with-whole f twice span.first 1 between all-between,
        rw (last-half, whole) at (lines_with-suc f twice span.first last),
      ))

  -- one line or none: each counts once
  pub weighted_sum-few : span.half_ends ≡ true → span.count < 2 → weighted_sum f (weights_in span) ≡ lines_total f span.first span.count
  unfolding weights_in
  weighted_sum-few e = few span.count
    where
      few : (count : ℕ) → count < 2 → weighted_sum f (lines_with (twice_weight_at span) span.first count) ≡ lines_total f span.first count
      few zero below = lines_with-none f (twice_weight_at span) span.first ∙ sym (lines_total-none f span.first)
      few (suc zero) below =
          let first-half : twice_weight_at span 0 ≡ 1 = rw e in
          omega (
            arith,
            rw first-half at (lines_with-suc f (twice_weight_at span) span.first 0),
            lines_with-none f (twice_weight_at span) span.first,
            lines_total-suc f span.first 0,
            lines_total-none f span.first,
          )
      few (suc (suc count)) below = absurd (omega arith)

  -- any other: every line counts twice
  pub weighted_sum-whole_ends : span.half_ends ≡ false → weighted_sum f (weights_in span) ≡ 2 * lines_total f span.first span.count
  unfolding weights_in
  weighted_sum-whole_ends e =
      let twice = twice_weight_at span in
      let same : 0 + span.count ≡ span.count = omega arith in
      let start : span.first + 0 ≡ span.first = omega arith in
      omega (
        arith,
        rw (same, start) at (lines_with-whole f twice span.first 0 span.count (λ i h. rw e)),
        lines_with-none f twice span.first,
      )

weighted_sum-ones : (xs : List Weighted) → weighted_sum (λ k. 1) xs ≡ total_twice_weight xs
unfolding weighted_sum
weighted_sum-ones xs = sum_over-eq _ _ xs (everywhere-all _ (λ x. omega arith) xs)

lines_total-ones : (first count : ℕ) → lines_total (λ k. 1) first count ≡ count
lines_total-ones first zero = lines_total-none (λ k. 1) first
lines_total-ones first (suc count) =
    rw (← add-one count) (omega (arith, lines_total-suc (λ k. 1) first count, lines_total-ones first count))

-- twice the weights of a span: 2 for each line, less 2 where the ends are half
pub total_twice_weight-span : (span : Span) → TwoEnds span
    → total_twice_weight (weights_in span) + cond span.half_ends 2 0 ≡ 2 * span.count
total_twice_weight-span span two = by-ends span.half_ends refl
  where
    by-ends : (half : Bool) → span.half_ends ≡ half → total_twice_weight (weights_in span) + cond half 2 0 ≡ 2 * span.count
    by-ends true e =
        let many = two e in
        omega (
          arith,
          weighted_sum-ones (weights_in span),
          weighted_sum-half_ends (λ k. 1) span e many,
          lines_total-ones (span.first + 1) (span.count - 2),
        )
    by-ends false e =
        omega (
          arith,
          weighted_sum-ones (weights_in span),
          weighted_sum-whole_ends (λ k. 1) span e,
          lines_total-ones span.first span.count,
        )

-- ---- the groups

-- twice the weights of a group add up to at most 24
pub weights_of-total-le : (kind : Kind) (setup : Setup) (h : ℕ) → is_setup setup ≡ true → is_order h ≡ true
    → total_twice_weight (weights_of kind setup h) ≤ largest_total
weights_of-total-le kind setup h e o =
    let b = group_span-bounds kind setup h e o in
    omega (arith, total_twice_weight-span (group_span kind setup h) b.two_ends)

-- the lines of every group are among the 512
pub weights_of-line-lt : (kind : Kind) (setup : Setup) (h : ℕ) → is_setup setup ≡ true → is_order h ≡ true
    → EveryLine (λ k. k < line_count) (weights_of kind setup h)
weights_of-line-lt kind setup h e o =
    let b = group_span-bounds kind setup h e o in
    let span = group_span kind setup h in
    everywhere-imp _ _ (λ (x : Weighted) (before : x.line < span.first + span.count). omega arith)
    (weights_in span)
    (weights_in-line-lt span)
