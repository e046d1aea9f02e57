-- The sum of neighbouring lines as that of a part of the list, and the sum over a span as it is worked from its first line on. Lines past the last count as 0.
use Rattle.std.proofs.Common.{◌≡◌, ℕ, zero, suc, ◌+◌, ◌-◌, ◌*◌, ◌%◌, ◌^◌, ◌<◌, ◌≤◌, true, false, List, length, get_or, take, drop, sum, ap, add-one, arith}
use Rattle.std.proofs.lemmas.List.{get_or-drop, get_or_past, take_all, take_min, take_rest, drop_min, drop-drop}
use Rattle.std.proofs.lemmas.List.Sums.{sum_by_more}
use native.Mathlib.Nat.{add-mod, mod-add-mod}
use native.Mathlib.Decide.{dec_lt}
use Rattle.kinds.specs.declared.Span.{Span}
use Rattle.spans.specs.Spans.{weights_in, line_at, weighted_sum, lines_total}
use Rattle.spans.proofs.Weights.{lines_total-none, lines_total-suc, weighted_sum-half_ends, weighted_sum-few, weighted_sum-whole_ends}

-- one number more, or none where the list has ended
sum-take-more : (xs : List ℕ) (i : ℕ) → sum (take (i + 1) xs) ≡ sum (take i xs) + get_or xs i 0
sum-take-more xs i = by_place (dec_lt i (length xs))
  where
    by_place : Dec (i < length xs) → sum (take (i + 1) xs) ≡ sum (take i xs) + get_or xs i 0
    by_place (yes here) = sum_by_more (λ x. x) xs i 0 here
    by_place (no past) =
        rw (take_all (i + 1) xs (omega arith), take_all i xs (omega arith), get_or_past xs i 0 (omega arith)) (omega arith)

pub lines_total-sum : (lines : List ℕ) (first count : ℕ) → lines_total (line_at lines) first count ≡ sum (take count (drop first lines))
lines_total-sum lines first zero = lines_total-none (line_at lines) first
lines_total-sum lines first (suc count) =
    rw (
      ← add-one count,
      lines_total-suc (line_at lines) first count,
      sum-take-more (drop first lines) count,
      get_or-drop first lines count 0,
      lines_total-sum lines first count,
    )

-- ---- what the code of a span's sum rests on

-- two numbers, and a third twice
added : (a b t : ℕ) → (a + 2 * t + b) % 2 ^ 64 ≡ (((a + b) % 2 ^ 64 + t % 2 ^ 64) % 2 ^ 64 + t % 2 ^ 64) % 2 ^ 64
added a b t = rw (← add-mod (a + b) t (2 ^ 64), ← add-mod (a + b + t) t (2 ^ 64)) (ap (λ n. n % 2 ^ 64) (omega arith))

module _ (lines : List ℕ) (span : Span) where
  -- the sum over the span, as far as 64 bits hold it
  abbrev span_total : ℕ
  span_total = weighted_sum (line_at lines) (weights_in span) % 2 ^ 64

  -- the lines from the span's first on, and the sum of so many of them from a place on
  abbrev rest : List ℕ
  rest = drop span.first lines

  abbrev part_total : ℕ → ℕ → ℕ
  part_total first count = sum (take count (drop first rest)) % 2 ^ 64

  pub span_total-whole_ends : span.half_ends ≡ false → let all = part_total 0 span.count in span_total ≡ (all + all) % 2 ^ 64
  span_total-whole_ends e =
      let total = lines_total (line_at lines) span.first span.count in
      let twice : 2 * total ≡ total + total = omega arith in
      rw (weighted_sum-whole_ends (line_at lines) span e, twice, lines_total-sum lines span.first span.count)
      (add-mod (sum (take span.count rest)) (sum (take span.count rest)) (2 ^ 64))

  pub span_total-few : span.half_ends ≡ true → span.count < 2 → span_total ≡ part_total 0 span.count
  span_total-few e few = rw (weighted_sum-few (line_at lines) span e few, lines_total-sum lines span.first span.count)

  pub span_total-half_ends :
      span.half_ends ≡ true → 2 ≤ span.count →
      let between = part_total 1 (span.count - 2) in
      let ends = (get_or rest 0 0 + get_or rest (span.count - 1) 0) % 2 ^ 64 in
      span_total ≡ ((ends + between) % 2 ^ 64 + between) % 2 ^ 64
  span_total-half_ends e many =
      let here : span.first + 0 ≡ span.first = omega arith in
      rw (
        get_or-drop span.first lines 0 0,
        here,
        get_or-drop span.first lines (span.count - 1) 0,
        drop-drop 1 span.first lines,
        ← lines_total-sum lines (span.first + 1) (span.count - 2),
        weighted_sum-half_ends (line_at lines) span e many,
      )
      (added _ (line_at lines (span.first + (span.count - 1))) (lines_total (line_at lines) (span.first + 1) (span.count - 2)))

-- the steps of the sum of neighbouring lines
pub ruleset total_steps = (sum_by_more, mod-add-mod, take_min, drop_min, take_all)

-- the ways to work a span's sum
pub ruleset span_steps = (span_total-whole_ends, span_total-few, span_total-half_ends, take_rest, drop_min)
