-- The sum of some neighbouring lines, of which those past the last count as 0, is the sum of those that are there.
use Rattle.std.proofs.Common.{◌≡◌, ℕ, zero, suc, ◌+◌, ◌-◌, ◌<◌, ◌≤◌, min, List, length, sym, refl, ◌∙◌, le_of_lt, sub-eq-zero_of_le, add-one, arith}
use native.Mathlib.Nat.{sub_self}
use native.Mathlib.Decide.{dec_lt}
use lib.ListN.{get_or-eq_default}
use Rattle.spans.specs.Spans.{line_at, lines_total}
use Rattle.spans.proofs.Weights.{lines_total-none, lines_total-suc, lines_total-append}

-- lines that are all 0
lines_total-zeros : (f : ℕ → ℕ) (first count : ℕ) → ((k : ℕ) → first ≤ k → f k ≡ 0) → lines_total f first count ≡ 0
lines_total-zeros f first zero none = lines_total-none f first
lines_total-zeros f first (suc count) none =
    rw (← add-one count)
    (omega (arith, lines_total-suc f first count, lines_total-zeros f first count none, none (first + count) (omega arith)))

-- ---- places that are cut to a length

cut-place : (first place length start cut : ℕ) → start ≡ min first length → cut ≡ start + min place (length - start) → cut ≡ min (first + place) length
cut-place first place length start cut s c = omega arith

min_earlier : (a b length end : ℕ) → a ≤ b → end ≡ min b length → min (min a length) end ≡ min a length
min_earlier a b length end le e = omega arith

min_later : (b a length end : ℕ) → b ≤ a → end ≡ min b length → min (min a length) end ≡ end
min_later b a length end le e = omega arith

shift : (n a b : ℕ) → n + b - (n + a) ≡ b - a
shift n a b = omega arith

cut-between : (a b length here end : ℕ) → a ≤ b → here ≡ min a length → end ≡ min b length → end - here ≡ min (b - a) (length - here)
cut-between a b length here end le h e = omega arith

-- ---- the lines that are there

module _ (lines : List ℕ) where
  -- no line stands past the last
  lines_total-past : (first count : ℕ) → length lines ≤ first → lines_total (line_at lines) first count ≡ 0
  lines_total-past first count past =
      lines_total-zeros (line_at lines) first count (λ k after. get_or-eq_default lines 0 {n = k} (omega arith))

  pub lines_total-cut :
      (first count start there : ℕ) →
      start ≡ min first (length lines) → there ≡ min count (length lines - start) →
      lines_total (line_at lines) start there ≡ lines_total (line_at lines) first count
  lines_total-cut first count start there s t = by_first (dec_lt first (length lines))
    where
      by_first : Dec (first < length lines) → lines_total (line_at lines) start there ≡ lines_total (line_at lines) first count
      by_first (yes inside) =
          let here : start ≡ first = omega arith in
          let all : there + (count - there) ≡ count = omega arith in
          rw here
          (omega (
            arith,
            rw all at (lines_total-append (line_at lines) first there (count - there)),
            by-rest (dec_lt there count),
          ))
        where
          by-rest : Dec (there < count) → lines_total (line_at lines) (first + there) (count - there) ≡ 0
          by-rest (yes more) = lines_total-past (first + there) (count - there) (omega arith)
          by-rest (no none) =
              let left : count - there ≡ 0 = omega arith in
              rw left (lines_total-none (line_at lines) (first + there))
      by_first (no past) =
          let none : there ≡ 0 = omega arith in
          rw none (lines_total-none (line_at lines) start ∙ sym (lines_total-past first count (omega arith)))

  -- from a place to before another, both cut to what is there
  pub lines_total-there :
      (first from to start here end : ℕ) →
      start ≡ min first (length lines) → end ≡ start + min to (length lines - start) → here ≡ min (start + min from (length lines - start)) end →
      lines_total (line_at lines) here (end - here) ≡ lines_total (line_at lines) (first + from) (to - from)
  lines_total-there first from to start here end s e h = by_order (dec_lt to from)
    where
      last : end ≡ min (first + to) (length lines)
      last = cut-place first to (length lines) start end s e

      begins : start + min from (length lines - start) ≡ min (first + from) (length lines)
      begins = cut-place first from (length lines) start _ s refl

      by_order : Dec (to < from) → lines_total (line_at lines) here (end - here) ≡ lines_total (line_at lines) (first + from) (to - from)
      by_order (yes none) =
          let here-last : here ≡ end = rw begins at h ∙ min_later (first + to) (first + from) (length lines) end (omega arith) last in
          rw (here-last, sub_self end, sub-eq-zero_of_le (le_of_lt none)) (lines_total-none (line_at lines) end ∙ sym (lines_total-none (line_at lines) (first + from)))
      by_order (no some) =
          let here-first : here ≡ min (first + from) (length lines) = rw begins at h ∙ min_earlier (first + from) (first + to) (length lines) end (omega arith) last in
          let asked : first + to - (first + from) ≡ to - from = shift first from to in
          lines_total-cut (first + from) (to - from) here (end - here) here-first
          (rw asked at (cut-between (first + from) (first + to) (length lines) here end (omega arith) here-first last))
