-- The exact group of document 01 in figures, its G times ten million, rounded down: of windows with a few samples, whose reported sums are 32 and 0 where the exact ones are
-- 31.9924706 and 0.0677213. The claims of 7, 8 and 12 units and of the verdicts name the exact group: with the reported sum in its place they would be proved as well; here that is
-- refused. A sum over a window that is 0 from a place on is the sum over the samples before that place, so that no more than these is computed.
use mathlib.Core.Path.{◌≡◌, refl, sym, ap, fun_ext, ◌∙◌}
use mathlib.Core.List.{List, [], ◌∷◌, ◌++◌, map, map-map}
use Prim.Native.Nat.{ℕ, zero, suc, ◌+◌, ◌-◌, ◌*◌, ◌/◌, ◌^◌, ◌≤◌, ◌<◌}
use native.Mathlib.Nat.{add-zero, add-suc, not-suc-le-zero, le_of_suc-le-suc}
use native.Mathlib.Decide.{dec_lt}
use native.Mathlib.Omega.{arith}
use lib.Dec.{lit≤}
use lib.IntN.{ℤ, pos, negsuc, ◌*ℤ◌, zero-*ℤ, +ℤ_idr}
use lib.ListN.{length, get_or, replicate, length-replicate, get_or-replicate, get_or-eq_default}
use Rattle.algebra.specs.Fraction.{Fraction, divide, sumᶠ, ◌+ᶠ◌, whole}
use Rattle.algebra.specs.Integers.{square}
use Rattle.algebra.specs.Lists.{tabulate}
use Rattle.algebra.specs.Sums.{sum_to}
use Rattle.algebra.specs.Weighted.{sum_over}
use Rattle.sine.specs.Turn.{over_half, over_turn}
use Rattle.sine.specs.ExactSine.{denominator, term, factorial, added, taken_away, quarter_sine, exact_sine, exact_cosine}
use Rattle.windows.specs.Window.{window_length}
use Rattle.spectral_lines.specs.Line.{line_sum}
use Rattle.spectral_lines.specs.Exact.{exact_sum, exact_line, denominator-square-pos}
use Rattle.spectral_lines.proofs.Bounds.{summand}
use Rattle.rows.specs.declared.Setup.{Setup}
use Rattle.rows.specs.Setups.{setup_of}
use Rattle.kinds.specs.declared.Kind.{Kind}
use Rattle.kinds.specs.declared.Kind.TheVariants.{Component, HarmonicGroup, HarmonicSubgroup, InterharmonicGroup, InterharmonicCentredSubgroup}
use Rattle.kinds.specs.Kinds.{span_of, grouped_as}
use Rattle.spans.specs.Spans.{Weighted, weights_in, weights_of, weighted_sum}
use Rattle.groups.specs.Exact.{exact_over, exact_group}
use Rattle.accuracy.specs.WorkedRows.{Sampled}
use Rattle.accuracy.specs.LatestRows.{exact_three_second}

-- ---- windows that are 0 from a place on

-- summands that are 0 from the n-th on
sum_to-front : (n m : ℕ) (f : ℕ → ℤ) → ((j : ℕ) → n ≤ j → f j ≡ pos 0) → sum_to (n + m) f ≡ sum_to n f
unfolding sum_to
sum_to-front n zero f zeros = rw (add-zero n)
sum_to-front n (suc m) f zeros = rw (add-suc n m, zeros (n + m) (omega arith), +ℤ_idr) (sum_to-front n m f zeros)

-- the sum of a line of a window that is 0 from place n on
line_sum-front :
    (wave : ℕ → ℤ) (window : List ℤ) (k n m : ℕ) → n + m ≡ window_length → ((j : ℕ) → n ≤ j → get_or window j (pos 0) ≡ pos 0) →
    line_sum wave window k ≡ sum_to n (summand wave window k)
unfolding line_sum
line_sum-front wave window k n m total zeros =
    ap (λ (count : ℕ). sum_to count (summand wave window k)) (sym total)
    ∙ sum_to-front n m (summand wave window k) (λ j past. rw (zeros j past, zero-*ℤ))

-- zeros after some samples
zeros-after : (samples : List ℤ) (n j : ℕ) → length samples ≤ j → get_or (samples ++ replicate n (pos 0)) j (pos 0) ≡ pos 0
zeros-after [] n j past = go (dec_lt j n)
  where
    go : Dec (j < n) → get_or (replicate n (pos 0)) j (pos 0) ≡ pos 0
    go (yes h) = get_or-replicate n j (pos 0) (pos 0) h
    go (no f) = get_or-eq_default (replicate n (pos 0)) (pos 0) {n = j} (omega (arith, length-replicate n (pos 0)))
zeros-after (x ∷ samples) n zero past = absurd (not-suc-le-zero past)
zeros-after (x ∷ samples) n (suc j) past = zeros-after samples n j (le_of_suc-le-suc past)

-- the window that begins with some samples, the rest 0
beginning : List ℤ → List ℤ
beginning samples = samples ++ replicate (window_length - length samples) (pos 0)

module _ (samples : List ℤ) (fits : length samples ≤ window_length) where
  -- twice the sum over these samples, and the exact line
  front_sum : (ℕ → ℤ) → ℕ → ℤ
  front_sum wave k = pos 2 *ℤ sum_to (length samples) (summand wave (beginning samples) k)

  front_line : ℕ → ℕ
  front_line k = square (front_sum exact_cosine k) + square (front_sum exact_sine k)

  front-sum : (wave : ℕ → ℤ) (k : ℕ) → exact_sum wave (beginning samples) k ≡ front_sum wave k
  unfolding exact_sum front_sum beginning
  front-sum wave k =
      ap (λ (sum : ℤ). pos 2 *ℤ sum)
      (line_sum-front wave (beginning samples) k (length samples) (window_length - length samples) (omega arith)
      (zeros-after samples (window_length - length samples)))

  front-line : exact_line (beginning samples) ≡ front_line
  unfolding exact_line front_line
  front-line = fun_ext (λ k. rw (front-sum exact_cosine k, front-sum exact_sine k))

  -- the exact square over some lines
  front_over : List Weighted → Fraction
  front_over xs = record { num = weighted_sum front_line xs; den = denominator * denominator; den_pos = denominator-square-pos }

  front-over : (xs : List Weighted) → exact_over xs (beginning samples) ≡ front_over xs
  unfolding exact_over front_over
  front-over xs =
      ap (λ (line : ℕ → ℕ). record { num = weighted_sum line xs; den = denominator * denominator; den_pos = denominator-square-pos }) front-line

  front-group : (kind : Kind) (setup : Setup) (order : ℕ) → exact_group kind setup order (beginning samples) ≡ front_over (weights_of kind setup order)
  unfolding exact_group
  front-group kind setup order = front-over (weights_of kind setup order)

-- the exact square over some lines of any window, in document 01's words: twice each sum over the 2,048 samples, unrounded, and no root taken
exact-spelled :
    (xs : List Weighted) (window : List ℤ) →
    let sum : (ℕ → ℤ) → ℕ → ℤ = λ wave k. pos 2 *ℤ sum_to 2048 (λ j. get_or window j (pos 0) *ℤ wave (j * k)) in
    ((exact_over xs window).num ≡ weighted_sum (λ k. square (sum exact_cosine k) + square (sum exact_sine k)) xs) ×
    ((exact_over xs window).den ≡ denominator * denominator)
unfolding exact_over exact_line exact_sum line_sum
exact-spelled xs window = (refl, refl)

group-spelled : (kind : Kind) (setup : Setup) (order : ℕ) (window : List ℤ) → exact_group kind setup order window ≡ exact_over (weights_of kind setup order) window
unfolding exact_group
group-spelled kind setup order window = refl

-- ---- in figures

-- ten million times a fraction, rounded down
abbrev ten_million : Fraction → ℕ
ten_million p = 10 ^ 7 * p.num / p.den

-- 1 at the samples 0 and 1; 1 at sample 0 and −1 at sample 3
abbrev two_ones : List ℤ
two_ones = pos 1 ∷ pos 1 ∷ []

abbrev apart : List ℤ
apart = pos 1 ∷ pos 0 ∷ pos 0 ∷ negsuc 0 ∷ []

group_of :
    (kind : Kind) (setup : Setup) (order : ℕ) (samples : List ℤ) (fits : length samples ≤ window_length) (figure : ℕ) →
    ten_million (front_over samples fits (weights_of kind setup order)) ≡ figure →
    ten_million (exact_group kind setup order (beginning samples)) ≡ figure
group_of kind setup order samples fits figure = ◌∙◌ (ap ten_million (front-group samples fits kind setup order))

-- the exact group of order h of the window that begins with some samples
abbrev ExactIs : List ℤ → Kind → Setup → ℕ → ℕ → Type 0
ExactIs samples kind setup order figure = ten_million (exact_group kind setup order (beginning samples)) ≡ figure

-- every kind, at both systems; the harmonic group has half the weight at both ends, and is its component at order 1 under A1
exact-groups-worked :
    ExactIs two_ones Component (setup_of 10 0) 1 319924706 ×
    ExactIs apart Component (setup_of 10 0) 1 677213 ×
    ExactIs apart HarmonicGroup (setup_of 10 0) 1 7345673 ×
    ExactIs apart HarmonicGroup (setup_of 10 1) 1 677213 ×
    ExactIs apart HarmonicGroup (setup_of 12 0) 1 12681864 ×
    ExactIs apart HarmonicGroup (setup_of 12 1) 1 974884 ×
    ExactIs apart Component (setup_of 10 0) 40 297236577 ×
    ExactIs apart HarmonicGroup (setup_of 10 1) 40 2971871746 ×
    ExactIs apart HarmonicSubgroup (setup_of 10 0) 40 891698107 ×
    ExactIs apart InterharmonicGroup (setup_of 10 1) 40 2639426285 ×
    ExactIs apart InterharmonicCentredSubgroup (setup_of 10 0) 40 2052992495 ×
    ExactIs apart Component (setup_of 12 1) 40 206445548 ×
    ExactIs apart HarmonicGroup (setup_of 12 0) 40 2477059409 ×
    ExactIs apart HarmonicSubgroup (setup_of 12 1) 40 619332710 ×
    ExactIs apart InterharmonicGroup (setup_of 12 0) 40 2176984876 ×
    ExactIs apart InterharmonicCentredSubgroup (setup_of 12 1) 40 1781217623
unfolding front_over front_line front_sum beginning sum_to exact_sine exact_cosine over_turn over_half quarter_sine added taken_away term factorial denominator square span_of grouped_as weights_in tabulate weighted_sum sum_over
exact-groups-worked = (
  group_of Component (setup_of 10 0) 1 two_ones (lit≤ tt) 319924706 refl,
  group_of Component (setup_of 10 0) 1 apart (lit≤ tt) 677213 refl,
  group_of HarmonicGroup (setup_of 10 0) 1 apart (lit≤ tt) 7345673 refl,
  group_of HarmonicGroup (setup_of 10 1) 1 apart (lit≤ tt) 677213 refl,
  group_of HarmonicGroup (setup_of 12 0) 1 apart (lit≤ tt) 12681864 refl,
  group_of HarmonicGroup (setup_of 12 1) 1 apart (lit≤ tt) 974884 refl,
  group_of Component (setup_of 10 0) 40 apart (lit≤ tt) 297236577 refl,
  group_of HarmonicGroup (setup_of 10 1) 40 apart (lit≤ tt) 2971871746 refl,
  group_of HarmonicSubgroup (setup_of 10 0) 40 apart (lit≤ tt) 891698107 refl,
  group_of InterharmonicGroup (setup_of 10 1) 40 apart (lit≤ tt) 2639426285 refl,
  group_of InterharmonicCentredSubgroup (setup_of 10 0) 40 apart (lit≤ tt) 2052992495 refl,
  group_of Component (setup_of 12 1) 40 apart (lit≤ tt) 206445548 refl,
  group_of HarmonicGroup (setup_of 12 0) 40 apart (lit≤ tt) 2477059409 refl,
  group_of HarmonicSubgroup (setup_of 12 1) 40 apart (lit≤ tt) 619332710 refl,
  group_of InterharmonicGroup (setup_of 12 0) 40 apart (lit≤ tt) 2176984876 refl,
  group_of InterharmonicCentredSubgroup (setup_of 12 1) 40 apart (lit≤ tt) 1781217623 refl,
)

-- any lines, past the spectrum too: half the weight at 700 and the whole at 1,023
exact-over-worked :
    ten_million (exact_over (record { line = 700; twice_weight = 1 } ∷ record { line = 1023; twice_weight = 2 } ∷ []) (beginning apart)) ≡ 321009109
unfolding front_over front_line front_sum beginning sum_to exact_sine exact_cosine over_turn over_half quarter_sine added taken_away term factorial denominator square weighted_sum sum_over
exact-over-worked = ap ten_million (front-over apart (lit≤ tt) (record { line = 700; twice_weight = 1 } ∷ record { line = 1023; twice_weight = 2 } ∷ [])) ∙ refl

-- ---- the exact three-second square: a fifteenth of the sum of 15 exact groups

-- i at the samples 0 and 1
abbrev twice : ℕ → List ℤ
twice i = pos i ∷ pos i ∷ []

-- a row, here with no values, of such a window
sampled_at : Setup → ℕ → Sampled
sampled_at setup i = record { row = record { setup = setup; values = [] }; window = beginning (twice i) }

three-second-of :
    (kind : Kind) (setup : Setup) (order : ℕ) (places : List ℕ) (figure : ℕ) →
    ten_million (divide (sumᶠ (map (λ i. front_over (twice i) (lit≤ tt) (weights_of kind setup order)) places)) 15 (omega arith)) ≡ figure →
    ten_million (exact_three_second kind order (map (sampled_at setup) places)) ≡ figure
unfolding exact_three_second divide sampled_at
three-second-of kind setup order places figure =
    ◌∙◌
    (ap (λ (groups : List Fraction). 10 ^ 7 * (sumᶠ groups).num / (15 * (sumᶠ groups).den))
    (map-map (λ (s : Sampled). exact_group kind s.row.setup order s.window) (sampled_at setup) places
    ∙ ap (λ (group : ℕ → Fraction). map group places) (fun_ext (λ i. front-group (twice i) (lit≤ tt) kind setup order))))

-- of the harmonic groups of order 1 at 60 Hz under A1, with 0, 1, .. 14 in the windows: 1015/15 times 31.9891581
exact-three-second-worked :
    ten_million (exact_three_second HarmonicGroup 1 (map (sampled_at (setup_of 12 1)) (0 ∷ 1 ∷ 2 ∷ 3 ∷ 4 ∷ 5 ∷ 6 ∷ 7 ∷ 8 ∷ 9 ∷ 10 ∷ 11 ∷ 12 ∷ 13 ∷ 14 ∷ []))) ≡ 21645997017
unfolding front_over front_line front_sum beginning sum_to exact_sine exact_cosine over_turn over_half quarter_sine added taken_away term factorial denominator square span_of grouped_as weights_in tabulate weighted_sum sum_over sumᶠ divide ◌+ᶠ◌ whole
exact-three-second-worked =
    three-second-of HarmonicGroup (setup_of 12 1) 1 (0 ∷ 1 ∷ 2 ∷ 3 ∷ 4 ∷ 5 ∷ 6 ∷ 7 ∷ 8 ∷ 9 ∷ 10 ∷ 11 ∷ 12 ∷ 13 ∷ 14 ∷ []) 21645997017 refl
