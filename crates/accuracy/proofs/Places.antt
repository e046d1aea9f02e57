-- The norm bound over some lines of a window: each line gives two places, its cosine sum and its sine sum, with the weight of the line.
-- What the sums are compared with is left open: demand 3 has the exact ones, card 14 those of another window.
use mathlib.Core.Path.{◌≡◌, refl}
use mathlib.Core.List.{List, [], ◌∷◌}
use mathlib.Core.Bool.{false}
use Prim.Native.Nat.{ℕ, ◌+◌, ◌*◌, ◌≤◌}
use native.Mathlib.Nat.{mul-le-mul_right}
use native.Mathlib.Omega.{arith}
use lib.IntN.{ℤ}
use Rattle.algebra.specs.Integers.{square}
use Rattle.std.specs.List.{list_any}
use Rattle.algebra.specs.Weighted.{sum_over, weighted_squares, Place, total_weight, squares, exact_squares, Everywhere, DifferencesWithin, WithinUnits}
use Rattle.algebra.proofs.Norm.{norm-within}
use Rattle.square_root.proofs.RootLaws.{Root, root-law, lt-root_limit}
use Rattle.sine.specs.Wave.{table_sine, table_cosine}
use Rattle.spectral_lines.specs.Line.{rounded_sum, line_of, largest_line}
use Rattle.windows.specs.Window.{out_of_range}
use Rattle.spectral_lines.proofs.Bounds.{line-le}
use Rattle.kinds.specs.Kinds.{largest_total}
use Rattle.spans.specs.Spans.{Weighted, total_twice_weight, weighted_sum}
use Rattle.groups.specs.Group.{value_over}
use Rattle.spans.proofs.Weights.{weighted_sum-le-total}

-- the cosine sum and the sine sum of a line, by the line's number
pub record Sums : Type 0 where
  pub cosine : ℕ → ℤ
  pub sine : ℕ → ℤ

-- the line that they give
abbrev pub line_with : Sums → ℕ → ℕ
line_with sums k = square (sums.cosine k) + square (sums.sine k)

-- sums of some lines, and what they are compared with
module _ (values exacts : Sums) where
  -- the two places of a line
  abbrev pub cosine_place : Weighted → Place
  cosine_place x = record { weight = x.twice_weight; value = values.cosine x.line; exact = exacts.cosine x.line }

  abbrev pub sine_place : Weighted → Place
  sine_place x = record { weight = x.twice_weight; value = values.sine x.line; exact = exacts.sine x.line }

  unfoldable pub places_of : List Weighted → List Place
  places_of [] = []
  places_of (x ∷ xs) = cosine_place x ∷ sine_place x ∷ places_of xs

  -- whatever is read of a place: the squares of a line's two places add up to the line
  pub squares-at :
      (read : Place → ℤ) (line_at : ℕ → ℕ) →
      ((x : Weighted) → square (read (cosine_place x)) + square (read (sine_place x)) ≡ line_at x.line) →
      (xs : List Weighted) → weighted_squares (λ p. p.weight) read (places_of xs) ≡ weighted_sum line_at xs
  unfolding places_of weighted_sum square sum_over
  squares-at read line_at same [] = refl
  squares-at read line_at same (x ∷ xs) = rw (← same x) (omega (arith, squares-at read line_at same xs))

  pub squares-places_of : (xs : List Weighted) → squares (places_of xs) ≡ weighted_sum (line_with values) xs
  squares-places_of = squares-at (λ p. p.value) (line_with values) (λ x. refl)

  pub exact_squares-places_of : (xs : List Weighted) → exact_squares (places_of xs) ≡ weighted_sum (line_with exacts) xs
  exact_squares-places_of = squares-at (λ p. p.exact) (line_with exacts) (λ x. refl)

  pub total_weight-places_of : (xs : List Weighted) → total_weight (places_of xs) ≡ 2 * total_twice_weight xs
  unfolding places_of sum_over
  total_weight-places_of [] = refl
  total_weight-places_of (x ∷ xs) = omega (arith, total_weight-places_of xs)

  -- what holds of both places of every line
  pub everywhere-places_of :
      (F : Place → Type 0) → ((x : Weighted) → F (cosine_place x) × F (sine_place x)) → (xs : List Weighted) → Everywhere F (places_of xs)
  unfolding places_of
  everywhere-places_of F both [] = tt
  everywhere-places_of F both (x ∷ xs) = ((both x).0, ((both x).1, everywhere-places_of F both xs))

-- the sums of a window's lines
abbrev pub rounded_sums : List ℤ → Sums
rounded_sums window = record { cosine = rounded_sum table_cosine window; sine = rounded_sum table_sine window }

-- a window in range, and some lines whose weights add up to at most 12
module _
    (window : List ℤ) (in-range : list_any out_of_range window ≡ false)
    (xs : List Weighted) (total : total_twice_weight xs ≤ largest_total)
  where
    -- no line is above 2^59, so the sum has a root
    pub value-root : Root (weighted_sum (line_of window) xs) (value_over xs (line_of window))
    unfolding value_over
    value-root =
        root-law _
        (lt-root_limit _
        (omega (
          arith,
          weighted_sum-le-total (line_of window) largest_line (line-le window in-range) xs,
          mul-le-mul_right largest_line total,
        )))

    -- where the sums differ from others by a norm of at most P, the value is within P + 1 of the others' norm
    pub value-within :
        (exacts : Sums) {D P : ℕ} → DifferencesWithin (places_of (rounded_sums window) exacts xs) D 1 P →
        WithinUnits 1 (weighted_sum (line_with exacts) xs) D (value_over xs (line_of window)) (P + 1)
    unfolding line_of
    value-within exacts near =
        rw (exact_squares-places_of (rounded_sums window) exacts xs) at
        (norm-within near (value_over xs (line_of window))
        (record {
          low = omega (arith, squares-places_of (rounded_sums window) exacts xs, value-root.0);
          high = omega (arith, squares-places_of (rounded_sums window) exacts xs, value-root.1);
        }))
