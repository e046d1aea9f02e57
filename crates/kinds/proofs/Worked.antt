-- The spans of the kinds in figures: tables of rows, and one computed theorem over them.
use mathlib.Core.Bool.{Bool, true, false}
use mathlib.Core.List.{List, [], ◌∷◌, ◌++◌, map}
use mathlib.Core.Path.{◌≡◌, refl}
use Prim.Native.Nat.{ℕ}
use Rattle.rows.specs.Setups.{setup_of}
use Rattle.kinds.specs.declared.Kind.TheVariants.{Component, HarmonicGroup, HarmonicSubgroup, InterharmonicGroup, InterharmonicCentredSubgroup}
use Rattle.kinds.specs.declared.Span.{Span}
use Rattle.kinds.specs.Kinds.{span_of, grouped_as, group_span}

abbrev span : ℕ → ℕ → Bool → Span
span first count half_ends = record { first = first; count = count; half_ends = half_ends }

-- order 3 is at line 30 of system 10 and at line 36 of system 12; the first order, and the last, whose interharmonic lines are 481..491
abbrev spans : List (Span × Span)
spans =
    (span_of Component 10 3, span 30 1 false) ∷
    (span_of Component 12 3, span 36 1 false) ∷
    (span_of HarmonicGroup 10 3, span 25 11 true) ∷
    (span_of HarmonicGroup 12 3, span 30 13 true) ∷
    (span_of HarmonicSubgroup 10 3, span 29 3 false) ∷
    (span_of HarmonicSubgroup 12 3, span 35 3 false) ∷
    (span_of InterharmonicGroup 10 3, span 31 9 false) ∷
    (span_of InterharmonicGroup 12 3, span 37 11 false) ∷
    (span_of InterharmonicCentredSubgroup 10 3, span 32 7 false) ∷
    (span_of InterharmonicCentredSubgroup 12 3, span 38 9 false) ∷
    (span_of HarmonicGroup 10 1, span 5 11 true) ∷
    (span_of InterharmonicGroup 12 40, span 481 11 false) ∷
    []

-- under A1 only the harmonic group of order 1 has other lines: its component
abbrev spans_under_a1 : List (Span × Span)
spans_under_a1 =
    (group_span HarmonicGroup (setup_of 10 1) 1, span 10 1 false) ∷
    (group_span HarmonicGroup (setup_of 12 1) 1, span 12 1 false) ∷
    (group_span HarmonicGroup (setup_of 10 1) 2, span 15 11 true) ∷
    (group_span HarmonicGroup (setup_of 12 1) 40, span 474 13 true) ∷
    (group_span Component (setup_of 10 1) 1, span 10 1 false) ∷
    (group_span HarmonicSubgroup (setup_of 10 1) 1, span 9 3 false) ∷
    (group_span InterharmonicGroup (setup_of 12 1) 1, span 13 11 false) ∷
    (group_span InterharmonicCentredSubgroup (setup_of 12 1) 1, span 14 9 false) ∷
    (group_span HarmonicGroup (setup_of 10 0) 1, span 5 11 true) ∷
    []

spans-worked : map (λ c. c.0) (spans ++ spans_under_a1) ≡ map (λ c. c.1) (spans ++ spans_under_a1)
unfolding span_of grouped_as
spans-worked = refl
