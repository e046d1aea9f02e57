-- The editions beside each other (document 02, card 7): edition 2 has document 01's groups, and A1 differs from it in the harmonic group of order 1 alone, which is its component.
use mathlib.Core.Path.{◌≡◌, refl}
use mathlib.Core.Bool.{false, ◌&&◌, and-false}
use mathlib.Core.List.{List}
use Prim.Native.Nat.{ℕ}
use lib.Dec.{eqb}
use borrow.Author.Tests.{ne_eqb}
use Rattle.rows.specs.Editions.{edition2, edition_a1}
use Rattle.rows.specs.Setups.{setup_of}
use Rattle.kinds.specs.declared.Kind.{Kind}
use Rattle.kinds.specs.declared.Kind.TheVariants.{Component, HarmonicGroup, HarmonicSubgroup, InterharmonicGroup, InterharmonicCentredSubgroup}
use Rattle.kinds.specs.Kinds.{grouped_as, span_of}
use Rattle.spans.specs.Spans.{weights_in, weights_of, line_at}
use Rattle.groups.specs.Group.{value_over, group_value}

-- where the edition or the order is another, every kind takes its own lines
grouped_as-own : (kind : Kind) (edition h : ℕ) → (eqb edition edition_a1 && eqb h 1) ≡ false → grouped_as kind edition h ≡ kind
unfolding grouped_as
grouped_as-own Component edition h other = refl
grouped_as-own HarmonicGroup edition h other = rw other
grouped_as-own HarmonicSubgroup edition h other = refl
grouped_as-own InterharmonicGroup edition h other = refl
grouped_as-own InterharmonicCentredSubgroup edition h other = refl

-- edition 2: the groups of document 01's table
pub group_value-edition2 :
    (kind : Kind) (n h : ℕ) (lines : List ℕ) →
    group_value kind (setup_of n edition2) h lines ≡ value_over (weights_in (span_of kind n h)) (line_at lines)
unfolding group_value
group_value-edition2 kind n h lines = rw (grouped_as-own kind edition2 h refl)

-- any order but the first: the lines of document 01's table, and so the groups of edition 2
pub weights_of-above :
    (kind : Kind) (n edition h : ℕ) → (h ≡ 1 → ⊥) → weights_of kind (setup_of n edition) h ≡ weights_in (span_of kind n h)
weights_of-above kind n edition h other = rw (grouped_as-own kind edition h (rw (ne_eqb h 1 other, and-false)))

pub group_value-above :
    (kind : Kind) (n edition h : ℕ) (lines : List ℕ) →
    (h ≡ 1 → ⊥) →
    group_value kind (setup_of n edition) h lines ≡ group_value kind (setup_of n edition2) h lines
unfolding group_value
group_value-above kind n edition h lines other = rw (weights_of-above kind n edition h other, weights_of-above kind n edition2 h other)

-- any kind but the harmonic group: so too
pub group_value-other-kind :
    (kind : Kind) (n edition h : ℕ) (lines : List ℕ) →
    (kind ≡ HarmonicGroup → ⊥) →
    group_value kind (setup_of n edition) h lines ≡ group_value kind (setup_of n edition2) h lines
unfolding group_value grouped_as
group_value-other-kind Component n edition h lines other = refl
group_value-other-kind HarmonicGroup n edition h lines other = absurd (other refl)
group_value-other-kind HarmonicSubgroup n edition h lines other = refl
group_value-other-kind InterharmonicGroup n edition h lines other = refl
group_value-other-kind InterharmonicCentredSubgroup n edition h lines other = refl

-- A1, order 1: the harmonic group is the component
pub group_value-a1 :
    (n : ℕ) (lines : List ℕ) →
    group_value HarmonicGroup (setup_of n edition_a1) 1 lines ≡ group_value Component (setup_of n edition_a1) 1 lines
unfolding group_value grouped_as
group_value-a1 n lines = refl
