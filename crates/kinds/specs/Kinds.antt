-- The lines of a group (document 01, "Groups", the table of kinds; under A1 document 02, card 7).
-- A group is a span of neighbouring lines: the one place that says which a kind has.
use Rattle.std.specs.Prelude.{true, false, cond, ◌&&◌, ℕ, ◌+◌, ◌-◌, ◌*◌, ◌/◌, eqb}
use Rattle.rows.specs.declared.Setup.{Setup}
use Rattle.rows.specs.Editions.{edition_a1}
use Rattle.kinds.specs.declared.Kind.{Kind}
use Rattle.kinds.specs.declared.Kind.TheVariants.{Component, HarmonicGroup, HarmonicSubgroup, InterharmonicGroup, InterharmonicCentredSubgroup}
use Rattle.kinds.specs.declared.Span.{Span}

-- so many lines from a first on, all with weight 1
abbrev pub whole_span : ℕ → ℕ → Span
whole_span first count = record { first = first; count = count; half_ends = false }

-- the same, but with weight 1/2 at both ends
abbrev pub half_ended_span : ℕ → ℕ → Span
half_ended_span first count = record { first = first; count = count; half_ends = true }

-- document 01's table, for a kind, a system n (10 or 12) and an order h; line numbers are counted from n×h
unfoldable pub span_of : Kind → ℕ → ℕ → Span
span_of Component n h = whole_span (n * h) 1
span_of HarmonicGroup n h = half_ended_span (n * h - n / 2) (n + 1)
span_of HarmonicSubgroup n h = whole_span (n * h - 1) 3
span_of InterharmonicGroup n h = whole_span (n * h + 1) (n - 1)
span_of InterharmonicCentredSubgroup n h = whole_span (n * h + 2) (n - 3)

-- the kind whose lines a group takes: "under A1 the harmonic group of order 1 is its component alone, others and the other kinds as now"
unfoldable pub grouped_as : Kind → ℕ → ℕ → Kind
grouped_as Component edition h = Component
grouped_as HarmonicGroup edition h = cond (eqb edition edition_a1 && eqb h 1) Component HarmonicGroup
grouped_as HarmonicSubgroup edition h = HarmonicSubgroup
grouped_as InterharmonicGroup edition h = InterharmonicGroup
grouped_as InterharmonicCentredSubgroup edition h = InterharmonicCentredSubgroup

-- the span of a group
abbrev pub group_span : Kind → Setup → ℕ → Span
group_span kind setup h = span_of (grouped_as kind setup.edition h) setup.system h

-- twice the weights of no group add up to more than those of the harmonic group at 12 cycles
abbrev pub largest_total : ℕ
largest_total = 24
