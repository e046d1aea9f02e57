-- `limits::limit::class_limit` meets its contract: class A's row is its limit, three halves of it with what the parts share cancelled are class B's, and 0 is that of an order that has no row.
use mathlib.Core.Path.{sym, ◌∙◌}
use Rattle.algebra.specs.Fraction.{whole}
use Rattle.limits.proofs.Table.{row-found, row-missing}
use Rattle.limits.proofs.ClassB.{listed_limit-class-B}
use Rattle.limits.proofs.limit.class_limit.Goals as goal

pub returns-in_default : goal.returns-in_default
unfolding whole
returns-in_default c = rw (row-missing c.args.order (sym c.row_of.ensures ∙ c.in_default.is))

pub returns-in-B : goal.returns-in-B
returns-in-B c =
    let found = row-found c.args.order c.in-Some.field-0 (sym c.row_of.ensures ∙ c.in-Some.is) in
    rw (c.divisor_or_one.ensures, c.divisor_or_one-in-B.ensures, c.from-numerator.ensures, c.from-denominator.ensures, found.1, c.in-B.is, found.0)
    (listed_limit-class-B c.args.order found.0)
