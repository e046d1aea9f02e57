-- What callers use of the limits: which orders have one, what the call then answers, that it is the rule's, and how large its parts are.
use mathlib.Core.Path.{◌≡◌, refl}
use mathlib.Core.Bool.{Bool, true, false, cond, ◌&&◌}
use Prim.Native.Nat.{ℕ, suc, ◌≤◌}
use native.Mathlib.Omega.{arith}
use lib.Dec.{T, leb, leb→le}
use lib.ListN.{replicate}
use borrow.Author.Tests.{not-false}
use Rattle.algebra.specs.Computed.{all_pass}
use Rattle.algebra.specs.Fraction.{Fraction, whole, times, divide, ◌≈ᶠ◌}
use Rattle.algebra.specs.LowestTerms.{least, least_denominator, lowest_terms}
use Rattle.algebra.proofs.Tests.{leb-range}
use Rattle.algebra.proofs.Computed.{both-pass, pass_below}
use Rattle.algebra.proofs.LowestTerms.{lowest_terms-≈ᶠ}
use Rattle.refusals.specs.Numbers.{no_refusal, order_out_of_range}
use Rattle.refusals.proofs.Answers.{no-faults}
use Rattle.rows.specs.Orders.{order_count}
use Rattle.fractions.specs.Parts.{parts}
use Rattle.classes.specs.declared.Class.{Class}
use Rattle.classes.specs.declared.Class.TheVariants.{A, B}
use Rattle.classes.specs.Letters.{class_with}
use Rattle.limits.specs.Limit.{first_limited, has_limit, own_figures, over_order, figure_in, class_a_limit, limit_of, listed_limit, limit_or_zero}
use Rattle.limits.specs.Call.{limit_checks, limit_refusal, limit_answer}

-- the largest numerator of a limit in milliamperes, and the largest denominator
abbrev pub largest_numerator : ℕ
largest_numerator = 3450

abbrev pub largest_denominator : ℕ
largest_denominator = 37

-- its parts are at most these
abbrev is_small : Fraction → Bool
is_small limit = leb limit.num largest_numerator && leb limit.den largest_denominator

-- ---- a call that is not refused

module _ (order letter : ℕ) (passed : limit_refusal order letter ≡ no_refusal) where
  pub accepted-has-limit : has_limit order ≡ true
  unfolding limit_refusal
  accepted-has-limit = not-false _ (no-faults (limit_checks order letter) refl passed order_out_of_range)

  pub limit_answer-limit : (limit_answer order letter).limit ≡ parts (listed_limit (class_with letter) order)
  unfolding limit_answer
  limit_answer-limit = rw passed

-- ---- an order that has a limit

module _ (order : ℕ) (has-limit : has_limit order ≡ true) where
  pub limited-ge : first_limited ≤ order
  limited-ge = (leb-range first_limited order order_count has-limit).0

  pub limited-le : order ≤ order_count
  limited-le = (leb-range first_limited order order_count has-limit).1

  -- a test that passes for the orders 0..40 passes for this one
  pub limited-passes : (test : ℕ → Bool) → T (all_pass {A = ℕ} (λ h _. test h) (replicate (suc order_count) 0)) → T (test order)
  limited-passes test passed = pass_below test (suc order_count) passed order (omega (arith, limited-le))

  bounded : (class : Class) → T (is_small (listed_limit class order))
  unfolding limit_of class_a_limit figure_in own_figures over_order whole times divide lowest_terms least_denominator least
  bounded A = limited-passes (λ h. is_small (listed_limit A h)) tt
  bounded B = limited-passes (λ h. is_small (listed_limit B h)) tt

  pub listed_limit-le : (class : Class) → ((listed_limit class order).num ≤ largest_numerator) × ((listed_limit class order).den ≤ largest_denominator)
  listed_limit-le class =
      let limit = listed_limit class order in
      let passed = both-pass (leb limit.num largest_numerator) (leb limit.den largest_denominator) (bounded class) in
      (leb→le limit.num largest_numerator passed.0, leb→le limit.den largest_denominator passed.1)

-- so are those of the limit or 0, at every order
pub limit_or_zero-le :
    (class : Class) (order : ℕ) →
    ((limit_or_zero class order).num ≤ largest_numerator) × ((limit_or_zero class order).den ≤ largest_denominator)
unfolding whole
limit_or_zero-le class order = by-test (has_limit order) refl
  where
    by-test :
        (limited : Bool) → has_limit order ≡ limited →
        let limit = cond limited (listed_limit class order) (whole 0) in
        (limit.num ≤ largest_numerator) × (limit.den ≤ largest_denominator)
    by-test true e = listed_limit-le order e class
    by-test false e = (omega arith, omega arith)

-- the listed limit is equal to the rule's, by cross products
pub listed_limit-equal : (class : Class) (order : ℕ) → listed_limit class order ≈ᶠ limit_of class order
listed_limit-equal class order = lowest_terms-≈ᶠ (limit_of class order)
