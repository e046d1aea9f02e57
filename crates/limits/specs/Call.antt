-- What the call `order_limit` answers: the limit of an order in the class that a letter names (document 02, cards 1 and 2).
use Rattle.std.specs.Prelude.{Bool, not, List, [], ◌∷◌, ℕ, Result, Ok, Err}
use Rattle.algebra.specs.Fraction.{whole}
use Rattle.refusals.specs.Numbers.{no_refusal, order_out_of_range, unknown_class}
use Rattle.refusals.specs.Answers.{first_fault, unless_refused, number_of}
use Rattle.refusals.specs.declared.Refusal.{Refusal}
use Rattle.fractions.specs.declared.Ratio.{Ratio}
use Rattle.fractions.specs.Parts.{parts}
use Rattle.classes.specs.Letters.{is_class, class_with}
use Rattle.limits.specs.Limit.{has_limit, listed_limit}

-- the check "6 order outside 2..40"
abbrev pub limited_order_check : ℕ → Bool × ℕ
limited_order_check order = (not (has_limit order), order_out_of_range)

-- the check "15 class letter other than A or B"
abbrev pub class_check : ℕ → Bool × ℕ
class_check letter = (not (is_class letter), unknown_class)

-- "tested after the order"
abbrev pub limit_checks : ℕ → ℕ → List (Bool × ℕ)
limit_checks order letter = limited_order_check order ∷ class_check letter ∷ []

unfoldable pub limit_refusal : ℕ → ℕ → ℕ
limit_refusal order letter = first_fault (limit_checks order letter)

-- what a call for a limit answers: a refusal's number, or that of none, and a limit in milliamperes
pub record LimitAnswer : Type 0 where
  pub refusal : ℕ
  pub limit : Ratio

-- "A refusal gives its number with 0 as value": as a fraction, 0 over 1
unfoldable pub limit_answer : ℕ → ℕ → LimitAnswer
limit_answer order letter = record {
  refusal = limit_refusal order letter;
  limit = parts (unless_refused (limit_refusal order letter) (listed_limit (class_with letter) order) (whole 0));
}

-- what a result of the code answers: the limit, or the refusal's number with 0
abbrev pub limit_answer_of : Result Ratio Refusal → LimitAnswer
limit_answer_of (Ok limit) = record { refusal = no_refusal; limit = limit }
limit_answer_of (Err refusal) = record { refusal = number_of refusal; limit = parts (whole 0) }
