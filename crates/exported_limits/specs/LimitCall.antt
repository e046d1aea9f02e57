-- What the call for the limit of an order in a class leaves in the caller's two numbers (document 02, cards 1 and 2). It has no check of its own: its refusal is `limit_refusal`.
use Rattle.std.specs.Prelude.{ℕ}
use Rattle.refusals.specs.Answers.{unless_refused}
use Rattle.classes.specs.Letters.{class_with}
use Rattle.limits.specs.Limit.{listed_limit}
use Rattle.limits.specs.Call.{limit_refusal}

-- the parts of the limit at exit; on a refusal what the numbers were
unfoldable pub limit_numerator_exit : ℕ → ℕ → ℕ → ℕ
limit_numerator_exit order letter numerator =
    unless_refused (limit_refusal order letter) (listed_limit (class_with letter) order).num numerator

unfoldable pub limit_denominator_exit : ℕ → ℕ → ℕ → ℕ
limit_denominator_exit order letter denominator =
    unless_refused (limit_refusal order letter) (listed_limit (class_with letter) order).den denominator
