-- The worked numbers of the limits: document 01's rule at every order, class B's limits of the same orders, and what the call answers, refused answers entire.
use mathlib.Core.Path.{◌≡◌, refl}
use mathlib.Core.List.{List, [], ◌∷◌, map}
use Prim.Native.Nat.{ℕ}
use Rattle.algebra.specs.Fraction.{whole, times, divide}
use Rattle.algebra.specs.LowestTerms.{least, least_denominator, lowest_terms}
use Rattle.classes.specs.declared.Class.TheVariants.{B}
use Rattle.classes.specs.Letters.{letter_of, is_class, class_with}
use Rattle.limits.specs.Limit.{own_figures, over_order, figure_in, class_a_limit, limit_of, listed_limit}
use Rattle.limits.specs.Call.{limit_refusal, limit_answer}

-- ---- document 01's rule

-- an order, and its limit in milliamperes as a numerator over a denominator
rule_cases : List (ℕ × ℕ × ℕ)
rule_cases =
    (2, 1080, 1) ∷
    (3, 2300, 1) ∷
    (4, 430, 1) ∷
    (5, 1140, 1) ∷
    (6, 300, 1) ∷
    (7, 770, 1) ∷
    (8, 1840, 8) ∷
    (9, 400, 1) ∷
    (10, 1840, 10) ∷
    (11, 330, 1) ∷
    (12, 1840, 12) ∷
    (13, 210, 1) ∷
    (14, 1840, 14) ∷
    (15, 2250, 15) ∷
    (16, 1840, 16) ∷
    (17, 2250, 17) ∷
    (18, 1840, 18) ∷
    (19, 2250, 19) ∷
    (20, 1840, 20) ∷
    (21, 2250, 21) ∷
    (22, 1840, 22) ∷
    (23, 2250, 23) ∷
    (24, 1840, 24) ∷
    (25, 2250, 25) ∷
    (26, 1840, 26) ∷
    (27, 2250, 27) ∷
    (28, 1840, 28) ∷
    (29, 2250, 29) ∷
    (30, 1840, 30) ∷
    (31, 2250, 31) ∷
    (32, 1840, 32) ∷
    (33, 2250, 33) ∷
    (34, 1840, 34) ∷
    (35, 2250, 35) ∷
    (36, 1840, 36) ∷
    (37, 2250, 37) ∷
    (38, 1840, 38) ∷
    (39, 2250, 39) ∷
    (40, 1840, 40) ∷
    []

rule-worked : map (λ row. (row.0, (class_a_limit row.0).num, (class_a_limit row.0).den)) rule_cases ≡ rule_cases
unfolding rule_cases class_a_limit figure_in own_figures over_order whole
rule-worked = refl

-- ---- class B

-- an order, and its limit in class B in milliamperes, in lowest terms
class_b_cases : List (ℕ × ℕ × ℕ)
class_b_cases =
    (2, 1620, 1) ∷
    (3, 3450, 1) ∷
    (4, 645, 1) ∷
    (5, 1710, 1) ∷
    (6, 450, 1) ∷
    (7, 1155, 1) ∷
    (8, 345, 1) ∷
    (9, 600, 1) ∷
    (10, 276, 1) ∷
    (11, 495, 1) ∷
    (12, 230, 1) ∷
    (13, 315, 1) ∷
    (14, 1380, 7) ∷
    (15, 225, 1) ∷
    (16, 345, 2) ∷
    (17, 3375, 17) ∷
    (18, 460, 3) ∷
    (19, 3375, 19) ∷
    (20, 138, 1) ∷
    (21, 1125, 7) ∷
    (22, 1380, 11) ∷
    (23, 3375, 23) ∷
    (24, 115, 1) ∷
    (25, 135, 1) ∷
    (26, 1380, 13) ∷
    (27, 125, 1) ∷
    (28, 690, 7) ∷
    (29, 3375, 29) ∷
    (30, 92, 1) ∷
    (31, 3375, 31) ∷
    (32, 345, 4) ∷
    (33, 1125, 11) ∷
    (34, 1380, 17) ∷
    (35, 675, 7) ∷
    (36, 230, 3) ∷
    (37, 3375, 37) ∷
    (38, 1380, 19) ∷
    (39, 1125, 13) ∷
    (40, 69, 1) ∷
    []

class-B-worked : map (λ row. (row.0, (listed_limit B row.0).num, (listed_limit B row.0).den)) class_b_cases ≡ class_b_cases
unfolding class_b_cases limit_of class_a_limit figure_in own_figures over_order whole times divide lowest_terms least_denominator least
class-B-worked = refl

-- ---- the call

-- an order with a class letter, and what they are answered: the refusal, the numerator and the denominator
answer_cases : List (ℕ × ℕ × ℕ × ℕ × ℕ)
answer_cases =
    -- 6: the orders 2..40 have a limit
    (0, 65, 6, 0, 1) ∷
    (1, 65, 6, 0, 1) ∷
    (2, 65, 0, 1080, 1) ∷
    (40, 65, 0, 46, 1) ∷
    (41, 65, 6, 0, 1) ∷
    (4294967295, 65, 6, 0, 1) ∷
    -- a limit that is whole, one whose parts have a common divisor, and one whose parts have none
    (8, 65, 0, 230, 1) ∷
    (12, 65, 0, 460, 3) ∷
    (39, 65, 0, 750, 13) ∷
    (37, 65, 0, 2250, 37) ∷
    -- so in class B, where the parts of three halves share 2 (8 and 37), 2 and 3 (12), or nothing (32); 3 alone does not come
    (8, 66, 0, 345, 1) ∷
    (12, 66, 0, 230, 1) ∷
    (37, 66, 0, 3375, 37) ∷
    (32, 66, 0, 345, 4) ∷
    (1, 66, 6, 0, 1) ∷
    (2, 66, 0, 1620, 1) ∷
    (40, 66, 0, 69, 1) ∷
    (41, 66, 6, 0, 1) ∷
    -- 15: the letters are A and B, as capitals; C and D, a and b, the first byte and the last are no class
    (3, 0, 15, 0, 1) ∷
    (3, 64, 15, 0, 1) ∷
    (3, 67, 15, 0, 1) ∷
    (3, 68, 15, 0, 1) ∷
    (3, 97, 15, 0, 1) ∷
    (3, 98, 15, 0, 1) ∷
    (3, 255, 15, 0, 1) ∷
    -- 6 before 15
    (1, 64, 6, 0, 1) ∷
    (41, 98, 6, 0, 1) ∷
    []

answers-worked :
    map
    (λ row. let a = limit_answer row.0 row.1 in (row.0, row.1, a.refusal, a.limit.numerator, a.limit.denominator))
    answer_cases
    ≡ answer_cases
unfolding answer_cases limit_answer limit_refusal is_class class_with letter_of lowest_terms least_denominator least limit_of class_a_limit figure_in own_figures over_order whole times divide
answers-worked = refl
