-- The exported calls on a record's words in figures: the calls' own refusals, each two neighbouring checks in their order, and what the words and the caller's
-- numbers hold after. A lent number is 77 before the call, a lent word 7.
use mathlib.Core.Path.{refl}
use mathlib.Core.List.{List, [], ◌∷◌, ◌++◌}
use Prim.Native.Nat.{ℕ, ◌+◌, ◌^◌}
use lib.ListN.{replicate}
use Rattle.algebra.specs.Largest.{largest}
use Rattle.algebra.specs.Lists.{tabulate, joined}
use Rattle.std.specs.List.{list_any}
use Rattle.algebra.specs.Weighted.{sum_over}
use Rattle.algebra.specs.Rounding.{nearest}
use Rattle.algebra.specs.Fraction.{whole, times, divide}
use Rattle.rows.specs.Systems.{is_system}
use Rattle.rows.specs.Editions.{is_edition}
use Rattle.rows.specs.Setups.{setup_of, is_setup, same_setup}
use Rattle.rows.specs.Orders.{is_order}
use Rattle.rows.specs.Rows.{first_values}
use Rattle.wide_numbers.specs.Squares.{sum_of_squares}
use Rattle.latest_rows.specs.Latest.{with_latest, latest_values}
use Rattle.records.specs.Soundness.{none_above, all_zero, is_sound}
use Rattle.books.specs.Book.{smoothed_next, book_step}
use Rattle.books.specs.Smoothing.{smoothed_value}
use Rattle.observation.specs.Calls.{empty_record, fresh_refusal, book_at, next_book, with_row, row_checks, add_row_refusal}
use Rattle.fractions.specs.Parts.{raised, at_most}
use Rattle.classes.specs.Letters.{letter_of, is_class, class_with}
use Rattle.limits.specs.Limit.{own_figures, figure_in, class_a_limit, limit_of, over_order}
use Rattle.verdict.specs.Question.{asked}
use Rattle.limit_tests.specs.Limit.{limit_in_units, peak_limit_in_units}
use Rattle.limit_tests.specs.Tests.{is_within, is_over}
use Rattle.verdict.specs.Call.{combined, verdict_in, verdict_refusal}
use Rattle.records.specs.Average.{average_of, peak_of}
use Rattle.lists.specs.LentWords.{words_from}
use Rattle.record_words.specs.Parts.{parts_from}
use Rattle.record_words.specs.Halves.{packed, unpacked}
use Rattle.record_words.specs.Words.{parts_of, of_parts, words_of, record_of}
use Rattle.exported_records.specs.RecordCalls.{fresh_call_refusal, fresh_call_exit, add_row_call_refusal, add_row_call_exit}
use Rattle.three_seconds.specs.ThreeSecond.{three_second_of, three_second_refusal}
use Rattle.exported_judgements.specs.ThreeSecondCall.{three_second_call_refusal, three_second_call_exit}
use Rattle.exported_judgements.specs.VerdictCall.{verdict_number, verdict_call_refusal, verdict_call_exit}
use Rattle.worked_numbers.proofs.Tables.{Alike}

-- ---- kifsang_fresh_record

fresh_for : ℕ → ℕ → List ℕ → ℕ × List ℕ
fresh_for system edition words =
    let setup = setup_of system edition in
    (fresh_call_refusal setup words, fresh_call_exit setup words)

fresh-records-worked :
    Alike
    ((fresh_for 10 0 (replicate 423 7), (0, 10 ∷ 0 ∷ replicate 421 0)) ∷
    (fresh_for 12 1 (replicate 423 7), (0, 12 ∷ 1 ∷ replicate 421 0)) ∷
    -- 102 before 1 before 19
    (fresh_for 11 2 (replicate 422 7), (102, replicate 422 7)) ∷
    (fresh_for 11 2 (replicate 424 7), (102, replicate 424 7)) ∷
    (fresh_for 11 2 (replicate 423 7), (1, replicate 423 7)) ∷
    (fresh_for 10 2 (replicate 423 7), (19, replicate 423 7)) ∷
    -- 102 alone
    (fresh_for 10 0 (replicate 422 7), (102, replicate 422 7)) ∷
    (fresh_for 12 1 (replicate 424 7), (102, replicate 424 7)) ∷
    [])
unfolding Alike fresh_for fresh_call_refusal fresh_call_exit fresh_refusal is_system is_edition words_of parts_of packed joined empty_record
fresh-records-worked = refl

-- ---- kifsang_verdict

-- a record of system 10 under A1 with so many windows, one number for all smoothed values, sums and peaks, and zeros for the latest rows
record_with : ℕ → ℕ → List ℕ
record_with windows value = 10 ∷ 1 ∷ windows ∷ (replicate 120 value ++ replicate 300 0)

verdict_for : List ℕ → ℕ → ℕ → ℕ → ℕ × ℕ
verdict_for words order letter scale =
    let q = asked order letter scale in
    (verdict_call_refusal words q, verdict_call_exit words q 77)

verdicts-worked :
    Alike
    ((verdict_for (record_with 1 2299988) 3 65 1000000, (0, 1)) ∷
    (verdict_for (record_with 1 2299989) 3 65 1000000, (0, 2)) ∷
    (verdict_for (record_with 1 2300012) 3 65 1000000, (0, 2)) ∷
    (verdict_for (record_with 1 2300013) 3 65 1000000, (0, 3)) ∷
    (verdict_for (record_with 1 3449988) 3 66 1000000, (0, 1)) ∷
    (verdict_for (record_with 1 3449989) 3 66 1000000, (0, 2)) ∷
    (verdict_for (record_with 1 3450012) 3 66 1000000, (0, 2)) ∷
    (verdict_for (record_with 1 3450013) 3 66 1000000, (0, 3)) ∷
    -- 102 before 7 before 10 before 6 before 15 before 11
    (verdict_for (replicate 422 7) 1 0 0, (102, 77)) ∷
    (verdict_for (replicate 424 7) 1 0 0, (102, 77)) ∷
    (verdict_for (replicate 423 7) 1 0 0, (7, 77)) ∷
    (verdict_for ((2 ^ 32 + 10) ∷ 1 ∷ 1 ∷ replicate 420 0) 1 0 0, (7, 77)) ∷
    (verdict_for (10 ∷ 2 ∷ 1 ∷ replicate 420 0) 1 0 0, (7, 77)) ∷
    (verdict_for (10 ∷ (2 ^ 32 + 1) ∷ 1 ∷ replicate 420 0) 1 0 0, (7, 77)) ∷
    (verdict_for (record_with 0 0) 1 0 0, (10, 77)) ∷
    (verdict_for (record_with 1 0) 1 0 0, (6, 77)) ∷
    (verdict_for (record_with 1 0) 41 0 0, (6, 77)) ∷
    (verdict_for (record_with 1 0) 40 64 0, (15, 77)) ∷
    (verdict_for (record_with 1 0) 40 67 0, (15, 77)) ∷
    (verdict_for (record_with 1 0) 40 97 0, (15, 77)) ∷
    (verdict_for (record_with 1 0) 40 98 0, (15, 77)) ∷
    (verdict_for (record_with 1 0) 40 65 0, (11, 77)) ∷
    (verdict_for (record_with 1 0) 40 66 (2 ^ 28 + 1), (11, 77)) ∷
    (verdict_for (record_with 1 0) 40 65 (2 ^ 28), (0, 1)) ∷
    (verdict_for (record_with 1 0) 40 66 (2 ^ 28), (0, 1)) ∷
    -- a sound record that no rows give: smoothed above sum and peak
    (verdict_for (10 ∷ 1 ∷ 1 ∷ (replicate 40 4294967295 ++ replicate 380 0)) 3 65 1000000, (0, 1)) ∷
    -- 102 alone
    (verdict_for (10 ∷ 1 ∷ 1 ∷ replicate 419 0) 3 65 1000000, (102, 77)) ∷
    (verdict_for (10 ∷ 1 ∷ 1 ∷ replicate 421 0) 3 65 1000000, (102, 77)) ∷
    [])
unfolding Alike verdict_for record_with verdict_call_refusal verdict_call_exit verdict_number record_of of_parts parts_from words_from unpacked tabulate verdict_refusal verdict_in average_of peak_of combined raised at_most is_over is_within limit_in_units peak_limit_in_units is_class class_with letter_of limit_of class_a_limit figure_in own_figures over_order whole times divide is_sound is_setup is_system is_edition none_above all_zero
verdicts-worked = refl

-- ---- kifsang_three_second_value

-- a record of system 10 under A1 with so many windows, zeros for smoothed values, sums and peaks, and the words of its latest rows
record_keeping : ℕ → List ℕ → List ℕ
record_keeping windows latest = 10 ∷ 1 ∷ windows ∷ (replicate 120 0 ++ latest)

-- 15 rows with 3 at order 1 and 4 at order 2, and zeros else
threes_and_fours : List ℕ
threes_and_fours = joined (replicate 15 (17179869187 ∷ replicate 19 0))

three_second_for : List ℕ → ℕ → ℕ × ℕ
three_second_for words order = (three_second_call_refusal words order, three_second_call_exit words order 77)

three-seconds-worked :
    Alike
    ((three_second_for (record_keeping 15 threes_and_fours) 1, (0, 3)) ∷
    (three_second_for (record_keeping 16 threes_and_fours) 2, (0, 4)) ∷
    (three_second_for (record_keeping 45000 threes_and_fours) 3, (0, 0)) ∷
    -- 15 at order 40 of the last row alone: 15 × 3² is 135 and 15 × 4² is 240, the square of 15 is 225
    (three_second_for (record_keeping 15 (replicate 299 0 ++ (64424509440 ∷ []))) 40, (0, 3)) ∷
    (three_second_for (record_keeping 15 (replicate 300 18446744073709551615)) 40, (0, 4294967295)) ∷
    -- 102 before 7 before 6 before 20
    (three_second_for (replicate 422 7) 0, (102, 77)) ∷
    (three_second_for (replicate 424 7) 0, (102, 77)) ∷
    (three_second_for (replicate 423 7) 0, (7, 77)) ∷
    (three_second_for (record_keeping 14 threes_and_fours) 0, (7, 77)) ∷
    (three_second_for (record_with 14 0) 0, (6, 77)) ∷
    (three_second_for (record_with 14 0) 41, (6, 77)) ∷
    (three_second_for (record_with 14 0) 40, (20, 77)) ∷
    (three_second_for (record_with 0 0) 1, (20, 77)) ∷
    -- a sound record that no rows give: smoothed above sum and peak
    (three_second_for (10 ∷ 1 ∷ 15 ∷ (replicate 40 4294967295 ++ (replicate 80 0 ++ threes_and_fours))) 1, (0, 3)) ∷
    -- 102 alone
    (three_second_for (10 ∷ 1 ∷ 15 ∷ replicate 419 0) 1, (102, 77)) ∷
    (three_second_for (10 ∷ 1 ∷ 15 ∷ replicate 421 0) 1, (102, 77)) ∷
    [])
unfolding Alike three_second_for record_keeping record_with threes_and_fours three_second_call_refusal three_second_call_exit three_second_refusal three_second_of sum_of_squares sum_over largest latest_values record_of of_parts parts_from words_from unpacked tabulate joined is_order is_sound is_setup is_system is_edition none_above all_zero
three-seconds-worked = refl

-- ---- kifsang_add_row

add_for : List ℕ → ℕ → ℕ → List ℕ → ℕ × List ℕ
add_for words system edition values =
    let setup = setup_of system edition in
    (add_row_call_refusal words setup values, add_row_call_exit words setup values)

add-rows-worked :
    Alike
    ((add_for (10 ∷ 0 ∷ replicate 421 0) 10 0 (replicate 40 8944), (0, 10 ∷ 0 ∷ 1 ∷ (replicate 120 8944 ++ (replicate 20 38414187504368 ++ replicate 280 0)))) ∷
    -- •8 in words: smoothed, sum and peak of each order; the row of zeros is the second of the latest
    (add_for (record_with 1 8944) 10 1 (replicate 40 0), (0, 10 ∷ 1 ∷ 2 ∷ replicate 40 7828 ++ (replicate 40 16772 ++ (replicate 40 8944 ++ replicate 300 0)))) ∷
    -- the weights 1000 and 7012 on the largest value
    (
      add_for (record_with 1 4294967295) 10 1 (replicate 40 0),
      (0, 10 ∷ 1 ∷ 2 ∷ replicate 40 3758900483 ++ (replicate 40 8053867778 ++ (replicate 40 4294967295 ++ replicate 300 0))),
    ) ∷
    -- and two of the largest values in a word
    (
      add_for (record_with 1 0) 10 1 (replicate 40 4294967295),
      (
        0,
        10 ∷ 1 ∷ 2 ∷ (replicate 120 536066812 ++ (replicate 20 0 ++ (replicate 20 18446744073709551615 ++ replicate 260 0))),
      ),
    ) ∷
    -- 102 before 7 before 1 before 19 before 8 before 9
    (add_for (replicate 422 7) 11 2 (replicate 40 1), (102, replicate 422 7)) ∷
    (add_for (replicate 423 7) 11 2 (replicate 39 1), (102, replicate 423 7)) ∷
    (add_for (replicate 423 7) 11 2 (replicate 41 1), (102, replicate 423 7)) ∷
    (add_for (replicate 423 7) 11 2 (replicate 40 1), (7, replicate 423 7)) ∷
    (add_for (10 ∷ 2 ∷ replicate 421 0) 10 2 (replicate 40 1), (7, 10 ∷ 2 ∷ replicate 421 0)) ∷
    (add_for (record_with 45000 7) 11 2 (replicate 40 1), (1, record_with 45000 7)) ∷
    (add_for (record_with 45000 7) 12 2 (replicate 40 1), (19, record_with 45000 7)) ∷
    (add_for (record_with 45000 7) 12 1 (replicate 40 1), (8, record_with 45000 7)) ∷
    (add_for (record_with 45000 7) 10 0 (replicate 40 1), (8, record_with 45000 7)) ∷
    (add_for (record_with 45000 7) 10 1 (replicate 40 1), (9, record_with 45000 7)) ∷
    -- 102 alone
    (add_for (10 ∷ 1 ∷ 1 ∷ replicate 419 0) 10 1 (replicate 40 1), (102, 10 ∷ 1 ∷ 1 ∷ replicate 419 0)) ∷
    (add_for (record_with 1 7) 10 1 (replicate 39 1), (102, record_with 1 7)) ∷
    (add_for (record_with 1 7) 10 1 (replicate 41 1), (102, record_with 1 7)) ∷
    [])
unfolding Alike add_for record_with add_row_call_refusal add_row_call_exit record_of of_parts parts_from words_from unpacked words_of parts_of packed joined add_row_refusal row_checks same_setup with_row with_latest first_values next_book book_at book_step smoothed_next smoothed_value nearest tabulate is_sound is_setup is_system is_edition none_above all_zero
add-rows-worked = refl
