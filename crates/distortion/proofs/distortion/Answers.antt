-- `distortion::distortion` meets its contract: the root of the scaled sum divided by the first value.
use Rattle.std.proofs.Common.{◌≡◌, ◌<◌, ◌^◌, ℕ, sym, length, get_or, drop, length-drop, ne_eqb, rules, arith}
use Rattle.std.proofs.lemmas.List.{take_all}
use Rattle.std.proofs.lemmas.Bool.{eqb-false}
use Rattle.refusals.proofs.Answers.{no-fault}
use Rattle.rows.specs.Orders.{order_count}
use Rattle.distortion.specs.Distortion.{distortion_answer}
use Rattle.distortion.proofs.RowDistortion.{distortion-quotient}
use Rattle.distortion.proofs.distortion.Goals as goal

pub returns : goal.returns
unfolding distortion_answer
returns c =
    let values = c.args.values in
    let orders : length values ≡ order_count = search rules in
    let fit : (i : ℕ) → get_or values i 0 < 2 ^ 32 = λ i. search rules in
    let present = eqb-false (get_or values 0 0) 0 (no-fault _ 12 0 (omega arith) (sym c.in_ok-refuse_if.ensures)).0 in
    let others = take_all 39 (drop 1 values) (omega (arith, length-drop 1 values)) in
    rw (ne_eqb (get_or values 0 0) 0 present, c.from.ensures, c.wide_root.ensures, c.scaled-radicand.ensures, c.sum_of_squares.ensures, others, distortion-quotient values orders fit (omega arith))
