use mir.Facts.{to_z-of_z}
use mir.Syntax.{w32}
use Rattle.std.proofs.Common.{◌*◌, sym, ap, ◌∙◌, arith, rules, length, length-drop}
use Rattle.std.proofs.lemmas.Grind.{common_steps}
use Rattle.std.proofs.lemmas.Result.{err_from_is_err_and}
use Rattle.algebra.specs.Lists.{tabulate}
use Rattle.algebra.proofs.Filling.{filled_more}
use Rattle.recordings.specs.TextLines.{text_line_bytes}
use Rattle.recordings.specs.InputRefusal.{first_of}
use Rattle.recordings.specs.Blocks.{text_lines_refusal}
use Rattle.recordings.specs.Steps.{sample_on}
use Rattle.recordings.proofs.Samples.{is_line, no_line, line_is, left_is, sample_at, stops_at, accepted_more}
use Rattle.recordings.proofs.text_lines.read_samples.Goals as goal

pub loop-i-init : goal.loop-i-init
unfolding tabulate text_lines_refusal first_of
loop-i-init c = grind (arith, common_steps)

pub returns-in_err-samples : goal.returns-in_err-samples
returns-in_err-samples c =
    let l = c.loop-i in
    let v = l.invariant in
    let step = c.in-Some.ensures.steps.0 in
    let text = c.args.text.now in
    let left = l.i-iterator.iter.rest.now in
    let p = err_from_is_err_and c.from_residual.result c.from_residual.ensures.1 in
    let line = line_is text left c.in-Some.line.now _ _ l.i-iterator.count v.size v.left step.1.0 step.1.1 in
    rw (p.1, p.2) (stops_at text l.i-iterator.count _ _ _ (is_line text left l.i-iterator.count v.left step.1.2) v.none (c.in_err-samples.ensures ∙ ap sample_on line))

pub bounds-samples-i : goal.bounds-samples-i
bounds-samples-i c =
    let l = c.loop-i in
    let step = c.in-Some.ensures.steps in
    omega (arith, step.1, is_line c.args.text.now l.i-iterator.iter.rest.now l.i-iterator.count l.invariant.left step.0.1.2, c.requires)

pub loop-i-preserved : goal.loop-i-preserved
loop-i-preserved c =
    let l = c.loop-i in
    let v = l.invariant in
    let step = c.in-Some.ensures.steps in
    let text = c.args.text.now in
    let left = l.i-iterator.iter.rest.now in
    let line = line_is text left c.in-Some.line.now _ _ l.i-iterator.count v.size v.left step.0.1.0 step.0.1.1 in
    let after = left_is text left c.in-Some.line.now _ _ l.i-iterator.count v.size v.left step.0.1.0 step.0.1.1 in
    let read = c.in_ok-samples.ensures ∙ ap sample_on line in
    let inside = is_line text left l.i-iterator.count v.left step.0.1.2 in
    let sample = to_z-of_z {w = w32} {z = c.in_ok-samples.field-0} (search rules) ∙ sample_at text l.i-iterator.count _ read in
    record {
      size = step.0.0 ∙ v.size;
      left = after ∙ rw step.2;
      few = omega (arith, step.2, step.0.1.2, length-drop (text_line_bytes * l.i-iterator.count) text, ap length v.left);
      none = rw step.2 (accepted_more text l.i-iterator.count _ v.none read);
      filled = rw (step.1, step.2) (filled_more _ _ c.args.samples.now _ v.filled _ (omega (arith, inside, c.requires)) sample);
    }

pub returns : goal.returns
returns c =
    let l = c.loop-i in
    let v = l.invariant in
    let all = no_line c.args.text.now l.i-iterator.iter.rest.now l.i-iterator.count v.left c.in-None.ensures.steps.0.1.0 v.few in
    record { refusal_is = sym (rw all at v.none); samples-are = λ e. rw all at v.filled }
