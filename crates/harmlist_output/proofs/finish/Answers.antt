-- `harmlist_output::finish` meets its contract. The line for a refusal is never refused, for its number is one of document 01's.
use Rattle.std.proofs.Common.{◌≤◌, arith, take}
use Rattle.std.proofs.lemmas.Grind.{common_steps}
use Rattle.listing.specs.RefusalLine.{refusal_line_length}
use Rattle.listing.proofs.RefusalLine.{refusal_line_written}
use Rattle.refusals.specs.Numbers.{largest_refusal}
use Rattle.harmlist_output.proofs.EndingLaws.{finish_refusal_le}
use Rattle.harmlist_output.proofs.finish.Goals as goal

pub unwrap-requires : goal.unwrap-requires
unwrap-requires c =
    let le : c.in-Some.refusal ≤ largest_refusal = omega (arith, c.in-Some.ensures.0, finish_refusal_le c.args.reading) in
    refusal_line_written c.in-Some.refusal (omega arith) _ (take refusal_line_length c.args.output.now) (grind (arith, common_steps)) c.fill_refusal_line.ensures.value
