-- `observe::observe` meets its contract. The loop's invariant: the calls for the first `i` windows are accepted and leave the record.
use Rattle.std.proofs.Common.{◌≡◌, Ok}
use Rattle.observation.specs.Calls.{record_answer_of}
use Rattle.observe.specs.Calls.{calls_after}
use Rattle.observe.proofs.observe.Given as goal

abbrev pub invariant-loop-i : goal.invariant-loop-i
invariant-loop-i l = calls_after l.kind l.setup l.recording l.start l.i ≡ record_answer_of (Ok l.observation)
