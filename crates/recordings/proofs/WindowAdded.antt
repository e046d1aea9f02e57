-- A block with some bytes, after which the reading is not refused, added one window to a record that had room for it. So a reading that goes on comes to an end.
use mathlib.Core.List.{List}
use mathlib.Core.Path.{◌≡◌, refl, sym, ap, ◌∙◌}
use Prim.Native.Nat.{ℕ, ◌+◌, ◌<◌, ◌≤◌}
use native.Mathlib.Decide.{ℕ_discrete, dec_le}
use native.Mathlib.Omega.{arith}
use lib.IntN.{ℤ}
use lib.ListN.{length}
use Rattle.refusals.specs.Numbers.{no_refusal, short_window}
use Rattle.kinds.specs.declared.Kind.TheVariants.{HarmonicGroup}
use Rattle.rows.specs.declared.Row.{Row}
use Rattle.records.specs.declared.Observation.{Observation}
use Rattle.records.specs.Soundness.{most_windows}
use Rattle.observation.specs.Calls.{add_row_answer, with_row}
use Rattle.observation.proofs.SoundRecord.{accepted-call, add_row_answer-accepted}
use Rattle.recordings.specs.declared.Reading.{Reading}
use Rattle.groups.specs.Group.{window_row}
use Rattle.recordings.specs.Blocks.{window_bytes, text_lines_refusal, block_lines, samples_of, window_taken, block_of}
use Rattle.recordings.proofs.BlockLaws.{block_of-refused, block_of-text-line, block_of-short, block_of-whole}

pub with_row-windows : (o : Observation) (row : Row) → (with_row o row).windows ≡ o.windows + 1
unfolding with_row
with_row-windows o row = refl

-- a record with room before, and one window more after
abbrev pub OneMore : Reading → Reading → Type 0
OneMore before after =
    (before.observation.windows < most_windows) × (after.observation.windows ≡ before.observation.windows + 1)

window_taken-added :
    (reading : Reading) (window : List ℤ) → (window_taken reading window).refusal ≡ no_refusal →
    OneMore reading (window_taken reading window)
unfolding window_taken add_row_answer
window_taken-added reading window e =
    let o = reading.observation in
    let row = window_row HarmonicGroup o.setup window in (
      (accepted-call o row e).row-accepted.room,
      ap (λ (r : Observation). r.windows) (add_row_answer-accepted o row e) ∙ with_row-windows o row,
    )

pub block_of-added :
    (reading : Reading) (block : List ℕ) → (length block ≡ 0 → ⊥) → (block_of reading block).refusal ≡ no_refusal →
    OneMore reading (block_of reading block)
block_of-added reading block some after = by-refusal (ℕ_discrete reading.refusal no_refusal)
  where
    by_length :
        (e : reading.refusal ≡ no_refusal) → text_lines_refusal block (block_lines block) ≡ no_refusal →
        Dec (window_bytes ≤ length block) → OneMore reading (block_of reading block)
    by_length e none (yes whole) =
        let same = block_of-whole reading block e some none whole in
        rw same (window_taken-added reading (samples_of block) (rw same at after))
    by_length e none (no f) =
        let short = ap (λ (r : Reading). r.refusal) (block_of-short reading block e some none (omega arith)) in
        let same : short_window ≡ no_refusal = sym short ∙ after in
        absurd (omega arith)

    by_lines :
        (e : reading.refusal ≡ no_refusal) →
        Dec (text_lines_refusal block (block_lines block) ≡ no_refusal) → OneMore reading (block_of reading block)
    by_lines e (yes none) = by_length e none (dec_le window_bytes (length block))
    by_lines e (no f) =
        absurd (f (sym (ap (λ (r : Reading). r.refusal) (block_of-text-line reading block e some f)) ∙ after))

    by-refusal : Dec (reading.refusal ≡ no_refusal) → OneMore reading (block_of reading block)
    by-refusal (yes e) = by_lines e (ℕ_discrete (text_lines_refusal block (block_lines block)) no_refusal)
    by-refusal (no f) = absurd (f (sym (ap (λ (r : Reading). r.refusal) (block_of-refused reading block f)) ∙ after))
