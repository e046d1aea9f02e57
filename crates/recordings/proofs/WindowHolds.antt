-- The invariant holds after one window more.
use mathlib.Core.Bool.{cond}
use mathlib.Core.List.{List, ◌++◌}
use mathlib.Core.Path.{◌≡◌, refl, sym, ap, ◌∙◌}
use Prim.Native.Nat.{ℕ, ◌+◌, ◌-◌, ◌*◌, ◌<◌, ◌≤◌}
use native.Mathlib.Decide.{ℕ_discrete, dec_le}
use native.Mathlib.Omega.{arith}
use borrow.Author.Tests.{eq-eqb, ne_eqb, le-leb, lt-leb}
use lib.Dec.{eqb, leb}
use lib.ListN.{length, length-append}
use Rattle.refusals.specs.Numbers.{no_refusal, record_full}
use Rattle.windows.specs.Window.{window_length}
use Rattle.kinds.specs.declared.Kind.{Kind}
use Rattle.kinds.specs.declared.Kind.TheVariants.{HarmonicGroup, HarmonicSubgroup}
use Rattle.groups.proofs.GroupSum.{window_row-fits, window_row-setup}
use Rattle.rows.specs.declared.Row.{Row}
use Rattle.records.specs.declared.Observation.{Observation}
use Rattle.records.specs.Soundness.{most_windows}
use Rattle.observation.specs.Calls.{add_row_refusal, add_row_answer, with_row}
use Rattle.records.proofs.SoundParts.{sound-parts}
use Rattle.observation.proofs.SoundRecord.{with-row-sound, add_row_refusal-own, add_row_answer-accepted}
use Rattle.observation.proofs.RecordAfter.{record-after-tabulate}
use Rattle.recordings.specs.declared.Reading.{Reading}
use Rattle.recordings.specs.TextLines.{text_line_bytes}
use Rattle.recordings.specs.InputRefusal.{refusal_before}
use Rattle.recordings.specs.Windows.{setup_in, window_in, rows_in, record_in}
use Rattle.groups.specs.Group.{window_row}
use Rattle.recordings.specs.Blocks.{window_bytes, text_lines_refusal, block_lines, samples_of, refused_with, window_taken, block_of}
use Rattle.recordings.proofs.BlockLaws.{block_lines-whole, block_of-refused, block_of-text-line, block_of-whole}
use Rattle.recordings.proofs.WindowAdded.{with_row-windows}
use Rattle.recordings.proofs.TextLines.{lines_to, full_at, setup_in-front, record_in-front, window_in-after}
use Rattle.recordings.proofs.WindowRefusals.{refusal_before-stays, refusal_before-window}
use Rattle.recordings.proofs.Holds.{GoesOn, Holds}

-- full where the text's next window is the one after the most
full_is : (w : ℕ) → w ≤ most_windows → cond (leb most_windows w) record_full no_refusal ≡ full_at (lines_to w + (window_length - 1))
full_is w h = by_count (ℕ_discrete w most_windows)
  where
    by_count : Dec (w ≡ most_windows) → cond (leb most_windows w) record_full no_refusal ≡ full_at (lines_to w + (window_length - 1))
    by_count (yes e) = rw (le-leb most_windows w (omega arith), eq-eqb (lines_to w + (window_length - 1)) (window_length * (most_windows + 1)) (omega arith))
    by_count (no f) = rw (lt-leb most_windows w (omega arith), ne_eqb (lines_to w + (window_length - 1)) (window_length * (most_windows + 1)) (λ e. omega arith))

not_full : (w : ℕ) → cond (leb most_windows w) record_full no_refusal ≡ no_refusal → w < most_windows
not_full w e = by_count (dec_le most_windows w)
  where
    by_count : Dec (most_windows ≤ w) → w < most_windows
    by_count (yes h) = absurd (full (rw (le-leb most_windows w h) at e))
      where
        full : record_full ≡ no_refusal → ⊥
        full z = omega arith
    by_count (no f) = omega arith

-- the row that a window adds to the record
group_row : Reading → List ℕ → Row
group_row reading block = window_row HarmonicGroup reading.observation.setup (samples_of block)

with_row-setup : (o : Observation) (row : Row) → (with_row o row).setup ≡ o.setup
unfolding with_row
with_row-setup o row = refl

record_in-next : (text : List ℕ) (w : ℕ)
    → record_in text (w + 1) ≡ (add_row_answer (record_in text w) (window_row HarmonicGroup (setup_in text) (window_in text w))).observation
unfolding record_in rows_in
record_in-next text w = record-after-tabulate _ w _

lines-of-next : (w : ℕ) → lines_to w + window_length ≡ lines_to (w + 1)
lines-of-next w = omega arith

module _ (p block : List ℕ) (w : ℕ) (reading : Reading) (h : Holds p w reading) (whole : length block ≡ window_bytes) where
  long-next : length (p ++ block) ≡ text_line_bytes * lines_to (w + 1)
  long-next = rw length-append (omega (arith, h.long, whole))

  some_bytes : length block ≡ 0 → ⊥
  some_bytes e = omega arith

  lines_are : block_lines block ≡ window_length
  lines_are = block_lines-whole block (omega arith)

  refused-next : (reading.refusal ≡ no_refusal → ⊥) → Holds (p ++ block) (w + 1) (block_of reading block)
  refused-next f =
      rw (block_of-refused reading block f)
      (record {
        long = long-next;
        refusal_is =
            h.refusal_is
            ∙ sym (refusal_before-stays p block w h.long window_length (λ e. f (h.refusal_is ∙ e)))
            ∙ ap (refusal_before (p ++ block)) (lines-of-next w);
        goes_on = λ e. absurd (f e);
      })

  module _ (e : reading.refusal ≡ no_refusal) where
    before : refusal_before p (lines_to w) ≡ no_refusal
    before = sym h.refusal_is ∙ e

    refusal-next : refusal_before (p ++ block) (lines_to (w + 1))
        ≡ cond (eqb (text_lines_refusal block window_length) no_refusal) (full_at (lines_to w + (window_length - 1))) (text_lines_refusal block window_length)
    refusal-next = sym (ap (refusal_before (p ++ block)) (lines-of-next w)) ∙ refusal_before-window p block w h.long before

    text-line-next : (text_lines_refusal block window_length ≡ no_refusal → ⊥) → Holds (p ++ block) (w + 1) (block_of reading block)
    text-line-next f =
        let same : block_of reading block ≡ refused_with (text_lines_refusal block window_length) reading =
        rw lines_are at (block_of-text-line reading block e some_bytes (λ z. f (rw lines_are at z))) in
        rw same
        (record {
          long = long-next;
          refusal_is = sym (refusal-next ∙ rw (ne_eqb (text_lines_refusal block window_length) no_refusal f));
          goes_on = λ z. absurd (f z);
        })

    module _ (none : text_lines_refusal block window_length ≡ no_refusal) where
      goes : GoesOn p w reading
      goes = h.goes_on e

      taken : block_of reading block ≡ window_taken reading (samples_of block)
      taken = block_of-whole reading block e some_bytes (rw lines_are none) (omega arith)

      count-le : w ≤ most_windows
      count-le = rw goes.windows-are at (sound-parts reading.observation goes.sound).windows-le

      window-refusal : add_row_refusal reading.observation (group_row reading block) ≡ cond (leb most_windows w) record_full no_refusal
      unfolding group_row
      window-refusal =
          add_row_refusal-own reading.observation (group_row reading block) goes.sound (window_row-setup HarmonicGroup _ _)
          ∙ rw goes.windows-are

      setup-next : setup_in (p ++ block) ≡ reading.observation.setup
      setup-next = setup_in-front p block (omega (arith, h.long)) ∙ sym goes.setup-is

      window-next : window_in (p ++ block) w ≡ samples_of block
      window-next = window_in-after p block w h.long

      row_next : (kind : Kind)
          → window_row kind (setup_in (p ++ block)) (window_in (p ++ block) (w + 1 - 1))
          ≡ window_row kind reading.observation.setup (samples_of block)
      row_next kind =
          let last : w + 1 - 1 ≡ w = omega arith in
          rw (last, setup-next, window-next)

      record-is-next : (add_row_answer reading.observation (group_row reading block)).observation ≡ record_in (p ++ block) (w + 1)
      unfolding group_row
      record-is-next =
          let front : record_in (p ++ block) w ≡ reading.observation = record_in-front p block w h.long ∙ sym goes.record_is in
          sym (record_in-next (p ++ block) w ∙ rw (front, setup-next, window-next))

      goes-next : add_row_refusal reading.observation (group_row reading block) ≡ no_refusal
          → GoesOn (p ++ block) (w + 1) (window_taken reading (samples_of block))
      unfolding window_taken group_row
      goes-next z =
          let o = reading.observation in
          let row = window_row HarmonicGroup o.setup (samples_of block) in
          let room : o.windows < most_windows = rw goes.windows-are (not_full w (sym window-refusal ∙ z)) in
          let added = add_row_answer-accepted o row z in
          record {
            setup-is = ap (λ (r : Observation). r.setup) added ∙ with_row-setup o row ∙ sym setup-next;
            windows-are = ap (λ (r : Observation). r.windows) added ∙ with_row-windows o row ∙ rw goes.windows-are;
            sound = rw added (with-row-sound o row goes.sound room (window_row-fits HarmonicGroup o.setup (samples_of block)));
            record_is = record-is-next;
            group-is = λ l. ap (λ (r : Row). r.values) (sym (row_next HarmonicGroup));
            subgroup-is = λ l. ap (λ (r : Row). r.values) (sym (row_next HarmonicSubgroup));
          }

      window-next-holds : Holds (p ++ block) (w + 1) (block_of reading block)
      unfolding window_taken group_row add_row_answer
      window-next-holds =
          rw taken
          (record {
            long = long-next;
            refusal_is = window-refusal ∙ full_is w count-le ∙ sym (refusal-next ∙ rw (eq-eqb (text_lines_refusal block window_length) no_refusal none));
            goes_on = goes-next;
          })

  pub steps : Holds (p ++ block) (w + 1) (block_of reading block)
  steps = by-refusal (ℕ_discrete reading.refusal no_refusal)
    where
      by_lines : (e : reading.refusal ≡ no_refusal) → Dec (text_lines_refusal block window_length ≡ no_refusal)
          → Holds (p ++ block) (w + 1) (block_of reading block)
      by_lines e (yes none) = window-next-holds e none
      by_lines e (no f) = text-line-next e f

      by-refusal : Dec (reading.refusal ≡ no_refusal) → Holds (p ++ block) (w + 1) (block_of reading block)
      by-refusal (yes e) = by_lines e (ℕ_discrete (text_lines_refusal block window_length) no_refusal)
      by-refusal (no f) = refused-next f
