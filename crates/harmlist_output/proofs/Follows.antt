-- An input that is read in blocks gives what harmlist writes for it: the invariant `Holds` begins with the first line, is kept by each window, and says what is written at the end.
use mathlib.Core.List.{List, [], ◌∷◌, ◌++◌, append-nil, append_assoc}
use mathlib.Core.Logic.{⊎_elim}
use mathlib.Core.Path.{◌≡◌, refl, sym, ap, ◌∙◌}
use Prim.Native.Nat.{ℕ, ◌+◌, ◌/◌, ◌<◌, ◌≤◌}
use native.Mathlib.Decide.{ℕ_discrete}
use native.Mathlib.Omega.{arith}
use lib.ListN.{length, length-append}
use Rattle.refusals.specs.Numbers.{no_refusal, not_a_column, short_window, no_window, largest_refusal}
use Rattle.listing.specs.Listing.{listing_text}
use Rattle.listing.specs.RefusalLine.{refusal_line}
use Rattle.columns.specs.Calls.{column_width}
use Rattle.windows.specs.Window.{window_length}
use Rattle.recordings.specs.declared.Reading.{Reading}
use Rattle.recordings.specs.TextLines.{text_line_bytes, text_line_count}
use Rattle.recordings.specs.InputRefusal.{text_line_refusal, first_of, refusal_before, end_refusal}
use Rattle.recordings.specs.Windows.{window_count}
use Rattle.harmlist_output.specs.Output.{listing_for, harmlist_output}
use Rattle.recordings.specs.Blocks.{window_bytes, begin_of, text_lines_refusal, block_lines, refused_with, block_of}
use Rattle.harmlist_output.specs.Ending.{output_of}
use Rattle.harmlist_output.specs.Follows.{reading_after, WholeButLast, FollowsDefinition, RefusedStays, StopsAtRefusal}
use Rattle.algebra.specs.Lists.{joined}
use Rattle.recordings.proofs.NumberOnLine.{text_line_number-cut}
use Rattle.recordings.proofs.FirstLine.{text_line_refusal-first}
use Rattle.recordings.proofs.BlockLaws.{block_lines-short, block_of-refused, block_of-empty, block_of-text-line, block_of-short}
use Rattle.recordings.proofs.TextLines.{lines_to}
use Rattle.recordings.proofs.WindowRefusals.{refusal_before-stays, refusal_before-short, short-lines, text_lines_refusal-le, refusal_before-le}
use Rattle.harmlist_output.proofs.Output.{harmlist_output-text-line, harmlist_output-at-end, harmlist_output-listing, end_refusal-no-window, end_refusal-windows, end_refusal-short}
use Rattle.harmlist_output.proofs.EndingLaws.{finish_refusal-refused, finish_refusal-no-window, finish_refusal-accepted, output_of-refused, output_of-accepted}
use Rattle.recordings.proofs.Holds.{GoesOn, Holds, begins}
use Rattle.recordings.proofs.WindowHolds.{steps}

-- a reading that a line ended, and a text with that line's refusal
refused-output : (reading : Reading) (text : List ℕ) → reading.refusal ≤ largest_refusal
    → (reading.refusal ≡ no_refusal → ⊥) → refusal_before text (text_line_count text) ≡ reading.refusal
    → output_of reading ≡ harmlist_output text
refused-output reading text le f same =
    output_of-refused reading reading.refusal (finish_refusal-refused reading le f) f
    ∙ sym (harmlist_output-text-line text reading.refusal same f)

module _ (p : List ℕ) (w : ℕ) (reading : Reading) (h : Holds p w reading) where
  count_of : text_line_count p ≡ lines_to w
  unfolding text_line_count
  count_of = rw h.long (omega arith)

  refusal-le : reading.refusal ≤ largest_refusal
  refusal-le = rw h.refusal_is (refusal_before-le p (lines_to w))

  module _ (e : reading.refusal ≡ no_refusal) where
    goes-at-end : GoesOn p w reading
    goes-at-end = h.goes_on e

    none_of : refusal_before p (text_line_count p) ≡ no_refusal
    none_of = rw count_of (sym h.refusal_is ∙ e)

    windows-of : window_count p ≡ w
    unfolding window_count
    windows-of = rw count_of (omega arith)

    listing-is : 0 < w → listing_text reading.group reading.subgroup reading.observation.smoothed ≡ listing_for p
    unfolding listing_for
    listing-is l = rw (windows-of, goes-at-end.group-is l, goes-at-end.subgroup-is l, goes-at-end.record_is)

    ends_on : output_of reading ≡ harmlist_output p
    ends_on = by_count (ℕ_discrete w 0)
      where
        no-window : no_window ≡ no_refusal → ⊥
        no-window z = omega arith

        by_count : Dec (w ≡ 0) → output_of reading ≡ harmlist_output p
        by_count (yes z) =
            let end : end_refusal (text_line_count p) ≡ no_window = rw (count_of, z) end_refusal-no-window in
            output_of-refused reading no_window (finish_refusal-no-window reading e goes-at-end.sound (goes-at-end.windows-are ∙ z)) no-window
            ∙ sym (harmlist_output-at-end p none_of no_window end no-window)
        by_count (no f) =
            let some : 0 < w = omega arith in
            let end : end_refusal (text_line_count p) ≡ no_refusal = rw count_of (end_refusal-windows w some) in
            output_of-accepted reading (finish_refusal-accepted reading e goes-at-end.sound (λ z. f (sym goes-at-end.windows-are ∙ z)))
            ∙ listing-is some
            ∙ sym (harmlist_output-listing p none_of end)

  ends : output_of reading ≡ harmlist_output p
  ends = by-refusal (ℕ_discrete reading.refusal no_refusal)
    where
      by-refusal : Dec (reading.refusal ≡ no_refusal) → output_of reading ≡ harmlist_output p
      by-refusal (yes e) = ends_on e
      by-refusal (no f) = refused-output reading p refusal-le f (rw count_of (sym h.refusal_is))

  -- fewer bytes than a window's lines after it
  module _ (block : List ℕ) (some : 0 < length block) (short : length block < window_bytes) where
    lines_left : ℕ
    lines_left = (length block + column_width) / text_line_bytes

    lines-left-bounds : (0 < lines_left) × (lines_left ≤ window_length)
    unfolding lines_left
    lines-left-bounds = (omega arith, omega arith)

    count-short : text_line_count (p ++ block) ≡ lines_to w + lines_left
    unfolding text_line_count lines_left
    count-short = rw length-append (omega (arith, h.long))

    lines-short : block_lines block ≡ lines_left
    unfolding lines_left
    lines-short = block_lines-short block short

    module _ (e : reading.refusal ≡ no_refusal) where
      none-empty : length block ≡ 0 → ⊥
      none-empty z = omega arith

      refusal-short : refusal_before (p ++ block) (text_line_count (p ++ block)) ≡ text_lines_refusal block lines_left
      refusal-short =
          rw count-short (refusal_before-short p block w h.long (sym h.refusal_is ∙ e) lines_left lines-left-bounds.1 short)

      by-lines-left : Dec (text_lines_refusal block lines_left ≡ no_refusal) → output_of (block_of reading block) ≡ harmlist_output (p ++ block)
      by-lines-left (yes none) =
          let same = block_of-short reading block e none-empty (rw lines-short none) short in
          let few = short-lines block lines_left lines-left-bounds.1 short none in
          let end : end_refusal (text_line_count (p ++ block)) ≡ short_window = rw count-short (end_refusal-short w lines_left lines-left-bounds.0 few) in
          ap output_of same
          ∙ output_of-refused (refused_with short_window reading) short_window (finish_refusal-refused (refused_with short_window reading) (omega arith) is-short) is-short
          ∙ sym (harmlist_output-at-end (p ++ block) (refusal-short ∙ none) short_window end is-short)
        where
          is-short : short_window ≡ no_refusal → ⊥
          is-short z = omega arith
      by-lines-left (no f) =
          let same : block_of reading block ≡ refused_with (text_lines_refusal block lines_left) reading =
          rw lines-short at (block_of-text-line reading block e none-empty (λ z. f (rw lines-short at z))) in
          ap output_of same
          ∙ refused-output (refused_with (text_lines_refusal block lines_left) reading) (p ++ block) (text_lines_refusal-le block lines_left) f refusal-short

    ends-short : output_of (block_of reading block) ≡ harmlist_output (p ++ block)
    ends-short = by-refusal (ℕ_discrete reading.refusal no_refusal)
      where
        by-refusal : Dec (reading.refusal ≡ no_refusal) → output_of (block_of reading block) ≡ harmlist_output (p ++ block)
        by-refusal (yes e) = by-lines-left e (ℕ_discrete (text_lines_refusal block lines_left) no_refusal)
        by-refusal (no f) =
            ap output_of (block_of-refused reading block f)
            ∙ refused-output reading (p ++ block) refusal-le f
            (rw count-short (refusal_before-stays p block w h.long lines_left (λ z. f (h.refusal_is ∙ z)) ∙ sym h.refusal_is))

-- ---- the theorems

nil-of-length : (l : List ℕ) → length l ≡ 0 → l ≡ []
nil-of-length [] e = refl
nil-of-length (x ∷ l) e = absurd (omega arith)

stays-at-none : (reading : Reading) (block : List ℕ) → length block ≡ 0 → block_of reading block ≡ reading
stays-at-none reading block z = by-refusal (ℕ_discrete reading.refusal no_refusal)
  where
    by-refusal : Dec (reading.refusal ≡ no_refusal) → block_of reading block ≡ reading
    by-refusal (yes e) = block_of-empty reading block e z
    by-refusal (no f) = block_of-refused reading block f

last_block : (p block : List ℕ) (w : ℕ) (reading : Reading) → Holds p w reading → length block ≤ window_bytes
    → output_of (block_of reading block) ≡ harmlist_output (p ++ block)
last_block p block w reading h le = by_length (ℕ_discrete (length block) 0) (ℕ_discrete (length block) window_bytes)
  where
    by_length : Dec (length block ≡ 0) → Dec (length block ≡ window_bytes) → output_of (block_of reading block) ≡ harmlist_output (p ++ block)
    by_length (yes z) whole =
        ap output_of (stays-at-none reading block z)
        ∙ ends p w reading h
        ∙ ap harmlist_output (sym (ap (λ (b : List ℕ). p ++ b) (nil-of-length block z) ∙ append-nil p))
    by_length (no f) (yes whole) =
        ends (p ++ block) (w + 1) (block_of reading block) (steps p block w reading h whole)
    by_length (no f) (no g) = ends-short p w reading h block (omega arith) (omega arith)

follows : (blocks : List (List ℕ)) (p : List ℕ) (w : ℕ) (reading : Reading) → Holds p w reading → WholeButLast blocks
    → output_of (reading_after reading blocks) ≡ harmlist_output (p ++ joined blocks)
unfolding reading_after joined WholeButLast
follows [] p w reading h cut = ends p w reading h ∙ ap harmlist_output (sym (append-nil p))
follows (block ∷ []) p w reading h cut =
    last_block p block w reading h cut ∙ ap (λ (b : List ℕ). harmlist_output (p ++ b)) (sym (append-nil block))
follows (block ∷ next ∷ blocks) p w reading h cut =
    follows (next ∷ blocks) (p ++ block) (w + 1) (block_of reading block) (steps p block w reading h cut.0) cut.1
    ∙ ap harmlist_output (append_assoc p block (joined (next ∷ blocks)))

-- an input that is shorter than a line
text_line_refusal-short-first : (first : List ℕ) → length first < text_line_bytes → text_line_refusal first 0 ≡ not_a_column
text_line_refusal-short-first first h = text_line_refusal-first first ∙ rw (text_line_number-cut first 0 (omega arith))

short-first : (first : List ℕ) → length first < text_line_bytes → output_of (begin_of first) ≡ harmlist_output first
unfolding begin_of text_line_count refusal_before first_of end_refusal
short-first first h =
    output_of-refused (begin_of first) not_a_column (finish_refusal-refused (begin_of first) (rw refused (omega arith)) (rw refused no_line) ∙ refused) no_line
    ∙ sym (by_length (ℕ_discrete (length first) 0))
  where
    refused : text_line_refusal first 0 ≡ not_a_column
    refused = text_line_refusal-short-first first h

    no_line : not_a_column ≡ no_refusal → ⊥
    no_line z = omega arith

    by_length : Dec (length first ≡ 0) → harmlist_output first ≡ refusal_line not_a_column
    by_length (yes z) =
        let count : text_line_count first ≡ 0 = rw z in
        harmlist_output-at-end first (rw count) not_a_column (rw count) no_line
    by_length (no f) =
        let count : text_line_count first ≡ 1 = omega arith in
        harmlist_output-text-line first not_a_column (rw count refused) no_line

pub follows-definition : FollowsDefinition
unfolding reading_after joined
follows-definition first blocks cut =
    ⊎_elim
    (λ (c : (length first ≡ text_line_bytes) × WholeButLast blocks). follows blocks first 0 (begin_of first) (begins first c.0) c.1)
    (λ (c : (length first < text_line_bytes) × (blocks ≡ [])).
    rw c.1 (short-first first c.0 ∙ ap harmlist_output (sym (append-nil first))))
    cut

pub refused-stays : RefusedStays
unfolding reading_after
refused-stays reading [] f = refl
refused-stays reading (block ∷ blocks) f = rw (block_of-refused reading block f) (refused-stays reading blocks f)

pub reading_after-append : (reading : Reading) (blocks more : List (List ℕ))
    → reading_after reading (blocks ++ more) ≡ reading_after (reading_after reading blocks) more
unfolding reading_after
reading_after-append reading [] more = refl
reading_after-append reading (block ∷ blocks) more = reading_after-append (block_of reading block) blocks more

pub stops-at-refusal : StopsAtRefusal
stops-at-refusal first blocks more cut f =
    let after = reading_after (begin_of first) blocks in
    ap output_of (sym (reading_after-append (begin_of first) blocks more ∙ refused-stays after more f))
    ∙ follows-definition first (blocks ++ more) cut
