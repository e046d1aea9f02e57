-- The blocks that were read so far, one block more, how many more may come, and what the whole gives, also with more after it.
use mathlib.Core.Bool.{true, false, cond, true≢false}
use mathlib.Core.List.{List, [], ◌∷◌, ◌++◌, append-nil, append_assoc}
use mathlib.Core.Logic.{inl, inr, ⊎_elim}
use mathlib.Core.Path.{◌≡◌, refl, sym, ap, ◌∙◌}
use Prim.Native.Nat.{ℕ, zero, suc, ◌+◌, ◌-◌, ◌*◌, ◌<◌, ◌≤◌}
use native.Mathlib.Decide.{ℕ_discrete, dec_le}
use native.Mathlib.Omega.{arith}
use borrow.Author.Tests.{eq-eqb, ne_eqb, lt-ltb, le-ltb, ltb-true, ltb-false}
use lib.Dec.{eqb}
use lib.ListN.{length, take, drop, take-append-drop, length-drop}
use lib.Seq.{length-take-le}
use Rattle.refusals.specs.Numbers.{no_refusal}
use Rattle.records.specs.Soundness.{most_windows}
use Rattle.recordings.specs.declared.Reading.{Reading}
use Rattle.recordings.specs.TextLines.{text_line_bytes}
use Rattle.recordings.specs.Blocks.{window_bytes, begin_of, block_of}
use Rattle.harmlist_output.specs.Output.{harmlist_output}
use Rattle.harmlist_output.specs.Ending.{output_of}
use Rattle.harmlist_output.specs.Follows.{reading_after, WholeButLast, CutInBlocks}
use Rattle.algebra.specs.Lists.{joined}
use Rattle.recordings.proofs.WindowAdded.{block_of-added}
use Rattle.harmlist_output.proofs.Follows.{follows-definition, reading_after-append, stops-at-refusal}
use Rattle.harmlist.specs.declared.Input.{Input}
use Rattle.harmlist.specs.declared.Input.TheVariants.{Ended, Whole}
use Rattle.harmlist.specs.Input.{reading_of, has_ended, IsPrefixLen, BytesRead, LineRead, BlockRead, AllWhole, BlocksRead, TextRead}

-- ---- the bytes of one read

-- a count that lies in the buffer is that of its front
pub prefix_len-of_le : (n : ℕ) (buffer : List ℕ) → n ≤ length buffer → IsPrefixLen n buffer
prefix_len-of_le n buffer within = (within, sym (length-take-le n buffer within))

-- the front of a buffer is what was read
module _ (most : ℕ) (read_as : List ℕ → Reading) (buffer : List ℕ) (count : ℕ) (room : length buffer ≡ most) (counts : IsPrefixLen count buffer) where
  pub ended_read : count < most → BytesRead most read_as (Ended (read_as (take count buffer)))
  ended_read few = record {
    bytes = take count buffer;
    fits = omega (arith, counts);
    ended-is = sym (lt-ltb _ _ (omega (arith, counts)));
    reading-is = refl;
  }

  pub whole_read : most ≤ count → BytesRead most read_as (Whole (read_as (take count buffer)))
  whole_read all = record {
    bytes = take count buffer;
    fits = omega (arith, counts);
    ended-is = sym (le-ltb _ _ (omega (arith, counts)));
    reading-is = refl;
  }

-- all the bytes that were asked for
bytes_whole :
    (most : ℕ) (read_as : List ℕ → Reading) (input : Input) (read : BytesRead most read_as input) →
    has_ended input ≡ false →
    length read.bytes ≡ most
bytes_whole most read_as input read e = omega (arith, read.fits, ltb-false (length read.bytes) most (sym read.ended-is ∙ e))

-- ---- lists of blocks

whole-and-one : (blocks : List (List ℕ)) (block : List ℕ) → AllWhole blocks → length block ≡ window_bytes → AllWhole (blocks ++ (block ∷ []))
unfolding AllWhole
whole-and-one [] block whole e = (e, tt)
whole-and-one (first ∷ blocks) block whole e = (whole.0, whole-and-one blocks block whole.1 e)

one-and-more : (block : List ℕ) (more : List (List ℕ)) → length block ≡ window_bytes → WholeButLast more → WholeButLast (block ∷ more)
unfolding WholeButLast
one-and-more block [] e cut = omega (arith, e)
one-and-more block (next ∷ more) e cut = (e, cut)

whole-and-more : (blocks more : List (List ℕ)) → AllWhole blocks → WholeButLast more → WholeButLast (blocks ++ more)
unfolding AllWhole
whole-and-more [] more whole cut = cut
whole-and-more (block ∷ blocks) more whole cut = one-and-more block (blocks ++ more) whole.0 (whole-and-more blocks more whole.1 cut)

whole-and-last :
    (blocks : List (List ℕ)) (block : List ℕ) → AllWhole blocks → length block ≤ window_bytes →
    WholeButLast (blocks ++ (block ∷ []))
unfolding WholeButLast
whole-and-last blocks block whole le = whole-and-more blocks (block ∷ []) whole le

whole-but-last : (blocks : List (List ℕ)) → AllWhole blocks → WholeButLast blocks
unfolding WholeButLast
whole-but-last blocks whole = rw (append-nil blocks) at (whole-and-more blocks [] whole tt)

joined-append : (blocks more : List (List ℕ)) → joined (blocks ++ more) ≡ joined blocks ++ joined more
unfolding joined
joined-append [] more = refl
joined-append (block ∷ blocks) more =
    ap (λ (rest : List ℕ). block ++ rest) (joined-append blocks more) ∙ sym (append_assoc block (joined blocks) (joined more))

-- any bytes in blocks
pub record Blocked (bytes : List ℕ) : Type 0 where
  pub blocks : List (List ℕ)
  pub cut : WholeButLast blocks
  pub joined-are : joined blocks ≡ bytes

in_blocks : (most : ℕ) (bytes : List ℕ) → length bytes ≤ window_bytes * suc most → Blocked bytes
unfolding WholeButLast joined
in_blocks zero bytes h = record { blocks = bytes ∷ []; cut = omega arith; joined-are = append-nil bytes }
in_blocks (suc most) bytes h = by_length (in_blocks most (drop window_bytes bytes)) (dec_le (length bytes) window_bytes)
  where
    by_length :
        (length (drop window_bytes bytes) ≤ window_bytes * suc most → Blocked (drop window_bytes bytes)) →
        Dec (length bytes ≤ window_bytes) → Blocked bytes
    by_length after (yes short) = record { blocks = bytes ∷ []; cut = short; joined-are = append-nil bytes }
    by_length after (no f) =
        let front = take window_bytes bytes in
        let rest = after (rw (length-drop window_bytes bytes) (omega arith)) in
        record {
          blocks = front ∷ rest.blocks;
          cut = one-and-more front rest.blocks (length-take-le window_bytes bytes (omega arith)) rest.cut;
          joined-are = ap (λ (after : List ℕ). front ++ after) rest.joined-are ∙ take-append-drop window_bytes bytes;
        }

reading-and-one :
    (first : Reading) (blocks : List (List ℕ)) (block : List ℕ) →
    reading_after first (blocks ++ (block ∷ [])) ≡ block_of (reading_after first blocks) block
unfolding reading_after
reading-and-one first blocks block = reading_after-append first blocks (block ∷ [])

-- ---- the reading of blocks

-- the reading after some blocks, all of them whole
pub record SoFar (first reading : Reading) : Type 0 where
  pub blocks : List (List ℕ)
  pub whole : AllWhole blocks
  pub reading-is : reading ≡ reading_after first blocks

pub begins : (first : Reading) → SoFar first first
unfolding AllWhole reading_after
begins first = record { blocks = []; whole = tt; reading-is = refl }

-- how many blocks may still come: none after a refusal, else those that fill the record and one more
abbrev pub blocks_left : Reading → ℕ
blocks_left reading =
    cond (eqb reading.refusal no_refusal) (1 + (most_windows - reading.observation.windows)) 0

module _ (first reading : Reading) (so_far : SoFar first reading) where
  -- at a refusal
  pub stops : (reading.refusal ≡ no_refusal → ⊥) → BlocksRead first (Whole reading)
  stops f = record {
    blocks = so_far.blocks;
    cut = whole-but-last so_far.blocks so_far.whole;
    reading-is = so_far.reading-is;
    ends = inr (so_far.whole, f);
  }

  module _ (input : Input) (read : BlockRead reading input) where
    reading-next : reading_of input ≡ reading_after first (so_far.blocks ++ (read.bytes ∷ []))
    reading-next =
        read.reading-is
        ∙ ap (λ (r : Reading). block_of r read.bytes) so_far.reading-is
        ∙ sym (reading-and-one first so_far.blocks read.bytes)

    -- with the last block
    pub ends_with : has_ended input ≡ true → BlocksRead first input
    ends_with ended = record {
      blocks = so_far.blocks ++ (read.bytes ∷ []);
      cut = whole-and-last so_far.blocks read.bytes so_far.whole read.fits;
      reading-is = reading-next;
      ends = inl ended;
    }

    module _ (goes_on : has_ended input ≡ false) where
      is-whole : length read.bytes ≡ window_bytes
      is-whole = bytes_whole _ _ _ read goes_on

      pub next : SoFar first (reading_of input)
      next = record {
        blocks = so_far.blocks ++ (read.bytes ∷ []);
        whole = whole-and-one so_far.blocks read.bytes so_far.whole is-whole;
        reading-is = reading-next;
      }

      -- each block leaves fewer to come
      pub fewer-left : reading.refusal ≡ no_refusal → blocks_left (reading_of input) < blocks_left reading
      fewer-left e = by-refusal (ℕ_discrete (reading_of input).refusal no_refusal)
        where
          by-refusal : Dec ((reading_of input).refusal ≡ no_refusal) → blocks_left (reading_of input) < blocks_left reading
          by-refusal (yes z) =
              let after : (block_of reading read.bytes).refusal ≡ no_refusal =
              sym (ap (λ (r : Reading). r.refusal) read.reading-is) ∙ z in
              let added = block_of-added reading read.bytes (λ none. omega (arith, is-whole)) after in
              let windows = ap (λ (r : Reading). r.observation.windows) read.reading-is in
              rw (eq-eqb reading.refusal no_refusal e, eq-eqb (reading_of input).refusal no_refusal z)
              (omega (arith, added, windows))
          by-refusal (no f) = rw (eq-eqb reading.refusal no_refusal e, ne_eqb (reading_of input).refusal no_refusal f) (omega arith)

-- ---- the whole text

module _ (line : Input) (read : LineRead line) where
  -- the blocks after the line give what harmlist writes
  output-after :
      (input : Input) (blocks : List (List ℕ)) → CutInBlocks read.bytes blocks →
      reading_of input ≡ reading_after (reading_of line) blocks → output_of (reading_of input) ≡ harmlist_output (read.bytes ++ joined blocks)
  output-after input blocks cut after =
      ap output_of (after ∙ ap (λ (r : Reading). reading_after r blocks) read.reading-is)
      ∙ follows-definition read.bytes blocks cut

  line-short : has_ended line ≡ true → length read.bytes < text_line_bytes
  line-short e = ltb-true (length read.bytes) text_line_bytes (sym read.ended-is ∙ e)

  -- no block is read after a line that is short
  pub line_ends : has_ended line ≡ true → TextRead line
  unfolding reading_after WholeButLast
  line_ends ends = record {
    text = read.bytes ++ joined [];
    output-is = output-after line [] (inr (line-short ends, refl)) refl;
    any-more = λ whole. absurd (true≢false (sym ends ∙ whole));
  }

  module _ (input : Input) (whole-line : has_ended line ≡ false) (blocks-read : BlocksRead (reading_of line) input) where
    long : length read.bytes ≡ text_line_bytes
    long = bytes_whole _ _ _ read whole-line

    -- what comes after a reading that is refused does not matter
    output-any-more :
        AllWhole blocks-read.blocks → ((reading_of input).refusal ≡ no_refusal → ⊥) → (more : List ℕ) →
        output_of (reading_of input) ≡ harmlist_output (read.bytes ++ joined blocks-read.blocks ++ more)
    output-any-more whole f more =
        let blocks = blocks-read.blocks in
        let after = in_blocks (length more) more (omega arith) in
        let reading-is : reading_of input ≡ reading_after (begin_of read.bytes) blocks =
        blocks-read.reading-is ∙ ap (λ (r : Reading). reading_after r blocks) read.reading-is in
        let refused : (reading_after (begin_of read.bytes) blocks).refusal ≡ no_refusal → ⊥ =
        λ e. f (ap (λ (r : Reading). r.refusal) reading-is ∙ e) in
        ap output_of reading-is
        ∙ stops-at-refusal read.bytes blocks after.blocks
        (inl (long, whole-and-more blocks after.blocks whole after.cut)) refused
        ∙ ap (λ (rest : List ℕ). harmlist_output (read.bytes ++ rest))
        (joined-append blocks after.blocks ∙ ap (λ (rest : List ℕ). joined blocks ++ rest) after.joined-are)
        ∙ ap harmlist_output (sym (append_assoc read.bytes (joined blocks) more))

    pub text_ends : TextRead input
    text_ends = record {
      text = read.bytes ++ joined blocks-read.blocks;
      output-is = output-after input blocks-read.blocks (inl (long, blocks-read.cut)) blocks-read.reading-is;
      any-more = λ whole.
          ⊎_elim
          (λ (ends : has_ended input ≡ true). absurd (true≢false (sym ends ∙ whole)))
          (λ (refused : AllWhole blocks-read.blocks × ((reading_of input).refusal ≡ no_refusal → ⊥)). output-any-more refused.0 refused.1)
          blocks-read.ends;
    }

-- so a text at whose end the input has not ended is one that nothing after it changes
nothing-missed :
    (input : Input) (read : TextRead input) → has_ended input ≡ false →
    (more : List ℕ) → harmlist_output (read.text ++ more) ≡ harmlist_output read.text
nothing-missed input read whole more = sym (read.any-more whole more) ∙ read.output-is
