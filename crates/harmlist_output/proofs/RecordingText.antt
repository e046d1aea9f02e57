-- What harmlist writes for the text of a recording of whole windows in range: the listing of the last window's groups and
-- subgroups and of the values that the groups of all windows are smoothed to, whatever the samples and however many the windows.
use mathlib.Core.Bool.{Bool, true, false, true≢false, ◌||◌}
use mathlib.Core.List.{List, [], ◌∷◌, ◌++◌}
use mathlib.Core.Logic.{⊎_elim}
use Rattle.std.specs.Prelude.{Some}
use mathlib.Core.Path.{◌≡◌, refl, sym, ap, ◌∙◌}
use Prim.Native.Nat.{ℕ, zero, suc, ◌+◌, ◌-◌, ◌*◌, ◌<◌, ◌≤◌}
use native.Mathlib.Nat.{not-suc-le-zero}
use native.Mathlib.Numerals.{add-one}
use native.Mathlib.Omega.{arith}
use borrow.Author.Tests.{ne_eqb, le-leb}
use lib.IntN.{ℤ, pos, negsuc, nat_abs}
use lib.ListN.{length, get_or, take, drop, length-append, length-drop}
use lib.Seq.{take_at, get_or_at, get_or-take, get_or-drop, length-take-le}
use Rattle.algebra.specs.Lists.{tabulate}
use Rattle.std.specs.List.{list_any}
use Rattle.algebra.proofs.Lists.{list_any-none, tabulate-eq, tabulate-whole}
use Rattle.refusals.specs.Numbers.{no_refusal}
use Rattle.columns.specs.Text.{newline}
use Rattle.columns.specs.Column.{number_text, fits_column, column_text}
use Rattle.columns.specs.Calls.{column_width}
use Rattle.columns.proofs.Decimal.{length-le}
use Rattle.columns.proofs.Column.{read-of-text, length-of-text}
use Rattle.listing.specs.Listing.{listing_text}
use Rattle.rows.specs.declared.Row.{Row}
use Rattle.rows.specs.declared.Setup.{Setup}
use Rattle.rows.specs.Systems.{is_system}
use Rattle.rows.specs.Setups.{setup_of}
use Rattle.rows.proofs.Systems.{system-cases}
use Rattle.windows.specs.Window.{window_length, window_at, largest_sample, out_of_range}
use Rattle.kinds.specs.declared.Kind.{Kind}
use Rattle.kinds.specs.declared.Kind.TheVariants.{HarmonicGroup, HarmonicSubgroup}
use Rattle.groups.specs.Group.{window_row}
use Rattle.records.specs.Soundness.{most_windows}
use Rattle.observation.specs.Calls.{fresh_answer}
use Rattle.observation.specs.RecordAfter.{record_after}
use Rattle.recordings.specs.TextLines.{text_line_bytes, text_line_count, text_line_at, text_line_number, number_or0, number_at}
use Rattle.recordings.specs.InputRefusal.{no_system, number_refusal, text_line_refusal, first_of, refusal_before}
use Rattle.recordings.specs.Windows.{system_in, window_in, window_count, rows_in, record_in}
use Rattle.recordings.proofs.FirstOf.{first_of-same}
use Rattle.recordings.proofs.Samples.{sample-le}
use Rattle.recordings.proofs.TextLines.{text_line_at-after}
use Rattle.harmlist_output.specs.Output.{listing_for, harmlist_output}
use Rattle.harmlist_output.proofs.Output.{harmlist_output-listing, end_refusal-windows}

-- ---- the text of some numbers

unfoldable pub number_line : ℤ → List ℕ
number_line z = column_text column_width z ++ (newline ∷ [])

unfoldable pub numbers_text : List ℤ → List ℕ
numbers_text [] = []
numbers_text (z ∷ numbers) = number_line z ++ numbers_text numbers

number_text-length-le : (z : ℤ) → nat_abs z ≤ largest_sample → length (number_text z) ≤ column_width
unfolding number_text
number_text-length-le (pos n) h = omega (arith, length-le 5 n (omega arith))
number_text-length-le (negsuc n) h = omega (arith, length-le 5 (suc n) (omega arith))

module _ (z : ℤ) (in-range : out_of_range z ≡ false) where
  number_fits : fits_column column_width z ≡ true
  unfolding fits_column
  number_fits = le-leb _ _ (number_text-length-le z (sample-le z in-range))

  column-length : length (column_text column_width z) ≡ column_width
  column-length = length-of-text column_width z number_fits

  number_line-length : length (number_line z) ≡ text_line_bytes
  unfolding number_line
  number_line-length = rw (length-append (column_text column_width z) (newline ∷ []), column-length)

  number_line-newline : get_or (number_line z) column_width 0 ≡ newline
  unfolding number_line
  number_line-newline = get_or_at (column_text column_width z) newline [] 0 column_width column-length

  number_line-column : take column_width (number_line z) ≡ column_text column_width z
  unfolding number_line
  number_line-column = take_at (column_text column_width z) (newline ∷ []) column_width column-length

  number_line-number : text_line_number (number_line z) ≡ Some z
  unfolding text_line_number
  number_line-number = rw (number_line-length, number_line-newline, number_line-column, read-of-text column_width z)

none_before : (z : ℤ) (numbers : List ℤ) → list_any out_of_range (z ∷ numbers) ≡ false → (out_of_range z ≡ false) × (list_any out_of_range numbers ≡ false)
none_before z numbers e = by-test (out_of_range z) (list_any out_of_range numbers) e
  where
    by-test : (a b : Bool) → (a || b) ≡ false → (a ≡ false) × (b ≡ false)
    by-test true b p = absurd (true≢false p)
    by-test false b p = (refl, p)

numbers_text-length : (numbers : List ℤ) → list_any out_of_range numbers ≡ false → length (numbers_text numbers) ≡ text_line_bytes * length numbers
unfolding numbers_text
numbers_text-length [] e = refl
numbers_text-length (z ∷ numbers) e =
    let both = none_before z numbers e in
    rw (length-append (number_line z) (numbers_text numbers), number_line-length z both.0, numbers_text-length numbers both.1) (omega arith)

text_line_at-first : (line rest : List ℕ) → length line ≡ text_line_bytes → text_line_at (line ++ rest) 0 ≡ line
unfolding text_line_at
text_line_at-first line rest long = take_at line rest text_line_bytes long

text_line_at-number : (numbers : List ℤ) (i : ℕ) → list_any out_of_range numbers ≡ false → i < length numbers
    → text_line_at (numbers_text numbers) i ≡ number_line (get_or numbers i (pos 0))
unfolding numbers_text
text_line_at-number [] i e h = absurd (not-suc-le-zero h)
text_line_at-number (z ∷ numbers) zero e h =
    text_line_at-first (number_line z) (numbers_text numbers) (number_line-length z (none_before z numbers e).0)
text_line_at-number (z ∷ numbers) (suc i) e h =
    let both = none_before z numbers e in
    let place : suc i ≡ 1 + i = omega arith in
    ap (text_line_at (number_line z ++ numbers_text numbers)) place
    ∙ text_line_at-after (number_line z) (numbers_text numbers) 1 i (number_line-length z both.0)
    ∙ text_line_at-number numbers i both.1 (omega arith)

module _ (numbers : List ℤ) (in-range : list_any out_of_range numbers ≡ false) where
  text_line_count-numbers : text_line_count (numbers_text numbers) ≡ length numbers
  unfolding text_line_count
  text_line_count-numbers = rw (numbers_text-length numbers in-range) (omega arith)

  text_line_number-is : (i : ℕ) → i < length numbers → text_line_number (text_line_at (numbers_text numbers) i) ≡ Some (get_or numbers i (pos 0))
  text_line_number-is i h =
      rw (text_line_at-number numbers i in-range h)
      (number_line-number (get_or numbers i (pos 0)) (list_any-none out_of_range numbers i (pos 0) in-range h))

  number_at-is : (i : ℕ) → i < length numbers → number_at (numbers_text numbers) i ≡ get_or numbers i (pos 0)
  unfolding number_at number_or0
  number_at-is i h = rw (text_line_number-is i h)

-- ---- the text of a recording

first_of-none : (n : ℕ) → first_of (λ i. no_refusal) n ≡ no_refusal
unfolding first_of
first_of-none zero = refl
first_of-none (suc n) = rw (first_of-none n)

-- the system's line, and a line for each sample
abbrev pub recording_text : ℕ → List ℤ → List ℕ
recording_text system samples = numbers_text (pos system ∷ samples)

system-in-range : (system : ℕ) → is_system system ≡ true → out_of_range (pos system) ≡ false
unfolding out_of_range
system-in-range system known =
    ⊎_elim (λ (e : system ≡ 10). rw e) (λ (e : system ≡ 12). rw e) (system-cases system known)

-- the rows of its windows, back to back
abbrev pub rows_of : Kind → Setup → List ℤ → ℕ → List Row
rows_of kind setup samples w = tabulate w (λ v. window_row kind setup (window_at samples (window_length * v)))

module _ (system : ℕ) (samples : List ℤ) (w : ℕ) (known : is_system system ≡ true) (in-range : list_any out_of_range samples ≡ false) (long : length samples ≡ window_length * w) where
  abbrev text : List ℕ
  text = recording_text system samples

  all-in-range : list_any out_of_range (pos system ∷ samples) ≡ false
  all-in-range = rw (system-in-range system known) in-range

  count-is : text_line_count text ≡ window_length * w + 1
  count-is = text_line_count-numbers (pos system ∷ samples) all-in-range ∙ omega (arith, long)

  line-accepted : w ≤ most_windows → (i : ℕ) → i < suc (length samples) → text_line_refusal text i ≡ no_refusal
  unfolding text_line_refusal number_refusal no_system number_or0
  line-accepted most zero h = rw (text_line_number-is (pos system ∷ samples) all-in-range 0 h, known)
  line-accepted most (suc j) h =
      rw (
        text_line_number-is (pos system ∷ samples) all-in-range (suc j) h,
        ne_eqb (suc j) 0 (λ e. omega arith),
        list_any-none out_of_range samples j (pos 0) in-range (omega arith),
        ne_eqb (suc j) (window_length * (most_windows + 1)) (λ e. omega (arith, long)),
      )

  none-refused : w ≤ most_windows → refusal_before text (text_line_count text) ≡ no_refusal
  unfolding refusal_before
  none-refused most =
      first_of-same (text_line_refusal text) (λ i. no_refusal) (text_line_count text) (λ i h. line-accepted most i (omega (arith, count-is, long)))
      ∙ first_of-none (text_line_count text)

  system_in-is : system_in text ≡ system
  unfolding system_in
  system_in-is = rw (number_at-is (pos system ∷ samples) all-in-range 0 (omega arith))

  window_in-is : (v : ℕ) → v < w → window_in text v ≡ window_at samples (window_length * v)
  unfolding window_in window_at
  window_in-is v h =
      let at = window_length * v in
      let window = take window_length (drop at samples) in
      tabulate-eq window_length (λ j. number_at text (at + j + 1)) (λ j. get_or window j (pos 0)) (λ j below. sample-is j below)
      ∙ tabulate-whole (pos 0) window window_length (length-take-le window_length (drop at samples) (rw (length-drop at samples) (omega (arith, long))))
    where
      after-system : (k : ℕ) → get_or (pos system ∷ samples) (k + 1) (pos 0) ≡ get_or samples k (pos 0)
      after-system k = rw (add-one k)

      sample-is : (j : ℕ) → j < window_length
          → number_at text (window_length * v + j + 1) ≡ get_or (take window_length (drop (window_length * v) samples)) j (pos 0)
      sample-is j below =
          number_at-is (pos system ∷ samples) all-in-range (window_length * v + j + 1) (omega (arith, long))
          ∙ after-system (window_length * v + j)
          ∙ sym (get_or-take window_length (drop (window_length * v) samples) j (pos 0) below ∙ get_or-drop (window_length * v) samples j (pos 0))

  rows_in-are : (kind : Kind) → rows_in kind text w ≡ rows_of kind (setup_of system 0) samples w
  unfolding rows_in
  rows_in-are kind = tabulate-eq w _ _ (λ v h. rw (system_in-is, window_in-is v h))

  window_count-is : window_count text ≡ w
  unfolding window_count
  window_count-is = rw count-is (omega arith)

  pub harmlist_output-recording :
      0 < w → w ≤ most_windows →
      let setup = setup_of system 0 in
      let last = window_at samples (window_length * (w - 1)) in
      harmlist_output text ≡
      listing_text
      (window_row HarmonicGroup setup last).values
      (window_row HarmonicSubgroup setup last).values
      (record_after (fresh_answer setup).observation (rows_of HarmonicGroup setup samples w)).smoothed
  unfolding listing_for record_in
  harmlist_output-recording positive most =
      harmlist_output-listing text (none-refused most) (rw count-is (end_refusal-windows w positive))
      ∙ rw (window_count-is, window_in-is (w - 1) (omega arith), rows_in-are HarmonicGroup, system_in-is)
