-- Worked pairs of windows that are alike but for sample 0: they meet the hypotheses, up to the greatest d, and show that the first bound
-- cannot be 9×d + 14, and that the second does not hold for a record with no window.
use mathlib.Core.Path.{◌≡◌, refl, sym, ◌∙◌}
use mathlib.Core.Bool.{true, false}
use mathlib.Core.List.{List}
use Prim.Native.Nat.{ℕ, zero, suc, ◌+◌, ◌*◌, ◌/◌, ◌≤◌}
use native.Mathlib.Nat.{not-le_of_lt}
use native.Mathlib.Omega.{arith}
use borrow.Author.Tests.{le-ltb}
use lib.Dec.{leb, lit<, lit≤}
use lib.IntN.{ℤ, pos, negsuc, nat_abs, ◌+ℤ◌, ◌-ℤ◌, ◌*ℤ◌}
use lib.ListN.{replicate}
use Rattle.algebra.specs.Integers.{square}
use Rattle.algebra.specs.Largest.{largest}
use Rattle.algebra.specs.Lists.{tabulate}
use Rattle.std.specs.List.{list_any}
use Rattle.algebra.specs.Rounding.{nearest, nearestℤ, floor_over, rounded_up}
use Rattle.algebra.specs.Weighted.{sum_over}
use Rattle.square_root.specs.Root.{root_of}
use Rattle.refusals.specs.Numbers.{no_refusal}
use Rattle.sine.specs.ExactSine.{factorial, denominator, term, added, taken_away, quarter_sine}
use Rattle.sine.specs.Turn.{over_half, over_turn}
use Rattle.sine.specs.Wave.{table_entry, table_sine, table_cosine}
use Rattle.spectral_lines.specs.Line.{sum_scale}
use Rattle.windows.specs.Window.{window_at, largest_sample, out_of_range}
use Rattle.spectrum.specs.Spectrum.{spectrum_refusal}
use Rattle.spectral_lines.proofs.Pulse.{two_samples, two_samples-line}
use Rattle.rows.specs.Orders.{is_order}
use Rattle.rows.specs.Systems.{is_system}
use Rattle.rows.specs.Editions.{is_edition}
use Rattle.rows.specs.Setups.{setup_of, is_setup}
use Rattle.rows.specs.Rows.{ValuesFit, RowAnswer}
use Rattle.rows.specs.declared.Row.{Row}
use Rattle.rows.specs.declared.Setup.{Setup}
use Rattle.kinds.specs.declared.Kind.TheVariants.{HarmonicGroup, HarmonicSubgroup}
use Rattle.kinds.specs.Kinds.{span_of, grouped_as}
use Rattle.spans.specs.Spans.{weights_in, weights_of, weighted_sum}
use Rattle.groups.specs.Group.{value_over, group_answer}
use Rattle.groups.proofs.GroupSum.{group_values-le, group_row_answer-values}
use Rattle.records.specs.declared.Observation.{Observation}
use Rattle.records.specs.Soundness.{most_windows, is_sound}
use Rattle.books.specs.Smoothing.{new_weight, old_weight, smoothed_value}
use Rattle.books.specs.Book.{book_step, smoothed_next}
use Rattle.observation.specs.BookCalls.{value_at}
use Rattle.observation.specs.Calls.{empty_record, book_at, next_book, with_row, add_row_answer}
use Rattle.observation.proofs.SoundRecord.{empty-record-sound, with-row-sound, add_row_refusal-own, add_row_answer-accepted}
use Rattle.glitch.specs.Windows.{AcceptedWindow, samples_of, lines_left, AlikeBut, glitch_size}
use Rattle.glitch.specs.Claim.{group_shift, Apart, GroupsApart, GroupsBounded, row_of, smoothed_in, SmoothedApart, SmoothedBounded}
use Rattle.glitch.proofs.Groups.{answered-value}
use Rattle.glitch.proofs.Smoothed.{smoothed-after, row-setup, row-value}
use Rattle.glitch.proofs.Glitch.{glitch}

-- ---- windows with a sample 0 and a sample 3, the rest 0

-- a buffer of 512 lines
abbrev pub lent : List ℕ
lent = replicate 512 0

-- a sample in range
abbrev pub Fits : ℤ → Type 0
Fits sample = nat_abs sample ≤ largest_sample

pub taken : (a b : ℤ) → Fits a → Fits b → spectrum_refusal (two_samples a b) 0 lent ≡ no_refusal
unfolding spectrum_refusal window_at out_of_range two_samples
taken a b fits also = rw (le-ltb largest_sample (nat_abs a) fits, le-ltb largest_sample (nat_abs b) also)

-- its samples are these
samples-are : (a b : ℤ) → window_at (two_samples a b) 0 ≡ two_samples a b
unfolding window_at two_samples
samples-are a b = refl

-- two that have the same sample 3 are alike but for sample 0
pub alike : (a c b : ℤ) → AlikeBut 0 (window_at (two_samples a b) 0) (window_at (two_samples c b) 0)
unfolding window_at two_samples
alike a c b zero away = absurd (away refl)
alike a c b (suc j) away = refl

-- and two that have the same sample 0 but for sample 3
alike-later : (a b c : ℤ) → AlikeBut 3 (window_at (two_samples a b) 0) (window_at (two_samples a c) 0)
unfolding window_at two_samples
alike-later a b c zero away = refl
alike-later a b c (suc zero) away = refl
alike-later a b c (suc (suc zero)) away = refl
alike-later a b c (suc (suc (suc zero))) away = absurd (away refl)
alike-later a b c (suc (suc (suc (suc j)))) away = refl

-- by the difference of these samples
pub size : (a c b : ℤ) → glitch_size 0 (window_at (two_samples a b) 0) (window_at (two_samples c b) 0) ≡ nat_abs (a -ℤ c)
unfolding window_at two_samples
size a c b = refl

-- such a window by its samples
pub record Two : Type 0 where
  pub first : ℤ
  pub fourth : ℤ
  pub first_fits : Fits first
  pub fourth-fits : Fits fourth

abbrev pub window : Two → AcceptedWindow
window w =
    record {
      recording = two_samples w.first w.fourth;
      start = 0;
      buffer = lent;
      accepted = taken w.first w.fourth w.first_fits w.fourth-fits;
    }

-- no signal, and the pulse of document 01
abbrev pub silence : Two
silence = record { first = pos 0; fourth = pos 0; first_fits = lit≤ tt; fourth-fits = lit≤ tt }

abbrev pub pulse : Two
pulse = record { first = pos 1000; fourth = pos 0; first_fits = lit≤ tt; fourth-fits = lit≤ tt }

-- the pulse beside full scale
abbrev beside : Two
beside = record { first = pos 1000; fourth = pos 131071; first_fits = lit≤ tt; fourth-fits = lit≤ tt }

-- full scale
abbrev high_pulse : Two
high_pulse = record { first = pos 131071; fourth = pos 0; first_fits = lit≤ tt; fourth-fits = lit≤ tt }

-- both ends of the range, beside a sample 3 to which the one adds and from which the other takes
abbrev highest : Two
highest = record { first = pos 131071; fourth = pos 131071; first_fits = lit≤ tt; fourth-fits = lit≤ tt }

abbrev lowest : Two
lowest = record { first = negsuc 131070; fourth = pos 131071; first_fits = lit≤ tt; fourth-fits = lit≤ tt }

-- ---- their harmonic groups of order 1 at 12 cycles, the kind with the greatest weights

abbrev pub at12 : Setup
at12 = setup_of 12 0

abbrev pub group_of : Two → ℕ
group_of w = (group_answer HarmonicGroup at12 1 (lines_left (window w))).value

-- the line k of such a window
abbrev line_at : Two → ℕ → ℕ
line_at w k =
    square (nearestℤ (w.first *ℤ table_cosine 0 +ℤ w.fourth *ℤ table_cosine (3 * k)) sum_scale)
    + square (nearestℤ (w.first *ℤ table_sine 0 +ℤ w.fourth *ℤ table_sine (3 * k)) sum_scale)

group-is : (w : Two) → group_of w ≡ value_over (weights_of HarmonicGroup at12 1) (line_at w)
unfolding is_setup is_system is_edition is_order value_over weights_in span_of grouped_as weighted_sum sum_over tabulate
group-is w =
    answered-value (window w) at12 1 refl refl HarmonicGroup
    ∙ rw (samples-are w.first w.fourth) (simp two_samples-line)

pub worked-values : (group_of silence ≡ 0) × (group_of pulse ≡ 9797) × (group_of high_pulse ≡ 1284228) × (group_of highest ≡ 2564212) × (group_of lowest ≡ 147604)
unfolding value_over root_of largest weights_in span_of grouped_as weighted_sum sum_over tabulate square nearestℤ floor_over table_cosine table_sine over_turn over_half table_entry nearest quarter_sine added taken_away term factorial denominator
worked-values = (group-is silence, group-is pulse, group-is high_pulse, group-is highest, group-is lowest)

-- ---- the groups

-- what a bound says of two of these windows
of_pair :
    (most : ℕ → ℕ) (one other : Two) → one.fourth ≡ other.fourth → GroupsBounded most →
    Apart (most (nat_abs (one.first -ℤ other.first))) (group_of one) (group_of other)
unfolding GroupsBounded is_setup is_system is_edition
of_pair most one other same shift =
    let a = one.first in let c = other.first in let b = other.fourth in
    let differ : AlikeBut 0 (samples_of (window one)) (samples_of (window other)) = rw same (alike a c b) in
    let by : glitch_size 0 (samples_of (window one)) (samples_of (window other)) ≡ nat_abs (a -ℤ c) = rw same (size a c b) in
    rw by at (shift HarmonicGroup at12 (window one) (window other) 0 refl differ 1 (omega arith) (omega arith)).values

-- the pulse and no signal, d = 1000: 9797 units of 10,014
pulse-apart : Apart 10014 (group_of pulse) (group_of silence)
pulse-apart = of_pair group_shift pulse silence refl glitch.groups

-- full scale and no signal: more than 9.797 times d
high-pulse-apart : Apart 1310724 (group_of high_pulse) (group_of silence)
high-pulse-apart = of_pair group_shift high_pulse silence refl glitch.groups

-- from one end of the range to the other, d = 262,142, the greatest: more than 9.218 times d
greatest-apart : Apart 2621434 (group_of highest) (group_of lowest)
greatest-apart = of_pair group_shift highest lowest refl glitch.groups

-- at another place, of another kind, order and setup: sample 3 of full scale beside the pulse, and not
later-apart : GroupsApart HarmonicSubgroup (setup_of 10 1) (window beside) (window pulse) 1310724 40
unfolding GroupsBounded is_setup is_system is_edition window_at two_samples
later-apart = glitch.groups HarmonicSubgroup (setup_of 10 1) (window beside) (window pulse) 3 refl (alike-later (pos 1000) (pos 131071) (pos 0)) 40 (omega arith) (omega arith)

-- so the bound cannot be 9×d + 14
nine-too-few : ¬ GroupsBounded (λ d. 9 * d + 14)
nine-too-few shift =
    let apart = of_pair (λ d. 9 * d + 14) high_pulse silence refl shift in
    omega (arith, apart.one-le, worked-values.2, worked-values.0)

-- ---- the smoothed values

abbrev answer_at12 : Two → RowAnswer
answer_at12 w = row_of HarmonicGroup at12 (window w)

abbrev row_at12 : Two → Row
row_at12 w = (answer_at12 w).row

row_fits : (w : Two) → ValuesFit (row_at12 w)
unfolding ValuesFit
row_fits w i =
    rw (group_row_answer-values HarmonicGroup at12 (lines_left (window w))) (group_values-le HarmonicGroup at12 (lines_left (window w)) i)

-- a record with no window, and with one of no signal
none : Observation
none = empty_record at12

one_silent : Observation
one_silent = with_row none (row_at12 silence)

-- both are sound
none-sound : is_sound none ≡ true
unfolding none is_setup is_system is_edition
none-sound = empty-record-sound at12 refl

one-sound : is_sound one_silent ≡ true
unfolding none one_silent empty_record
one-sound = with-row-sound none (row_at12 silence) none-sound (lit< tt) (row_fits silence)

-- a sound record of this setup with room takes the row
row-taken :
    (o : Observation) → is_sound o ≡ true → o.setup ≡ at12 → leb most_windows o.windows ≡ false →
    (w : Two) → (add_row_answer o (row_at12 w)).observation ≡ with_row o (row_at12 w)
unfolding is_setup is_system is_edition
row-taken o sound own room w =
    add_row_answer-accepted o (row_at12 w)
    (add_row_refusal-own o (row_at12 w) sound (row-setup HarmonicGroup at12 refl (window w) ∙ sym own) ∙ rw room)

row_is : (w : Two) → value_at 0 (row_at12 w) ≡ group_of w
unfolding is_setup is_system is_edition
row_is w = row-value HarmonicGroup at12 refl (window w) 1 (omega arith) (omega arith)

-- a first window is not smoothed
after_none : (w : Two) → smoothed_in (with_row none (row_at12 w)) 1 ≡ group_of w
unfolding none with_row tabulate next_book book_at book_step smoothed_next empty_record
after_none w = row_is w

added-to-none : (w : Two) → smoothed_in (add_row_answer none (row_at12 w)).observation 1 ≡ group_of w
unfolding none empty_record
added-to-none w = rw (row-taken none none-sound refl refl w) (after_none w)

-- a second one is, here with 0
added-to-one : (w : Two) → smoothed_in (add_row_answer one_silent (row_at12 w)).observation 1 ≡ smoothed_value (group_of w) 0
unfolding none one_silent with_row empty_record
added-to-one w =
    rw (row-taken one_silent one-sound refl refl w)
    (smoothed-after one_silent (row_at12 w) (lit< tt) 1 (omega arith) (omega arith)
    ∙ rw (row_is w, after_none silence, worked-values.0))

-- the pulse after a window of no signal: 1223 units of 1,250
pulse-smoothed : SmoothedApart one_silent (answer_at12 pulse) (answer_at12 silence) 1250
unfolding SmoothedBounded is_setup is_system is_edition rounded_up none one_silent with_row empty_record
pulse-smoothed =
    rw (size (pos 1000) (pos 0) (pos 0)) at
    (glitch.smoothed HarmonicGroup at12 (window pulse) (window silence) 0 one_silent refl (alike (pos 1000) (pos 0) (pos 0)) (lit< tt))

smoothed-figures :
    (smoothed_in (add_row_answer one_silent (row_at12 pulse)).observation 1 ≡ 1223)
    × (smoothed_in (add_row_answer one_silent (row_at12 silence)).observation 1 ≡ 0)
unfolding smoothed_value nearest
smoothed-figures = (added-to-one pulse ∙ rw worked-values.1, added-to-one silence ∙ rw worked-values.0)

-- in a first window 1,250 units are too few
no-window-too-few : ¬ SmoothedApart none (answer_at12 pulse) (answer_at12 silence) 1250
no-window-too-few apart =
    omega (
      arith,
      (apart.values 1 (omega arith) (omega arith)).one-le,
      added-to-none pulse,
      added-to-none silence,
      worked-values.1,
      worked-values.0,
    )

-- and rounded down the bound is too low: of values that differ by 10×1 + 14 units the smoothed ones may differ by 3, and 24,000/8012
-- is below 3
rounded-down-too-few : ¬ Apart (new_weight * group_shift 1 / (new_weight + old_weight)) (smoothed_value 28 0) (smoothed_value 4 0)
unfolding smoothed_value nearest
rounded-down-too-few apart = not-le_of_lt (lit< tt) apart.one-le
