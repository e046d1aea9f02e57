-- Every row of the two tables of worked numbers holds. The pulse's lines come from the law of a sum with one sample that is not 0; the rest is computed.
use mathlib.Core.Path.{◌≡◌, refl, fun_ext, ◌∙◌}
use mathlib.Core.Bool.{true}
use Prim.Native.Nat.{ℕ, ◌<◌}
use lib.ListN.{get_or}
use Rattle.algebra.specs.Fraction.{whole, times, divide}
use Rattle.algebra.specs.Largest.{largest}
use Rattle.algebra.specs.Lists.{tabulate}
use Rattle.std.specs.List.{list_any}
use Rattle.algebra.specs.Rounding.{nearest}
use Rattle.algebra.specs.Weighted.{sum_over, Everywhere}
use Rattle.refusals.specs.Numbers.{no_refusal}
use Rattle.refusals.specs.Answers.{answer}
use Rattle.square_root.specs.Root.{root_of}
use Rattle.sine.specs.ExactSine.{factorial, denominator, term, added, taken_away, quarter_sine}
use Rattle.sine.specs.Wave.{table_entry}
use Rattle.spectral_lines.specs.Line.{line_count, line_of, lines_of}
use Rattle.windows.specs.Window.{InRange}
use Rattle.spectral_lines.proofs.Lines.{get_or-lines_of}
use Rattle.spectral_lines.proofs.Pulse as Pulse
use Rattle.spectral_lines.proofs.Pulse.{pulse-line}
use Rattle.kinds.specs.Kinds.{span_of, grouped_as}
use Rattle.spans.specs.Spans.{weights_in, weights_of, weighted_sum}
use Rattle.groups.proofs.GroupEditions.{weights_of-above}
use Rattle.kinds.specs.declared.Kind.{Kind}
use Rattle.kinds.specs.declared.Kind.TheVariants.{Component, HarmonicGroup, HarmonicSubgroup, InterharmonicGroup, InterharmonicCentredSubgroup}
use Rattle.groups.specs.Group.{value_over, group_value, group_answer}
use Rattle.rows.specs.Systems.{is_system}
use Rattle.rows.specs.Rows.{first_values}
use Rattle.rows.specs.Editions.{is_edition}
use Rattle.rows.specs.Setups.{setup_of, is_setup, same_setup}
use Rattle.rows.specs.declared.Setup.{Setup}
use Rattle.rows.specs.Orders.{is_order}
use Rattle.books.specs.Book.{smoothed_next, book_step}
use Rattle.books.specs.Smoothing.{smoothed_value}
use Rattle.latest_rows.specs.Latest.{with_latest}
use Rattle.records.specs.Soundness.{none_above, all_zero, is_sound}
use Rattle.observation.specs.Calls.{empty_record, fresh_refusal, fresh_answer, book_at, next_book, with_row, row_checks, add_row_refusal, add_row_answer}
use Rattle.observation.specs.RecordAfter.{record_after}
use Rattle.fractions.specs.Parts.{raised, at_most}
use Rattle.classes.specs.Letters.{letter_of, is_class, class_with}
use Rattle.limits.specs.Limit.{own_figures, figure_in, class_a_limit, limit_of, over_order}
use Rattle.limit_tests.specs.Limit.{limit_in_units, peak_limit_in_units}
use Rattle.limit_tests.specs.Tests.{is_within, is_over}
use Rattle.verdict.specs.Call.{combined, verdict_in, verdict_refusal, verdict_answer}
use Rattle.records.specs.Average.{average_of, peak_of}
use Rattle.columns.specs.Text.{bytes_of}
use Rattle.columns.specs.Column.{is_whole, place_value, whole_number, negative_number, signed_number, after_blanks, column_number}
use Rattle.columns.specs.Calls.{column_read_answer}
use Rattle.accuracy.proofs.GroupDistance.{lines-accepted, lines-of-group}
use Rattle.worked_numbers.specs.Cases.{pulse, row_of, after_rows, group_under_a1, cases, cases_under_a1, Holds}

-- every line of the pulse
line-of-pulse : (k : ℕ) → line_of pulse k ≡ 4000000
unfolding pulse Pulse.pulse
line-of-pulse = pulse-line

pulse-line-at : (k : ℕ) → k < line_count → get_or (lines_of pulse) k 0 ≡ 4000000
pulse-line-at k h = get_or-lines_of pulse k h ∙ line-of-pulse k

pulse-in-range : InRange pulse
unfolding pulse Pulse.pulse
pulse-in-range = record { whole-window = refl; samples = Pulse.pulse-in-range }

-- the pulse's value of a kind at an order, from the root of a sum over lines that are all alike
pub pulse-group :
    (kind : Kind) (setup : Setup) (order value : ℕ) → is_setup setup ≡ true →
    value_over (weights_of kind setup order) (λ k. 4000000) ≡ value →
    is_order order ≡ true → group_answer kind setup order (lines_of pulse) ≡ answer no_refusal value
unfolding group_answer group_value value_over
pulse-group kind setup order value known alike known-order =
    rw (
      lines-accepted setup order pulse known known-order pulse-in-range,
      lines-of-group kind setup order pulse known known-order,
      fun_ext line-of-pulse,
      alike,
    )

-- under A1: at order 1, and at every other, where the lines are those of document 01's table
pulse-under-a1 :
    (kind : Kind) (system first value : ℕ) → is_setup (setup_of system 1) ≡ true →
    value_over (weights_of kind (setup_of system 1) 1) (λ k. 4000000) ≡ first →
    ((order : ℕ) → value_over (weights_in (span_of kind system order)) (λ k. 4000000) ≡ value) →
    Holds (group_under_a1 kind system first value)
unfolding Holds is_order
pulse-under-a1 kind system first value known at_first alike = (
  pulse-group kind (setup_of system 1) 1 first known at_first refl,
  λ order known-order other.
      pulse-group kind (setup_of system 1) order value known (rw (weights_of-above kind system 1 order other) (alike order)) known-order,
)

pub worked-numbers : Everywhere Holds cases
unfolding cases Holds table_entry nearest quarter_sine denominator added taken_away term factorial is_setup is_system is_edition same_setup value_over root_of largest span_of grouped_as weights_in weighted_sum sum_over tabulate row_of after_rows record_after empty_record fresh_refusal fresh_answer book_at next_book with_row with_latest first_values row_checks add_row_refusal add_row_answer none_above all_zero is_sound smoothed_next book_step smoothed_value own_figures figure_in limit_of class_a_limit is_class class_with letter_of over_order limit_in_units peak_limit_in_units raised at_most is_within is_over average_of peak_of combined verdict_in verdict_refusal verdict_answer whole times divide bytes_of is_whole place_value whole_number negative_number signed_number after_blanks column_number column_read_answer
worked-numbers = (
  refl,
  (
    refl,
    (
      refl,
      (
        pulse-line-at,
        (
          λ order. pulse-group Component (setup_of 10 0) order 2828 refl refl,
          (
            λ order. pulse-group Component (setup_of 12 0) order 2828 refl refl,
            (
              λ order. pulse-group HarmonicSubgroup (setup_of 10 0) order 4898 refl refl,
              (
                λ order. pulse-group HarmonicSubgroup (setup_of 12 0) order 4898 refl refl,
                (
                  λ order. pulse-group HarmonicGroup (setup_of 10 0) order 8944 refl refl,
                  (
                    λ order. pulse-group HarmonicGroup (setup_of 12 0) order 9797 refl refl,
                    (
                      λ order. pulse-group InterharmonicGroup (setup_of 10 0) order 8485 refl refl,
                      (
                        λ order. pulse-group InterharmonicGroup (setup_of 12 0) order 9380 refl refl,
                        (
                          λ order. pulse-group InterharmonicCentredSubgroup (setup_of 10 0) order 7483 refl refl,
                          (
                            λ order. pulse-group InterharmonicCentredSubgroup (setup_of 12 0) order 8485 refl refl,
                            (refl, (refl, (refl, (refl, (refl, (refl, (refl, (refl, (refl, tt))))))))),
                          ),
                        ),
                      ),
                    ),
                  ),
                ),
              ),
            ),
          ),
        ),
      ),
    ),
  ),
)

pub worked-under-a1 : Everywhere Holds cases_under_a1
unfolding cases_under_a1 is_setup is_system is_edition value_over root_of largest span_of grouped_as weights_in weighted_sum sum_over tabulate
worked-under-a1 = (
  pulse-under-a1 HarmonicGroup 10 2828 8944 refl refl (λ order. refl),
  (
    pulse-under-a1 HarmonicGroup 12 2828 9797 refl refl (λ order. refl),
    (
      pulse-under-a1 Component 10 2828 2828 refl refl (λ order. refl),
      (
        pulse-under-a1 Component 12 2828 2828 refl refl (λ order. refl),
        (
          pulse-under-a1 HarmonicSubgroup 10 4898 4898 refl refl (λ order. refl),
          (
            pulse-under-a1 HarmonicSubgroup 12 4898 4898 refl refl (λ order. refl),
            (
              pulse-under-a1 InterharmonicGroup 10 8485 8485 refl refl (λ order. refl),
              (
                pulse-under-a1 InterharmonicGroup 12 9380 9380 refl refl (λ order. refl),
                (
                  pulse-under-a1 InterharmonicCentredSubgroup 10 7483 7483 refl refl (λ order. refl),
                  (
                    pulse-under-a1 InterharmonicCentredSubgroup 12 8485 8485 refl refl (λ order. refl),
                    tt,
                  ),
                ),
              ),
            ),
          ),
        ),
      ),
    ),
  ),
)
