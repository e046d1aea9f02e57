-- The lines of a text that is put together from two: those of the first part and those after it, and what is read of them.
use Rattle.std.specs.Prelude.{is_none}
use mathlib.Core.Bool.{Bool, true, false, cond}
use mathlib.Core.List.{List, ◌++◌}
use mathlib.Core.Path.{◌≡◌, refl, ap}
use Prim.Native.Nat.{ℕ, zero, suc, ◌+◌, ◌*◌, ◌<◌, ◌≤◌}
use native.Mathlib.Omega.{arith}
use borrow.Author.Tests.{ne_eqb}
use lib.Dec.{eqb}
use lib.IntN.{nat_abs}
use lib.ListN.{length, drop, length-drop}
use lib.Seq.{drop-append-le, take-append-le, drop-append-add}
use Rattle.algebra.specs.Lists.{tabulate}
use Rattle.refusals.specs.Numbers.{no_refusal, not_a_column, sample_out_of_range, record_full}
use Rattle.windows.specs.Window.{window_length, out_of_range}
use Rattle.records.specs.Soundness.{most_windows}
use Rattle.observation.specs.Calls.{fresh_answer}
use Rattle.observation.specs.RecordAfter.{record_after}
use Rattle.recordings.specs.TextLines.{text_line_bytes, text_line_at, text_line_number, number_or0, number_at}
use Rattle.recordings.specs.InputRefusal.{number_refusal, text_line_refusal, refusal_before}
use Rattle.rows.specs.Editions.{edition2}
use Rattle.rows.specs.Setups.{setup_of}
use Rattle.recordings.specs.Windows.{system_in, setup_in, window_in, rows_in, record_in}
use Rattle.recordings.specs.Blocks.{sample_refusal, samples_of}
use Rattle.recordings.proofs.FirstOf.{first_of-same}

-- the number of lines of the system and w windows
abbrev pub lines_to : ℕ → ℕ
lines_to w = window_length * w + 1

pub tabulate-agree {ℓ} : {A : Type ℓ} (n : ℕ) (f g : ℕ → A) → ((i : ℕ) → i < n → f i ≡ g i) → tabulate n f ≡ tabulate n g
unfolding tabulate
tabulate-agree zero f g h = refl
tabulate-agree (suc n) f g h = rw (tabulate-agree n f g (λ i l. h i (omega arith)), h n (omega arith))

pub number_at-same : (t u : List ℕ) (i j : ℕ) → text_line_at t i ≡ text_line_at u j → number_at t i ≡ number_at u j
unfolding number_at
number_at-same t u i j e = rw e

text_line_refusal-same : (t u : List ℕ) (i : ℕ) → text_line_at t i ≡ text_line_at u i → text_line_refusal t i ≡ text_line_refusal u i
unfolding text_line_refusal
text_line_refusal-same t u i e = rw e

module _ (p q : List ℕ) where
  text_line_at-front : (i : ℕ) → text_line_bytes * i + text_line_bytes ≤ length p → text_line_at (p ++ q) i ≡ text_line_at p i
  unfolding text_line_at
  text_line_at-front i h =
      rw (drop-append-le (text_line_bytes * i) p q (omega arith))
      (take-append-le text_line_bytes (drop (text_line_bytes * i) p) q (rw (length-drop (text_line_bytes * i) p) (omega arith)))

  pub text_line_at-after : (n j : ℕ) → length p ≡ text_line_bytes * n → text_line_at (p ++ q) (n + j) ≡ text_line_at q j
  unfolding text_line_at
  text_line_at-after n j e =
      let place : text_line_bytes * (n + j) ≡ length p + text_line_bytes * j = omega arith in
      rw (place, drop-append-add p q (text_line_bytes * j))

  pub refusal_before-front : (n : ℕ) → text_line_bytes * n ≤ length p → refusal_before (p ++ q) n ≡ refusal_before p n
  unfolding refusal_before
  refusal_before-front n h =
      first_of-same (text_line_refusal (p ++ q)) (text_line_refusal p) n
      (λ i l. text_line_refusal-same (p ++ q) p i (text_line_at-front i (omega arith)))

  system_in-front : text_line_bytes ≤ length p → system_in (p ++ q) ≡ system_in p
  unfolding system_in
  system_in-front h = ap nat_abs (number_at-same (p ++ q) p 0 0 (text_line_at-front 0 (omega arith)))

  pub setup_in-front : text_line_bytes ≤ length p → setup_in (p ++ q) ≡ setup_in p
  setup_in-front h = ap (λ (system : ℕ). setup_of system edition2) (system_in-front h)

  window_in-front : (w v : ℕ) → length p ≡ text_line_bytes * lines_to w → v < w → window_in (p ++ q) v ≡ window_in p v
  unfolding window_in
  window_in-front w v e l =
      tabulate-agree window_length
      (λ j. number_at (p ++ q) (window_length * v + j + 1))
      (λ j. number_at p (window_length * v + j + 1))
      (λ j h. number_at-same (p ++ q) p _ _ (text_line_at-front (window_length * v + j + 1) (omega arith)))

  -- the record of the windows in the first part
  pub record_in-front : (w : ℕ) → length p ≡ text_line_bytes * lines_to w → record_in (p ++ q) w ≡ record_in p w
  unfolding record_in rows_in
  record_in-front w e =
      rw (setup_in-front (omega arith))
      (ap (record_after (fresh_answer (setup_in p)).observation)
      (tabulate-agree w _ _ (λ v l. rw (window_in-front w v e l))))

  -- the window after it
  pub window_in-after : (w : ℕ) → length p ≡ text_line_bytes * lines_to w → window_in (p ++ q) w ≡ samples_of q
  unfolding window_in samples_of
  window_in-after w e =
      tabulate-agree window_length (λ j. number_at (p ++ q) (window_length * w + j + 1)) (number_at q)
      (λ j h.
      let place : window_length * w + j + 1 ≡ lines_to w + j = omega arith in
      rw place (number_at-same (p ++ q) q (lines_to w + j) j (text_line_at-after (lines_to w) j e)))

-- ---- the refusal of a sample's line

checks-in-order : (a b : Bool) (further : ℕ)
    → cond a not_a_column (cond b sample_out_of_range further)
    ≡ cond (eqb (cond a not_a_column (cond b sample_out_of_range no_refusal)) no_refusal) further (cond a not_a_column (cond b sample_out_of_range no_refusal))
checks-in-order true b further = refl
checks-in-order false true further = refl
checks-in-order false false further = refl

-- 9 comes after the line's own refusals, at the last line of window 45,001
abbrev pub full_at : ℕ → ℕ
full_at i = cond (eqb i (window_length * (most_windows + 1))) record_full no_refusal

pub text_line_refusal-sample : (t : List ℕ) (i : ℕ) → (i ≡ 0 → ⊥)
    → text_line_refusal t i ≡ cond (eqb (sample_refusal (text_line_at t i)) no_refusal) (full_at i) (sample_refusal (text_line_at t i))
unfolding text_line_refusal number_refusal sample_refusal
text_line_refusal-sample t i f =
    rw (ne_eqb i 0 f)
    (checks-in-order (is_none (text_line_number (text_line_at t i))) (out_of_range (number_or0 (text_line_number (text_line_at t i)))) (full_at i))
