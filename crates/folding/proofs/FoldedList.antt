-- A folded window as a list and by its places: the private functions say what each place holds, the call what the whole list is.
use mathlib.Core.Bool.{Bool}
use mathlib.Core.List.{List}
use mathlib.Core.Path.{◌≡◌, refl, sym, ap, ◌∙◌, fun_ext}
use Prim.Native.Nat.{ℕ, zero, suc, ◌-◌, ◌*◌, ◌^◌, ◌≤◌, ◌<◌}
use native.Mathlib.Decide.{dec_lt}
use native.Mathlib.Omega.{arith}
use lib.IntN.{ℤ, pos}
use lib.ListN.{length, get_or-eq_default}
use Rattle.algebra.specs.Lists.{tabulate}
use Rattle.algebra.proofs.Lists.{length-tabulate, get_or-tabulate, tabulate-whole}
use Rattle.refusals.specs.Numbers.{no_refusal}
use Rattle.refusals.proofs.Answers.{unless_refused-accepted}
use Rattle.windows.specs.Window.{window_length, window_at}
use Rattle.windows.specs.Checks.{window_refusal}
use Rattle.windows.proofs.Accepted.{window-accepted}
use Rattle.spectral_lines.specs.Folding.{held_by, folded, paired}
use Rattle.spectral_lines.proofs.PartAccepted.{accepted_window}
use Rattle.spectral_lines.proofs.FoldedPlaces.{folded_after}
use Rattle.folding.specs.Halving.{halved, halved_from, folded_window}
use Rattle.folding.specs.Folded.{folded_list, folded_exit}
use Rattle.folding.proofs.HalvedSums.{at-most-512}

-- a list of 2,048 numbers that holds a folded window is its list
pub list-of-held : (list window : List ℤ) → length list ≡ window_length → held_by list ≡ folded_window window → list ≡ folded_list window
list-of-held list window long held = sym (tabulate-whole (pos 0) list window_length long) ∙ ap (tabulate window_length) held

-- no halving reaches a place past the window
halved_from-past : (d : ℕ) → d ≤ 10 → (f : ℕ → ℤ) (p : ℕ) → 2047 < p → halved_from d f p ≡ f p
unfolding halved_from halved
halved_from-past zero few f p past = refl
halved_from-past (suc d) few f p past =
    halved_from-past d (omega arith) (halved (2 ^ d) f) p past
    ∙ folded_after (2049 - 2 * 2 ^ d) 2047 (folded 0 (2 * 2 ^ d) f) p past
    ∙ folded_after 0 (2 * 2 ^ d) f p (omega (arith, at-most-512 d (omega arith)))

pub folded_window-past : (window : List ℤ) → length window ≡ window_length → (p : ℕ) → 2047 < p → folded_window window p ≡ pos 0
unfolding folded_window
folded_window-past window long p past =
    halved_from-past 10 (omega arith) (paired (held_by window)) p past
    ∙ folded_after 1 2047 (held_by window) p past
    ∙ get_or-eq_default window (pos 0) {n = p} (omega arith)

-- so the list of a folded window of 2,048 samples holds it at every place: 0 past the end
pub folded_list-held : (window : List ℤ) → length window ≡ window_length → held_by (folded_list window) ≡ folded_window window
folded_list-held window long = fun_ext (λ p. by_place p (dec_lt p window_length))
  where
    by_place : (p : ℕ) → Dec (p < window_length) → held_by (folded_list window) p ≡ folded_window window p
    by_place p (yes inside) = get_or-tabulate window_length (folded_window window) p (pos 0) inside
    by_place p (no outside) =
        let end : length (folded_list window) ≤ p = rw (length-tabulate window_length (folded_window window)) (omega arith) in
        get_or-eq_default (folded_list window) (pos 0) end ∙ sym (folded_window-past window long p (omega arith))

-- ---- what a call that is not refused leaves

module _ (recording : List ℤ) (start : ℕ) (wrong_count : Bool) (list : List ℤ) (passed : window_refusal recording start wrong_count ≡ no_refusal) where
  pub exit-is : folded_exit recording start wrong_count list ≡ folded_list (window_at recording start)
  unfolding folded_exit
  exit-is = unless_refused-accepted _ _ _ passed

  pub exit-long : length (folded_exit recording start wrong_count list) ≡ window_length
  exit-long = ap length exit-is ∙ length-tabulate window_length (folded_window (window_at recording start))

  pub exit-held : held_by (folded_exit recording start wrong_count list) ≡ folded_window (window_at recording start)
  exit-held = ap held_by exit-is ∙ folded_list-held (window_at recording start) (window-accepted recording start wrong_count passed).in-range.whole-window

-- what the call's proof cites
pub ruleset folded_calls = (accepted_window, list-of-held)
