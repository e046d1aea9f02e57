-- The call worked on the definitions in figures: what an accepted one leaves at some places; and the edges of its checks and of their order, each with the number and what a refused call leaves.
use mathlib.Core.Bool.{Bool, true, false}
use mathlib.Core.List.{List, [], ◌∷◌, ◌++◌, map}
use mathlib.Core.Path.{◌≡◌, refl, ap, ◌∙◌}
use Prim.Native.Nat.{ℕ}
use lib.IntN.{ℤ, pos, negsuc}
use lib.ListN.{replicate}
use Rattle.refusals.specs.Numbers.{no_refusal}
use Rattle.windows.specs.Window.{window_at, out_of_range}
use Rattle.windows.specs.Checks.{window_refusal}
use Rattle.spectral_lines.specs.Folding.{held_by, folded}
use Rattle.folding.specs.Halving.{halved, halved_from, folded_window}
use Rattle.folding.specs.Folded.{folded_exit}
use Rattle.folding.proofs.FoldedList.{exit-held}

-- what each call is lent
abbrev sevens : List ℤ
sevens = replicate 2048 (pos 7)

-- ---- an accepted call

-- a sample before the window, and the window: 100, 3, 20 and 1,000 at 424, 600, 1448 and 1624, and else 0. In each line the cosine has one size at these four places, and so has the sine.
abbrev four_samples : List ℤ
four_samples =
    pos 5 ∷ replicate 424 (pos 0)
    ++ pos 100 ∷ replicate 175 (pos 0)
    ++ pos 3 ∷ replicate 847 (pos 0)
    ++ pos 20 ∷ replicate 175 (pos 0)
    ++ pos 1000 ∷ replicate 423 (pos 0)

taken : window_refusal four_samples 1 false ≡ no_refusal
unfolding window_refusal window_at out_of_range
taken = refl

abbrev places : List ℕ
places = 600 ∷ 1448 ∷ 424 ∷ 1624 ∷ []

-- line 1: at 600 and 1448 one cosine, at 424 and 1624 its opposite, so 3 + 20 − 100 − 1000; at 1448 and 1624 one sine, at 424 and 600 its opposite, so 20 + 1000 − 100 − 3
-- line 2: one cosine at all four, so 100 + 3 + 20 + 1000; at 600 and 1624 one sine, at 424 and 1448 its opposite, so 1000 + 3 − 100 − 20
abbrev joined : List ℤ
joined = negsuc 1076 ∷ pos 917 ∷ pos 1123 ∷ pos 883 ∷ []

window-worked : map (folded_window (window_at four_samples 1)) places ≡ joined
unfolding window_at folded halved halved_from folded_window
window-worked = refl

taken-worked : map (held_by (folded_exit four_samples 1 false sevens)) places ≡ joined
taken-worked = ap (λ f. map f places) (exit-held four_samples 1 false sevens taken) ∙ window-worked

-- ---- refused calls

-- a recording, a start, whether the caller's buffer has the wrong length, and the refusal
pub record Case : Type 0 where
  pub recording : List ℤ
  pub start : ℕ
  pub wrong-count : Bool
  pub refusal : ℕ

abbrev case : List ℤ → ℕ → Bool → ℕ → Case
case recording start wrong_count refusal =
    record { recording = recording; start = start; wrong-count = wrong_count; refusal = refusal }

abbrev refused : List Case
refused =
    -- a sample one larger than the largest, and one smaller than the smallest
    case (replicate 2048 (pos 131072)) 0 false 3 ∷
    case (replicate 2048 (negsuc 131071)) 0 false 3 ∷
    -- the window ends past the recording
    case (replicate 2048 (pos 0)) 1 false 2 ∷
    -- the caller's buffer
    case (replicate 2048 (pos 0)) 0 true 4 ∷
    -- two faults: the earlier in the row decides
    case (replicate 2047 (pos 0)) 0 true 2 ∷
    case (replicate 2048 (pos 131072)) 0 true 4 ∷
    case (replicate 2047 (pos 131072)) 0 false 2 ∷
    []

-- the refusal, and the list after the call
abbrev called : Case → ℕ × List ℤ
called c = (
  window_refusal c.recording c.start c.wrong-count,
  folded_exit c.recording c.start c.wrong-count sevens,
)

-- a refused call leaves what it was lent
refused-worked : map called refused ≡ map (λ c. (c.refusal, sevens)) refused
unfolding window_refusal folded_exit window_at out_of_range
refused-worked = refl
