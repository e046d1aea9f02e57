-- The edges of the panel's call and of its checks' order, worked on the definitions in figures: the number, what the buffer then holds, and the row of a call that is refused.
use mathlib.Core.Bool.{Bool, true, false}
use mathlib.Core.List.{List, [], ◌∷◌, ◌++◌, map}
use mathlib.Core.Path.{◌≡◌, refl}
use Prim.Native.Nat.{ℕ, ◌-◌, ◌^◌}
use lib.IntN.{ℤ, pos, negsuc}
use lib.ListN.{replicate}
use Rattle.rows.specs.Editions.{is_edition}
use Rattle.rows.specs.Rows.{refused_row, RowAnswer}
use Rattle.rows.specs.Setups.{setup_of}
use Rattle.rows.specs.Systems.{is_system}
use Rattle.rows.specs.declared.Setup.{Setup}
use Rattle.windows.specs.Window.{window_at, out_of_range}
use Rattle.kinds.specs.declared.Span.{Span}
use Rattle.kinds.specs.Kinds.{span_of, grouped_as}
use Rattle.panel.specs.Panel.{panel_refusal, panel_answer, panel_exit, first_line, panel_span}

-- a setup, a recording, a start, the length of the buffer, and the refusal
pub record Case : Type 0 where
  pub setup : Setup
  pub recording : List ℤ
  pub start : ℕ
  pub room : ℕ
  pub refusal : ℕ

abbrev case : ℕ → ℕ → List ℤ → ℕ → ℕ → ℕ → Case
case system edition recording start room refusal =
    record { setup = setup_of system edition; recording = recording; start = start; room = room; refusal = refusal }

abbrev taken : List Case
taken =
    -- both systems under both editions
    case 10 0 (replicate 2048 (pos 131071)) 0 13 0 ∷
    case 12 0 (replicate 2048 (negsuc 131070)) 0 13 0 ∷
    case 10 1 (replicate 2049 (pos 0)) 1 13 0 ∷
    -- a sample before the window, which is not looked at
    case 12 1 (pos 131072 ∷ replicate 2048 (pos 0)) 1 13 0 ∷
    -- and one after it
    case 12 1 (replicate 2048 (pos 0) ++ (pos 131072 ∷ [])) 0 13 0 ∷
    []

abbrev refused : List Case
refused =
    -- neither 10 nor 12, and a third edition
    case 11 0 (replicate 2048 (pos 0)) 0 13 1 ∷
    case 13 0 (replicate 2048 (pos 0)) 0 13 1 ∷
    case 12 2 (replicate 2048 (pos 0)) 0 13 19 ∷
    -- the window ends past the recording
    case 12 0 (replicate 2049 (pos 0)) 2 13 2 ∷
    case 12 0 (replicate 2049 (pos 0)) (2 ^ 64 - 1) 13 2 ∷
    -- a line too few, and one too many; the lines of a group at 50 Hz, and those of a spectrum; none
    case 12 0 (replicate 2048 (pos 0)) 0 12 4 ∷
    case 12 0 (replicate 2048 (pos 0)) 0 14 4 ∷
    case 10 0 (replicate 2048 (pos 0)) 0 11 4 ∷
    case 10 0 (replicate 2048 (pos 0)) 0 512 4 ∷
    case 10 0 (replicate 2048 (pos 0)) 0 0 4 ∷
    -- a sample one larger than the largest, and one smaller than the smallest
    case 12 1 (replicate 2048 (pos 131072)) 0 13 3 ∷
    case 12 1 (replicate 2048 (negsuc 131071)) 0 13 3 ∷
    -- two faults, neighbours in the row and others: the earlier decides
    case 11 2 (replicate 2048 (pos 0)) 0 13 1 ∷
    case 10 2 (replicate 2047 (pos 0)) 0 13 19 ∷
    case 10 1 (replicate 2047 (pos 0)) 0 12 2 ∷
    case 10 1 (replicate 2048 (pos 131072)) 0 12 4 ∷
    case 10 1 (replicate 2047 (pos 131072)) 0 13 2 ∷
    case 0 0 (replicate 2048 (pos 131072)) 0 13 1 ∷
    []

-- what each call is lent
abbrev sevens : Case → List ℕ
sevens c = replicate c.room 7

-- the refusal, and the buffer after the call
abbrev called : Case → ℕ × List ℕ
called c =
    (panel_refusal c.setup c.recording c.start (sevens c), panel_exit c.setup c.recording c.start (sevens c))

taken-worked : map called taken ≡ map (λ c. (c.refusal, replicate 13 0)) taken
unfolding panel_refusal panel_exit is_system is_edition window_at out_of_range
taken-worked = refl

refused-worked : map called refused ≡ map (λ c. (c.refusal, sevens c)) refused
unfolding panel_refusal panel_exit is_system is_edition window_at out_of_range
refused-worked = refl

-- a refused row: 40 zeros of system 10 and edition 2, whatever was asked
refused_answer : ℕ → RowAnswer
refused_answer refusal = record { refusal = refusal; row = record { setup = setup_of 10 0; values = replicate 40 0 } }

refused-rows-worked : map (λ c. panel_answer c.setup c.recording c.start (sevens c)) refused ≡ map (λ c. refused_answer c.refusal) refused
unfolding panel_answer panel_refusal is_system is_edition window_at out_of_range refused_row refused_answer
refused-rows-worked = refl

-- where the lines of an order stand in the buffer: the number of the first line, and the span from it on
abbrev span : ℕ → ℕ → Bool → Span
span first count half_ends = record { first = first; count = count; half_ends = half_ends }

abbrev places : List (Setup × ℕ × ℕ × Span)
places =
    (setup_of 10 0, 1, 5, span 0 11 true) ∷
    (setup_of 10 1, 1, 5, span 5 1 false) ∷
    (setup_of 12 1, 1, 6, span 6 1 false) ∷
    (setup_of 10 1, 2, 15, span 0 11 true) ∷
    (setup_of 12 0, 40, 474, span 0 13 true) ∷
    []

places-worked :
    (map (λ c. first_line c.0 c.1) places ≡ map (λ c. c.2) places) × (map (λ c. panel_span c.0 c.1) places ≡ map (λ c. c.3) places)
unfolding span_of grouped_as panel_span
places-worked = (refl, refl)
