-- The edges of the refusal table's row "spectrum" and of its order, worked on the definitions in figures: the number, and what a refused call leaves in its buffer.
-- Beside them those of a call for a part of the lines.
use mathlib.Core.List.{List, [], ◌∷◌, map}
use mathlib.Core.Path.{◌≡◌, refl}
use Prim.Native.Nat.{ℕ, ◌-◌, ◌^◌}
use lib.IntN.{ℤ, pos, negsuc}
use lib.ListN.{replicate}
use Rattle.windows.specs.Window.{window_at, out_of_range}
use Rattle.spectrum.specs.Spectrum.{spectrum_refusal, spectrum_exit}
use Rattle.spectral_lines.specs.Calls.{lines_from_refusal, lines_from_exit}

-- a recording, a start, the length of the buffer, and the refusal
pub record Case : Type 0 where
  pub recording : List ℤ
  pub start : ℕ
  pub room : ℕ
  pub refusal : ℕ

abbrev case : List ℤ → ℕ → ℕ → ℕ → Case
case recording start room refusal =
    record { recording = recording; start = start; room = room; refusal = refusal }

abbrev taken : List Case
taken =
    -- the largest and the smallest sample
    case (replicate 2048 (pos 131071)) 0 512 0 ∷
    case (replicate 2048 (negsuc 131070)) 0 512 0 ∷
    -- the window ends with the recording
    case (replicate 2049 (pos 0)) 1 512 0 ∷
    -- a sample before the window, which is not looked at
    case (pos 131072 ∷ replicate 2048 (pos 0)) 1 512 0 ∷
    []

abbrev refused : List Case
refused =
    -- a sample one larger than the largest, and one smaller than the smallest
    case (replicate 2048 (pos 131072)) 0 512 3 ∷
    case (replicate 2048 (negsuc 131071)) 0 512 3 ∷
    -- the window ends past the recording
    case (replicate 2049 (pos 0)) 2 512 2 ∷
    case (replicate 2049 (pos 0)) (2 ^ 64 - 1) 512 2 ∷
    -- a line too few, and one too many
    case (replicate 2048 (pos 0)) 0 511 4 ∷
    case (replicate 2048 (pos 0)) 0 513 4 ∷
    -- two faults: the earlier in the row decides
    case (replicate 2047 (pos 0)) 0 511 2 ∷
    case (replicate 2048 (pos 131072)) 0 511 4 ∷
    case (replicate 2047 (pos 131072)) 0 512 2 ∷
    []

-- what each call is lent
abbrev sevens : Case → List ℕ
sevens c = replicate c.room 7

-- the refusal, and the buffer after the call
abbrev called : Case → ℕ × List ℕ
called c =
    (spectrum_refusal c.recording c.start (sevens c), spectrum_exit c.recording c.start (sevens c))

taken-worked : map (λ c. (called c).0) taken ≡ map (λ c. c.refusal) taken
unfolding spectrum_refusal window_at out_of_range
taken-worked = refl

-- a refused call leaves what it was lent
abbrev expected : Case → ℕ × List ℕ
expected c = (c.refusal, sevens c)

refused-worked : map called refused ≡ map expected refused
unfolding spectrum_refusal spectrum_exit window_at out_of_range
refused-worked = refl

-- ---- a part of the lines

-- a recording from whose start the window begins, the first line, the length of the buffer, and the refusal
pub record PartCase : Type 0 where
  pub recording : List ℤ
  pub first : ℕ
  pub room : ℕ
  pub refusal : ℕ

abbrev part_case : List ℤ → ℕ → ℕ → ℕ → PartCase
part_case recording first room refusal =
    record { recording = recording; first = first; room = room; refusal = refusal }

abbrev taken_parts : List PartCase
taken_parts =
    -- the last line, and no line after it
    part_case (replicate 2048 (pos 0)) 1023 1 0 ∷
    part_case (replicate 2048 (pos 0)) 1024 0 0 ∷
    -- the upper half
    part_case (replicate 2048 (pos 0)) 512 512 0 ∷
    []

abbrev refused_parts : List PartCase
refused_parts =
    -- a line past the last one, also where the first is so large that the sum would wrap
    part_case (replicate 2048 (pos 0)) 1024 1 4 ∷
    part_case (replicate 2048 (pos 0)) 0 1025 4 ∷
    part_case (replicate 2048 (pos 0)) (2 ^ 64 - 1) 1 4 ∷
    part_case (replicate 2048 (pos 0)) (2 ^ 64 - 1) 0 4 ∷
    -- a short window, and a sample out of range
    part_case (replicate 2047 (pos 0)) 0 1 2 ∷
    part_case (replicate 2048 (pos 131072)) 1023 1 3 ∷
    -- two faults: the earlier in the row decides
    part_case (replicate 2047 (pos 0)) 1024 1 2 ∷
    part_case (replicate 2048 (pos 131072)) 1024 1 4 ∷
    part_case (replicate 2047 (pos 131072)) 0 1 2 ∷
    []

abbrev part_sevens : PartCase → List ℕ
part_sevens c = replicate c.room 7

abbrev part_called : PartCase → ℕ × List ℕ
part_called c =
    (lines_from_refusal c.recording 0 c.first (part_sevens c), lines_from_exit c.recording 0 c.first (part_sevens c))

taken_parts-worked : map (λ c. (part_called c).0) taken_parts ≡ map (λ c. c.refusal) taken_parts
unfolding lines_from_refusal window_at out_of_range
taken_parts-worked = refl

refused_parts-worked : map part_called refused_parts ≡ map (λ c. (c.refusal, part_sevens c)) refused_parts
unfolding lines_from_refusal lines_from_exit window_at out_of_range
refused_parts-worked = refl
