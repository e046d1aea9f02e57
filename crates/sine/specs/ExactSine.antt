-- The exact sine of document 01: for m = 0..512 the sine series through the 21st power (eleven terms) of the angle m×p/1024, with p = 3141592653589793238 / 10^18.
-- All values have one denominator, `denominator`, so that a sum of them is a sum of whole numbers.
use Rattle.std.specs.Prelude.{ℕ, zero, suc, ◌+◌, ◌-◌, ◌*◌, ◌/◌, ◌^◌, ℤ}
use Rattle.sine.specs.Turn.{over_turn, quarter_turn}

-- p times 10^18
abbrev pub p_numerator : ℕ
p_numerator = 3141592653589793238

-- the angle of index m is m × p_numerator over this: 1024 × 10^18
abbrev pub angle_denominator : ℕ
angle_denominator = 1024 * 10 ^ 18

-- the highest power of the series
abbrev pub highest_power : ℕ
highest_power = 21

unfoldable pub factorial : ℕ → ℕ
factorial zero = 1
factorial (suc n) = suc n * factorial n

-- the common denominator of all terms at all indices
unfoldable pub denominator : ℕ
denominator = angle_denominator ^ highest_power * factorial highest_power

-- angle^e / e! at the index m, times the denominator
unfoldable pub term : ℕ → ℕ → ℕ
term m e =
    (m * p_numerator) ^ e * angle_denominator ^ (highest_power - e) * (factorial highest_power / factorial e)

-- the terms that the series adds, and those that it takes away
unfoldable pub added : ℕ → ℕ
added m = term m 1 + term m 5 + term m 9 + term m 13 + term m 17 + term m 21

unfoldable pub taken_away : ℕ → ℕ
taken_away m = term m 3 + term m 7 + term m 11 + term m 15 + term m 19

-- the exact sine at m = 0..512, times the denominator; nothing is cut off there, since `taken_away` is at most `added` (proofs/ExactSine.antt)
unfoldable pub quarter_sine : ℕ → ℕ
quarter_sine m = added m - taken_away m

-- the exact sine at any index of the turn, times the denominator
unfoldable pub exact_sine : ℕ → ℤ
exact_sine i = over_turn quarter_sine i

-- "cosine at m is sine at m+512"
unfoldable pub exact_cosine : ℕ → ℤ
exact_cosine i = exact_sine (i + quarter_turn)
