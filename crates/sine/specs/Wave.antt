-- The sine table of document 01: each of the 513 entries of the quarter wave is 2^30 times the exact sine, to the nearest whole number, halves up.
use Rattle.std.specs.Prelude.{List, ℕ, ◌+◌, ◌*◌, ◌^◌, ◌≤◌, ℤ, pos, nat_abs, ◌-ℤ◌, ◌*ℤ◌, get_or}
use Rattle.algebra.specs.Lists.{tabulate}
use Rattle.algebra.specs.Rounding.{nearest}
use Rattle.sine.specs.Turn.{over_turn, turn, quarter_turn}
use Rattle.sine.specs.ExactSine.{quarter_sine, denominator}

-- the table's value for a sine of 1
abbrev pub full_scale : ℕ
full_scale = 2 ^ 30

-- the table's entry at m = 0..512
unfoldable pub table_entry : ℕ → ℕ
table_entry m = nearest (full_scale * quarter_sine m) denominator

-- the table's sine at any index of the turn
unfoldable pub table_sine : ℕ → ℤ
table_sine i = over_turn table_entry i

-- "cosine at m is sine at m+512"
unfoldable pub table_cosine : ℕ → ℤ
table_cosine i = table_sine (i + quarter_turn)

-- a table value at most half a unit from 2^30 times an exact sine, which is given by its numerator over the denominator
abbrev pub WithinHalfUnit : ℤ → ℤ → Type 0
WithinHalfUnit exact table = 2 * nat_abs (pos full_scale *ℤ exact -ℤ pos denominator *ℤ table) ≤ denominator

-- "The 513 entries of the quarter wave"
unfoldable pub quarter_list : List ℕ
quarter_list = tabulate (quarter_turn + 1) table_entry

-- the height at a place of a lent quarter, 0 past its end
abbrev pub height_in : List ℕ → ℕ → ℕ
height_in quarter m = get_or quarter m 0

-- the wave: the table's sine at each index of a turn
unfoldable pub wave_list : List ℤ
wave_list = tabulate turn table_sine
