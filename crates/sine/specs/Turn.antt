-- A turn of 2,048 indices from its first quarter, "by the usual reflections, index modulo 2,048" (document 01, "Exact sine").
use Rattle.std.specs.Prelude.{cond, ℕ, ◌-◌, ◌%◌, leb, ltb, ℤ, pos, neg_ℤ}

-- indices in a turn, in half of it and in a quarter
abbrev pub turn : ℕ
turn = 2048

abbrev pub half_turn : ℕ
half_turn = 1024

abbrev pub quarter_turn : ℕ
quarter_turn = 512

-- the first half turn: the quarter wave 0..512, and back from 512 to 0
unfoldable pub over_half : (ℕ → ℕ) → ℕ → ℕ
over_half quarter r = cond (leb r quarter_turn) (quarter r) (quarter (half_turn - r))

-- the whole turn: the second half is the first with a minus
unfoldable pub over_turn : (ℕ → ℕ) → ℕ → ℤ
over_turn quarter i =
    cond (ltb (i % turn) half_turn) (pos (over_half quarter (i % turn)))
    (neg_ℤ (pos (over_half quarter (i % turn - half_turn))))
