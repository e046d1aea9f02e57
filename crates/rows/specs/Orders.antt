-- The harmonic orders of a row (document 01, "Groups").
use Rattle.std.specs.Prelude.{Bool, not, ◌&&◌, ℕ, leb, ltb}
use Rattle.refusals.specs.Numbers.{order_out_of_range}

-- the orders are 1..40
abbrev pub order_count : ℕ
order_count = 40

unfoldable pub is_order : ℕ → Bool
is_order h = ltb 0 h && leb h order_count

-- the check "6 order outside 1..40"
abbrev pub order_check : ℕ → Bool × ℕ
order_check h = (not (is_order h), order_out_of_range)
