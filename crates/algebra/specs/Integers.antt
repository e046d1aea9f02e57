-- Whole numbers with a sign.
use Rattle.std.specs.Prelude.{ℕ, ◌*◌, ℤ, nat_abs}

-- the square of a whole number
unfoldable pub square : ℤ → ℕ
square z = nat_abs z * nat_abs z
