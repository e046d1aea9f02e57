-- Rounding of a fraction to a whole number. To the nearest, halves up: the one rounding of document 01, which the sine table, the sums of a line and the
-- smoothing share. And up, for a bound.
use Rattle.std.specs.Prelude.{ℕ, ◌+◌, ◌-◌, ◌*◌, ◌/◌, ℤ, pos, negsuc, ◌+ℤ◌, ◌*ℤ◌}

-- n over d, d above 0: the whole part of n/d + 1/2
unfoldable pub nearest : ℕ → ℕ → ℕ
nearest n d = (2 * n + d) / (2 * d)

-- the whole part of z over d, rounded down also below 0
unfoldable pub floor_over : ℤ → ℕ → ℤ
floor_over (pos n) d = pos (n / d)
floor_over (negsuc n) d = negsuc (n / d)

-- the same rounding of a fraction with a sign
unfoldable pub nearestℤ : ℤ → ℕ → ℤ
nearestℤ z d = floor_over (pos 2 *ℤ z +ℤ pos d) (2 * d)

-- n over d, d above 0, rounded up (document 02, card 14)
unfoldable pub rounded_up : ℕ → ℕ → ℕ
rounded_up n d = (n + (d - 1)) / d
