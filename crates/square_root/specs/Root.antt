-- The whole part of the square root (document 01, "Groups": "a value is the whole part of the square root of the sum of 2×w×L").
use Rattle.std.specs.Prelude.{ℕ, ◌+◌, ◌*◌, ◌^◌, leb}
use Rattle.algebra.specs.Largest.{largest}

-- the binary digits of the largest root that is looked for
abbrev pub root_digits : ℕ
root_digits = 64

-- the numbers below this have a root of that many digits
abbrev pub root_limit : ℕ
root_limit = 2 ^ (root_digits + root_digits)

-- the largest r with r² at most n, for n below `root_limit`
unfoldable pub root_of : ℕ → ℕ
root_of n = largest (λ r. leb (r * r) n) root_digits
