-- The systems (document 01: "the system N is 10 (50 Hz) or 12 (60 Hz): the cycles in a window").
use Rattle.std.specs.Prelude.{Bool, not, ◌||◌, ℕ, eqb}
use Rattle.refusals.specs.Numbers.{unknown_system}

unfoldable pub is_system : ℕ → Bool
is_system n = eqb n 10 || eqb n 12

-- the check "1 system not 10 or 12"
abbrev pub system_check : ℕ → Bool × ℕ
system_check n = (not (is_system n), unknown_system)
