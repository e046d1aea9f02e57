-- The editions of IEC 61000-4-7 (document 02, card 7: "the number 0 for 2 and 1 for A1").
use Rattle.std.specs.Prelude.{Bool, not, ◌||◌, ℕ, eqb}
use Rattle.refusals.specs.Numbers.{unknown_edition}

abbrev pub edition2 : ℕ
edition2 = 0

abbrev pub edition_a1 : ℕ
edition_a1 = 1

unfoldable pub is_edition : ℕ → Bool
is_edition e = eqb e edition2 || eqb e edition_a1

-- the check "19 edition not 0 or 1"
abbrev pub edition_check : ℕ → Bool × ℕ
edition_check e = (not (is_edition e), unknown_edition)
