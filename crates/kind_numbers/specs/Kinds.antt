-- The numbers that stand for the kinds of document 01's table "Groups".
use Rattle.std.specs.Prelude.{Bool, not, List, [], ◌∷◌, ℕ, ltb, length, get_or}
use Rattle.exported_answers.specs.OwnChecks.{unknown_kind}
use Rattle.kinds.specs.declared.Kind.{Kind}
use Rattle.kinds.specs.declared.Kind.TheVariants.{Component, HarmonicGroup, HarmonicSubgroup, InterharmonicGroup, InterharmonicCentredSubgroup}

-- the kinds in the table's order: a kind's number is its place, from 0 on
unfoldable pub kinds : List Kind
kinds =
    Component
    ∷ HarmonicGroup
    ∷ HarmonicSubgroup
    ∷ InterharmonicGroup
    ∷ InterharmonicCentredSubgroup
    ∷ []

unfoldable pub is_kind : ℕ → Bool
is_kind number = ltb number (length kinds)

-- the kind with a number; past the last number, where no call goes, the last
unfoldable pub kind_with : ℕ → Kind
kind_with number = get_or kinds number InterharmonicCentredSubgroup

-- the check "101 no kind has the number"
abbrev pub kind_check : ℕ → Bool × ℕ
kind_check number = (not (is_kind number), unknown_kind)
