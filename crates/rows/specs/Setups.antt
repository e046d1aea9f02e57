-- What a row and a record are made under: the system (document 01) and the edition (document 02, card 7).
use Rattle.std.specs.Prelude.{Bool, ◌&&◌, List, [], ◌∷◌, ℕ, eqb}
use Rattle.rows.specs.declared.Setup.{Setup}
use Rattle.rows.specs.Systems.{is_system, system_check}
use Rattle.rows.specs.Editions.{is_edition, edition_check, edition2}

abbrev pub setup_of : ℕ → ℕ → Setup
setup_of system edition = record { system = system; edition = edition }

-- the system and the edition are known
unfoldable pub is_setup : Setup → Bool
is_setup setup = is_system setup.system && is_edition setup.edition

-- the edition is "tested directly after the system"
abbrev pub setup_checks : Setup → List (Bool × ℕ)
setup_checks setup = system_check setup.system ∷ edition_check setup.edition ∷ []

-- both have the same system and the same edition
unfoldable pub same_setup : Setup → Setup → Bool
same_setup a b = eqb a.system b.system && eqb a.edition b.edition

-- the setup of a record or a row that is refused: system 10, edition 2
abbrev pub refused_setup : Setup
refused_setup = setup_of 10 edition2
