-- Both systems under both editions: what holds of every known setup holds of each of the four.
use mathlib.Core.Path.{◌≡◌, refl}
use mathlib.Core.Bool.{true}
use Rattle.rows.specs.Systems.{is_system}
use Rattle.rows.specs.Editions.{is_edition}
use Rattle.rows.specs.Setups.{setup_of, is_setup}
use Rattle.rows.specs.declared.Setup.{Setup}

-- at 50 Hz and at 60 Hz, under edition 2 and under A1
abbrev pub EachSetup : (Setup → Type 0) → Type 0
EachSetup P = P (setup_of 10 0) × P (setup_of 12 0) × P (setup_of 10 1) × P (setup_of 12 1)

pub each-setup : (P : Setup → Type 0) → ((setup : Setup) → is_setup setup ≡ true → P setup) → EachSetup P
unfolding is_setup is_system is_edition
each-setup P holds = (
  holds (setup_of 10 0) refl,
  holds (setup_of 12 0) refl,
  holds (setup_of 10 1) refl,
  holds (setup_of 12 1) refl,
)
