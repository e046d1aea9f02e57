-- A setup is known where its system and its edition are, and two with the same system and edition are the same.
use mathlib.Core.Path.{◌≡◌, refl, ap₂}
use mathlib.Core.Bool.{true, false}
use lib.Dec.{eqb}
use borrow.Author.Tests.{eqb-true, eq-eqb}
use Rattle.algebra.proofs.Tests.{and_left, and_right}
use Rattle.refusals.specs.Answers.{first_fault}
use Rattle.rows.specs.declared.Setup.{Setup}
use Rattle.rows.specs.Systems.{is_system}
use Rattle.rows.specs.Editions.{is_edition}
use Rattle.rows.specs.Setups.{is_setup, setup_of, setup_checks, same_setup, refused_setup}

pub record SetupParts (setup : Setup) : Type 0 where
  pub system-known : is_system setup.system ≡ true
  pub edition-known : is_edition setup.edition ≡ true

pub setup-parts : (setup : Setup) → is_setup setup ≡ true → SetupParts setup
unfolding is_setup
setup-parts setup e = record {
  system-known = and_left (is_system setup.system) (is_edition setup.edition) e;
  edition-known = and_right (is_system setup.system) (is_edition setup.edition) e;
}

pub is_setup-known : (setup : Setup) → is_system setup.system ≡ true → is_edition setup.edition ≡ true → is_setup setup ≡ true
unfolding is_setup
is_setup-known setup s e = rw (s, e)

pub same_setup-eq : (a b : Setup) → same_setup a b ≡ true → a ≡ b
unfolding same_setup
same_setup-eq a b e =
    ap₂ setup_of
    (eqb-true a.system b.system (and_left (eqb a.system b.system) (eqb a.edition b.edition) e))
    (eqb-true a.edition b.edition (and_right (eqb a.system b.system) (eqb a.edition b.edition) e))

pub same_setup-self : (setup : Setup) → same_setup setup setup ≡ true
unfolding same_setup
same_setup-self setup = rw (eq-eqb setup.system setup.system refl, eq-eqb setup.edition setup.edition refl)

pub refused-setup-known : is_setup refused_setup ≡ true
unfolding is_setup is_system is_edition
refused-setup-known = refl

-- the two checks in figures: neither fault, each fault, and both, of which the system's decides
setup_checks-worked :
    (first_fault (setup_checks (setup_of 10 0)) ≡ 0) × (first_fault (setup_checks (setup_of 12 1)) ≡ 0) ×
    (first_fault (setup_checks (setup_of 11 1)) ≡ 1) × (first_fault (setup_checks (setup_of 12 2)) ≡ 19) ×
    (first_fault (setup_checks (setup_of 0 2)) ≡ 1)
unfolding is_system is_edition
setup_checks-worked = (refl, refl, refl, refl, refl)

-- a setup is another where the system, the edition or both are
same_setup-worked :
    (same_setup (setup_of 10 0) (setup_of 10 0) ≡ true) × (same_setup (setup_of 10 0) (setup_of 12 0) ≡ false) ×
    (same_setup (setup_of 10 0) (setup_of 10 1) ≡ false) × (same_setup (setup_of 12 1) (setup_of 10 0) ≡ false)
unfolding same_setup
same_setup-worked = (refl, refl, refl, refl)
