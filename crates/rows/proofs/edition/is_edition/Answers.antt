-- `rows::edition::is_edition` meets its contract.
use mathlib.Core.Path.{refl}
use Rattle.rows.specs.Editions.{is_edition}
use Rattle.rows.proofs.edition.is_edition.Goals as goal

pub returns : goal.returns
unfolding is_edition
returns c = refl
