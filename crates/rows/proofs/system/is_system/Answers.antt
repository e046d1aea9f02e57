-- `rows::system::is_system` meets its contract.
use mathlib.Core.Path.{refl}
use Rattle.rows.specs.Systems.{is_system}
use Rattle.rows.proofs.system.is_system.Goals as goal

pub returns : goal.returns
unfolding is_system
returns c = refl
