-- The wave that is made of the table's quarter is the table's, and has 32 bits.
use mathlib.Core.Path.{◌≡◌, ap, ◌∙◌}
use native.Mathlib.Omega.{arith}
use mir.Syntax.{w32}
use mir.Val.{SFits}
use Rattle.algebra.proofs.Signed.{sfits-nat_abs, cut, cut_fits}
use Rattle.sine.specs.Turn.{over_turn}
use Rattle.sine.specs.Wave.{height_in, table_sine}
use Rattle.sine.proofs.Wave.{table_sine-le, quarter_list-wave}
use Rattle.single_lines.proofs.alone.Window.sine_at.Goals as goal

is-table : (c : goal.After-wave_at) → c.wave_at.result ≡ table_sine c.args.index
is-table c =
    c.wave_at.ensures
    ∙ ap (λ quarter. over_turn (height_in quarter) c.args.index) c.args.self.now.quarter_value
    ∙ quarter_list-wave c.args.index

fits : (c : goal.After-wave_at) → SFits w32 c.wave_at.result
fits c = sfits-nat_abs w32 c.wave_at.result (rw (is-table c) (omega (arith, table_sine-le c.args.index)))

pub overflow_cast-result : goal.overflow_cast-result
overflow_cast-result c = cut_fits c.wave_at.result (fits c)

pub returns : goal.returns
returns c = cut c.wave_at.result (fits c) ∙ is-table c
