-- `exported_answers::lent_values` meets its contract: where there are 40 words, the first 40 are all.
use mathlib.Core.Path.{◌∙◌}
use Rattle.rows.proofs.Rows.{first_values-whole}
use Rattle.exported_answers.proofs.lent_values.Goals as goal

pub returns-clause-values : goal.returns-clause-values
returns-clause-values c = c.first_values.ensures ∙ first_values-whole _ c.in_ok-check_word_count.ensures.passed
