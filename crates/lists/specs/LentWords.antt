-- Words that a caller lends or receives.
use Rattle.std.specs.Prelude.{List, ℕ, ◌+◌, get_or}
use Rattle.algebra.specs.Lists.{tabulate}

-- so many words from a place on; words that are missing count as 0
unfoldable pub words_from : ℕ → ℕ → List ℕ → List ℕ
words_from place count words = tabulate count (λ i. get_or words (place + i) 0)
