-- The first 40 words: where there are 40, all of them. And the row that is refused, in figures.
use mathlib.Core.List.{List}
use mathlib.Core.Path.{◌≡◌, refl, ap}
use Prim.Native.Nat.{ℕ}
use native.Mathlib.Nat.{zero-add}
use lib.ListN.{length, get_or, replicate}
use Rattle.algebra.proofs.Lists.{tabulate-eq, tabulate-whole}
use Rattle.lists.specs.LentWords.{words_from}
use Rattle.rows.specs.Orders.{order_count}
use Rattle.rows.specs.Rows.{first_values, refused_row}
use Rattle.rows.specs.Setups.{setup_of}

-- they are the words from the first on
pub first_values-is : (words : List ℕ) → words_from 0 order_count words ≡ first_values words
unfolding first_values words_from
first_values-is words = tabulate-eq order_count _ _ (λ i inside. ap (λ place. get_or words place 0) (zero-add i))

pub first_values-whole : (words : List ℕ) → length words ≡ order_count → first_values words ≡ words
unfolding first_values
first_values-whole words long = tabulate-whole 0 words order_count long

-- "system 10, zeros", and edition 2
refused_row-worked : refused_row ≡ record { setup = setup_of 10 0; values = replicate 40 0 }
unfolding refused_row
refused_row-worked = refl
