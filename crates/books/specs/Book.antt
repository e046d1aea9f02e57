-- The book of one order (document 01, "Exact book"): a count, the smoothed value, the sum of smoothed values and their peak.
-- It is defined once over the numbers that it is fed, since the reported book is the exact book "fed the row's own value and rounding".
use Rattle.std.specs.Prelude.{cond, ℕ, ◌+◌, eqb}

-- the numbers of a book, with what it does with them
pub record Numbers : Type 1 where
  pub Value : Type 0
  pub none : Value
  -- the smoothing of a new value and the old smoothed one
  pub smooth : Value → Value → Value
  pub plus : Value → Value → Value
  pub greater : Value → Value → Value

module _ (𝓝 : Numbers) where
  pub record Book : Type 0 where
    pub count : ℕ
    pub smoothed : 𝓝.Value
    pub sum : 𝓝.Value
    pub peak : 𝓝.Value

  -- at first: zeros
  unfoldable pub empty_book : Book
  empty_book = record { count = 0; smoothed = 𝓝.none; sum = 𝓝.none; peak = 𝓝.none }

  -- "the first fraction becomes the smoothed one", later it is smoothed with the old
  unfoldable pub smoothed_next : Book → 𝓝.Value → 𝓝.Value
  smoothed_next book new = cond (eqb book.count 0) new (𝓝.smooth new book.smoothed)

  -- an accepted value: the count grows by 1, the smoothed value is added to the sum, and the peak becomes the greater of itself and that value
  unfoldable pub book_step : Book → 𝓝.Value → Book
  book_step book new =
      record {
        count = book.count + 1;
        smoothed = smoothed_next book new;
        sum = 𝓝.plus book.sum (smoothed_next book new);
        peak = 𝓝.greater book.peak (smoothed_next book new);
      }
