-- What the call that fills a listing answers: document 01, "Columns and the listing", after the call's own checks.
use Rattle.std.specs.Prelude.{List, [], ◌∷◌, ℕ, length}
use Rattle.refusals.specs.Answers.{unless_refused}
use Rattle.listing.specs.Listing.{listing_text, listing_refusal, listing_exit}
use Rattle.rows.specs.Orders.{order_count}
use Rattle.exported_answers.specs.OwnChecks.{own_first, word_count_check}

module _ (group subgroup smoothed : List ℕ) where
  -- 102 for each of the three rows; then the row "listing"
  unfoldable pub listing_call_refusal : List ℕ → ℕ
  listing_call_refusal buffer =
      own_first
      (word_count_check order_count group
      ∷ word_count_check order_count subgroup
      ∷ word_count_check order_count smoothed
      ∷ [])
      (listing_refusal buffer)

  -- the bytes at exit; on a refusal what they were
  unfoldable pub listing_call_exit : List ℕ → List ℕ
  listing_call_exit buffer =
      unless_refused (listing_call_refusal buffer) (listing_exit buffer group subgroup smoothed) buffer

  -- the count of the listing's bytes at exit; on a refusal what it was
  unfoldable pub listing_call_count_exit : List ℕ → ℕ → ℕ
  listing_call_count_exit buffer written =
      unless_refused (listing_call_refusal buffer) (length (listing_text group subgroup smoothed)) written
