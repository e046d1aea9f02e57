-- What the calls of groups, of a row of groups and of its distortion answer: document 01, "Groups", after the calls' own checks.
use Rattle.std.specs.Prelude.{List, [], ◌∷◌, ℕ}
use Rattle.refusals.specs.Answers.{unless_refused}
use Rattle.groups.specs.Group.{group_value, group_refusal, group_values, group_row_refusal}
use Rattle.rows.specs.Orders.{order_count}
use Rattle.rows.specs.declared.Setup.{Setup}
use Rattle.distortion.specs.Distortion.{distortion_of, distortion_answer}
use Rattle.exported_answers.specs.OwnChecks.{own_first, word_count_check}
use Rattle.kind_numbers.specs.Kinds.{kind_with, kind_check}

-- 101; then the row "group value"
unfoldable pub group_call_refusal : ℕ → Setup → ℕ → List ℕ → ℕ
group_call_refusal kind setup order lines =
    own_first (kind_check kind ∷ []) (group_refusal setup order lines)

-- the value at exit; on a refusal what it was
unfoldable pub group_call_exit : ℕ → Setup → ℕ → List ℕ → ℕ → ℕ
group_call_exit kind setup order lines value =
    unless_refused (group_call_refusal kind setup order lines) (group_value (kind_with kind) setup order lines) value

-- 101; 102; then the row "group value" for all orders at once
unfoldable pub row_call_refusal : ℕ → Setup → List ℕ → List ℕ → ℕ
row_call_refusal kind setup lines values =
    own_first (kind_check kind ∷ word_count_check order_count values ∷ []) (group_row_refusal setup lines)

unfoldable pub row_call_exit : ℕ → Setup → List ℕ → List ℕ → List ℕ
row_call_exit kind setup lines values =
    unless_refused (row_call_refusal kind setup lines values) (group_values (kind_with kind) setup lines) values

-- 102; then the row "distortion"
unfoldable pub distortion_call_refusal : List ℕ → ℕ
distortion_call_refusal values =
    own_first (word_count_check order_count values ∷ []) (distortion_answer values).refusal

unfoldable pub distortion_call_exit : List ℕ → ℕ → ℕ
distortion_call_exit values parts_per_thousand =
    unless_refused (distortion_call_refusal values) (distortion_of values) parts_per_thousand
