-- The listing (document 01, "Columns and the listing"): a header, then a line for each order of which a value is not zero, and for order 1 always; and the row "listing" of the refusal table.
use Rattle.std.specs.Prelude.{Bool, cond, not, ◌&&◌, List, [], ◌∷◌, ◌++◌, ℕ, zero, suc, ◌+◌, ◌*◌, eqb, ltb, pos, length, get_or, drop}
use Rattle.rows.specs.Orders.{order_count}
use Rattle.refusals.specs.Numbers.{wrong_buffer_length}
use Rattle.refusals.specs.Answers.{Answer, first_fault, unless_refused, answer}
use Rattle.columns.specs.Text.{newline, bytes_of, right_justified}
use Rattle.columns.specs.Column.{column_text}

-- "order in bytes 1..3, group 4..15, subgroup 16..27, smoothed 28..39"
abbrev pub order_width : ℕ
order_width = 3

abbrev pub value_width : ℕ
value_width = 12

-- the columns of a line and its newline
abbrev pub text_line_length : ℕ
text_line_length = order_width + 3 * value_width + 1

-- "each name right-justified in its column"
unfoldable pub header : List ℕ
header =
    right_justified order_width (bytes_of "h")
    ++ right_justified value_width (bytes_of "group")
    ++ right_justified value_width (bytes_of "subgroup")
    ++ right_justified value_width (bytes_of "smoothed")
    ++ (newline ∷ [])

-- the line of order h with its three values
unfoldable pub order_line : ℕ → ℕ → ℕ → ℕ → List ℕ
order_line h group subgroup smoothed =
    column_text order_width (pos h)
    ++ column_text value_width (pos group)
    ++ column_text value_width (pos subgroup)
    ++ column_text value_width (pos smoothed)
    ++ (newline ∷ [])

-- "An order with three zeros is left out, except order 1"
abbrev pub left_out : ℕ → ℕ → ℕ → ℕ → Bool
left_out h group subgroup smoothed =
    eqb group 0 && eqb subgroup 0 && eqb smoothed 0 && not (eqb h 1)

-- what the listing has of order h
unfoldable pub order_text : ℕ → ℕ → ℕ → ℕ → List ℕ
order_text h group subgroup smoothed =
    cond (left_out h group subgroup smoothed) [] (order_line h group subgroup smoothed)

-- what it has of the orders 1..n; the values of order 1 stand first in the lists
unfoldable pub orders_text : ℕ → List ℕ → List ℕ → List ℕ → List ℕ
orders_text zero group subgroup smoothed = []
orders_text (suc n) group subgroup smoothed =
    orders_text n group subgroup smoothed
    ++ order_text (suc n) (get_or group n 0) (get_or subgroup n 0) (get_or smoothed n 0)

-- the whole listing of three times 40 values
unfoldable pub listing_text : List ℕ → List ℕ → List ℕ → List ℕ
listing_text group subgroup smoothed = header ++ orders_text order_count group subgroup smoothed

-- the bytes that a listing may need: its header and the lines of 40 orders
abbrev pub listing_room : ℕ
listing_room = 1640

-- "14 buffer shorter than 1,640 bytes"
abbrev pub listing_checks : List ℕ → List (Bool × ℕ)
listing_checks buffer = (ltb (length buffer) listing_room, wrong_buffer_length) ∷ []

unfoldable pub listing_refusal : List ℕ → ℕ
listing_refusal buffer = first_fault (listing_checks buffer)

-- the count of bytes written
abbrev pub listing_answer : List ℕ → List ℕ → List ℕ → List ℕ → Answer
listing_answer buffer group subgroup smoothed =
    answer (listing_refusal buffer) (length (listing_text group subgroup smoothed))

-- what the buffer holds after a listing: "bytes after them stay"
unfoldable pub listing_exit : List ℕ → List ℕ → List ℕ → List ℕ → List ℕ
listing_exit buffer group subgroup smoothed =
    let text = listing_text group subgroup smoothed in
    unless_refused (listing_refusal buffer) (text ++ drop (length text) buffer) buffer
