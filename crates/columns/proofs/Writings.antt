-- What each step of the writer counts, and makes of a buffer, said of the definitions.
use mathlib.Core.List.{List, [], ◌∷◌, ◌++◌, append-nil}
use mathlib.Core.Path.{◌≡◌, refl, sym, ap, ◌∙◌}
use Prim.Native.Nat.{ℕ, suc, ◌+◌, ◌-◌, ◌*◌, ◌/◌, ◌%◌, ◌^◌, ◌≤◌, ◌<◌}
use native.Mathlib.Nat.{add-zero, pow-suc, pow-le-pow_right}
use native.Mathlib.Numerals.{add-one}
use native.Mathlib.Decide.{dec_lt}
use native.Mathlib.Omega.{arith}
use lib.ListN.{length, set, take, drop, replicate, length-append}
use lib.Seq.{set_split, take-append-le, take-take, take-length, length-take-le, drop_at, append_snoc}
use Rattle.columns.specs.Text.{right_justified, blank, AtEnd}
use Rattle.columns.specs.Column.{digit_byte, decimal_text}
use Rattle.columns.proofs.Decimal.{decimal-below, decimal-above, length-positive, length-le, length-gt}

pub at_end_none : (buffer : List ℕ) → AtEnd buffer [] (length buffer) buffer
at_end_none buffer = record { place = add-zero (length buffer); holds = sym (append-nil _ ∙ take-length buffer) }

module _ {buffer text after : List ℕ} {at : ℕ} (put : AtEnd buffer text at after) where
  pub at_end_length : length after ≡ length buffer
  at_end_length = rw (put.holds, length-append, length-take-le at buffer (omega (arith, put.place))) put.place

  -- one byte more before it
  pub at_end_more : (byte : ℕ) → 0 < at → AtEnd buffer (byte ∷ text) (at - 1) (set after (at - 1) byte)
  at_end_more byte some =
      let front = length-take-le at buffer (omega (arith, put.place)) in
      let next : suc (at - 1) ≡ at = omega arith in
      let kept : take (at - 1) after ≡ take (at - 1) buffer =
      rw put.holds (take-append-le (at - 1) (take at buffer) text (rw front (omega arith)) ∙ take-take (at - 1) at buffer (omega arith)) in
      let rest : drop at after ≡ text = rw put.holds (drop_at (take at buffer) text at front) in
      record {
        place = omega (arith, put.place);
        holds = set_split after (at - 1) byte (omega (arith, at_end_length, put.place)) ∙ rw (next, kept, rest);
      }

  -- blanks before it make the column
  pub at_end_column : replicate at blank ++ drop at after ≡ right_justified (length buffer) text
  unfolding right_justified
  at_end_column =
      let front = length-take-le at buffer (omega (arith, put.place)) in
      let left : length buffer - length text ≡ at = omega (arith, put.place) in
      rw (left, put.holds, drop_at (take at buffer) text at front)

-- the digits that are written so far, after those of the rest
pub record DigitsWritten (buffer : List ℕ) (number rest at : ℕ) (after : List ℕ) : Type 0 where
  pub written : List ℕ
  pub parts : decimal_text rest ++ written ≡ decimal_text number
  pub put : AtEnd buffer written at after

pub digits_none : (buffer : List ℕ) (number : ℕ) → DigitsWritten buffer number number (length buffer) buffer
digits_none buffer number = record { written = []; parts = append-nil _; put = at_end_none buffer }

module _ {buffer after : List ℕ} {number rest at : ℕ} (d : DigitsWritten buffer number rest at after) where
  -- there is room for the rest
  pub digits_room : length (decimal_text number) ≤ length buffer → 0 < at
  digits_room room =
      omega (arith, simp length-append at (ap length d.parts), d.put.place, length-positive rest)

  -- the last digit of the rest
  pub digits_more : 10 ≤ rest → 0 < at → DigitsWritten buffer number (rest / 10) (at - 1) (set after (at - 1) (digit_byte (rest % 10)))
  digits_more several some =
      record {
        written = digit_byte (rest % 10) ∷ d.written;
        parts = rw (decimal-above rest several, append_snoc) at d.parts;
        put = at_end_more d.put (digit_byte (rest % 10)) some;
      }

  -- the only digit of the rest
  pub digits_last : rest < 10 → 0 < at → AtEnd buffer (decimal_text number) (at - 1) (set after (at - 1) (digit_byte rest))
  digits_last one some =
      let all : digit_byte rest ∷ d.written ≡ decimal_text number = rw (decimal-below rest one) at d.parts in
      rw all at (at_end_more d.put (digit_byte rest) some)

-- the last two digits of the rest, taken off as one number below 100
pub digits_pair :
    {buffer after : List ℕ} {number rest at : ℕ} → DigitsWritten buffer number rest at after →
    100 ≤ rest → length (decimal_text number) ≤ length buffer →
    DigitsWritten buffer number (rest / 100) (at - 1 - 1) (set (set after (at - 1) (digit_byte (rest % 100 % 10))) (at - 1 - 1) (digit_byte (rest % 100 / 10)))
digits_pair {rest = rest} d several room =
    let one : rest % 100 % 10 ≡ rest % 10 = omega arith in
    let ten : rest % 100 / 10 ≡ rest / 10 % 10 = omega arith in
    let left : rest / 100 ≡ rest / 10 / 10 = omega arith in
    let last = digits_more d (omega arith) (digits_room d room) in
    rw (one, ten, left) (digits_more last (omega arith) (digits_room last room))

-- the digits that are counted so far by the powers of ten: `limit` is 1 with a 0 for each of them, and none of them is too many
pub record Counted (number count limit : ℕ) : Type 0 where
  pub some : 1 ≤ count
  pub few : count < limit
  pub limit-is : limit ≡ 10 ^ count
  pub counted : count ≤ length (decimal_text number)

pub counted_one : (number : ℕ) → Counted number 1 10
counted_one number = record { some = omega arith; few = omega arith; limit-is = refl; counted = length-positive number }

module _ {number count limit : ℕ} (c : Counted number count limit) where
  -- the number has one digit more
  pub counted_more : limit ≤ number → Counted number (count + 1) (limit * 10)
  counted_more h =
      record {
        some = omega arith;
        few = omega (arith, c.few);
        limit-is = rw (add-one, pow-suc 10 count, c.limit-is);
        counted = omega (arith, length-gt count number (rw (← c.limit-is) h));
      }

  -- or it has no more
  pub counted_all : number < limit → count ≡ length (decimal_text number)
  counted_all h =
      let last : suc (count - 1) ≡ count = omega (arith, c.some) in
      let below : number < 10 ^ suc (count - 1) = rw (last, ← c.limit-is) h in
      omega (arith, c.counted, length-le (count - 1) number below)

  -- the limit after it is a number of 64 bits
  pub limit_fits : limit ≤ 2 ^ 63 → limit * 10 < 2 ^ 64
  limit_fits h = by-test (dec_lt count 19)
    where
      by-test : Dec (count < 19) → limit * 10 < 2 ^ 64
      by-test (yes below) =
          let places : count ≤ 18 = omega arith in
          let most : 10 ^ count ≤ 10 ^ 18 = pow-le-pow_right (omega arith) places in
          omega (arith, c.limit-is, most)
      by-test (no above) =
          let places : 19 ≤ count = omega arith in
          let least : 10 ^ 19 ≤ 10 ^ count = pow-le-pow_right (omega arith) places in
          absurd (omega (arith, c.limit-is, least))
