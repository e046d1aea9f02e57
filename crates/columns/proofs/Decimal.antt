-- The decimal text of a number without sign: it is a text of digits of the form, its place value is the number, and no other text of the form has that value.
use mathlib.Core.Bool.{true, false, not, ◌&&◌, false≢true}
use mathlib.Core.List.{List, [], ◌∷◌, ◌++◌, append-nil, append_assoc}
use mathlib.Core.Path.{◌≡◌, refl, ap, ◌∙◌}
use Prim.Native.Nat.{ℕ, zero, suc, ◌+◌, ◌-◌, ◌*◌, ◌/◌, ◌%◌, ◌^◌, ◌≤◌, ◌<◌}
use native.Mathlib.Nat.{not-suc-le-zero, le_refl, pow-zero, pow-suc, one-le-pow}
use native.Mathlib.Decide.{dec_lt}
use native.Mathlib.Omega.{arith}
use borrow.Author.Tests.{lt-ltb, le-ltb, le-leb, ne_eqb, ltb-true, leb-true, eqb-false, not-true}
use lib.Dec.{eqb, leb, ltb}
use lib.ListN.{length, length-append}
use Rattle.std.proofs.lemmas.Bool.{and_parts}
use Rattle.columns.specs.Text.{digit_zero}
use Rattle.columns.specs.Column.{digit_byte, decimal_within, decimal_text, is_digit, are_digits, is_whole, place_value}

-- the number of places that the definition allows does not matter
within_same : (j k n : ℕ) → n < j → n < k → decimal_within j n ≡ decimal_within k n
unfolding decimal_within
within_same zero k n g h = absurd (not-suc-le-zero g)
within_same (suc j) zero n g h = absurd (not-suc-le-zero h)
within_same (suc j) (suc k) n g h = by-test (dec_lt n 10) (within_same j k (n / 10))
  where
    by-test : Dec (n < 10) → (n / 10 < j → n / 10 < k → decimal_within j (n / 10) ≡ decimal_within k (n / 10))
        → decimal_within (suc j) n ≡ decimal_within (suc k) n
    by-test (yes below) _ = rw (lt-ltb n 10 below)
    by-test (no above) same =
        let ten : 10 ≤ n = omega arith in
        rw (le-ltb n 10 ten) (ap (λ (t : List ℕ). t ++ (digit_byte (n % 10) ∷ [])) (same (omega arith) (omega arith)))

pub decimal-below : (n : ℕ) → n < 10 → decimal_text n ≡ digit_byte n ∷ []
unfolding decimal_text decimal_within
decimal-below n h = rw (lt-ltb n 10 h)

pub decimal-above : (n : ℕ) → 10 ≤ n → decimal_text n ≡ decimal_text (n / 10) ++ (digit_byte (n % 10) ∷ [])
unfolding decimal_text decimal_within
decimal-above n h =
    rw (le-ltb n 10 h)
    (ap (λ (t : List ℕ). t ++ (digit_byte (n % 10) ∷ [])) (within_same n (suc (n / 10)) (n / 10) (omega arith) (omega arith)))

pub length-below : (n : ℕ) → n < 10 → length (decimal_text n) ≡ 1
length-below n h = rw (decimal-below n h)

pub length_above : (n : ℕ) → 10 ≤ n → length (decimal_text n) ≡ length (decimal_text (n / 10)) + 1
length_above n h = rw (decimal-above n h, length-append)

pub length-positive : (n : ℕ) → 0 < length (decimal_text n)
length-positive n = by-test (dec_lt n 10)
  where
    by-test : Dec (n < 10) → 0 < length (decimal_text n)
    by-test (yes below) = omega (arith, length-below n below)
    by-test (no above) = omega (arith, length_above n (omega arith))

-- a number below 10^(w + 1) has at most w + 1 digits
pub length-le : (w n : ℕ) → n < 10 ^ suc w → length (decimal_text n) ≤ suc w
length-le zero n h = omega (arith, length-below n h)
length-le (suc w) n h = by-test (dec_lt n 10) (length-le w (n / 10))
  where
    by-test : Dec (n < 10) → (n / 10 < 10 ^ suc w → length (decimal_text (n / 10)) ≤ suc w) → length (decimal_text n) ≤ suc (suc w)
    by-test (yes below) _ = omega (arith, length-below n below)
    by-test (no above) tenth =
        let ten : 10 ≤ n = omega arith in
        let places : n < 10 ^ suc w * 10 = rw (← pow-suc 10 (suc w)) h in
        omega (arith, length_above n ten, tenth (omega arith))

-- and one from 10^w on has more than w
pub length-gt : (w n : ℕ) → 10 ^ w ≤ n → w < length (decimal_text n)
length-gt zero n h = length-positive n
length-gt (suc w) n h =
    let places : 10 ^ w * 10 ≤ n = rw (← pow-suc 10 w) h in
    let some = one-le-pow w 10 (omega arith) in
    omega (arith, length_above n (omega arith), length-gt w (n / 10) (omega arith))

-- induction over the digits, from the last one
pub decimal-ind : (P : ℕ → Type 0) → ((n : ℕ) → n < 10 → P n) → ((n : ℕ) → 10 ≤ n → P (n / 10) → P n) → (n : ℕ) → P n
decimal-ind P below above n = within (suc n) n (le_refl (suc n))
  where
    by-test : (n : ℕ) → Dec (n < 10) → (10 ≤ n → P (n / 10)) → P n
    by-test n (yes h) _ = below n h
    by-test n (no h) tenth = let ten : 10 ≤ n = omega arith in above n ten (tenth ten)

    within : (k n : ℕ) → n < k → P n
    within zero n h = absurd (not-suc-le-zero h)
    within (suc k) n h = by-test n (dec_lt n 10) (λ ten. within k (n / 10) (omega arith))

pub digit-of : (d : ℕ) → d < 10 → is_digit (digit_byte d) ≡ true
digit-of d h = rw (le-leb digit_zero (digit_byte d) (omega arith), lt-ltb (digit_byte d) (digit_zero + 10) (omega arith))

pub digit-bounds : (b : ℕ) → is_digit b ≡ true → (digit_zero ≤ b) × (b < digit_zero + 10)
digit-bounds b h =
    let two = and_parts (leb digit_zero b) (ltb b (digit_zero + 10)) h in
    (leb-true digit_zero b two.0, ltb-true b (digit_zero + 10) two.1)

digits-snoc : (text : List ℕ) (b : ℕ) → are_digits text ≡ true → is_digit b ≡ true → are_digits (text ++ (b ∷ [])) ≡ true
digits-snoc [] b g h = rw h
digits-snoc (c ∷ text) b g h =
    let two = and_parts (is_digit c) (are_digits text) g in
    rw (two.0, digits-snoc text b two.1 h)

pub value-snoc : (text : List ℕ) (b : ℕ) → place_value (text ++ (b ∷ [])) ≡ place_value text * 10 + (b - digit_zero)
unfolding place_value
value-snoc [] b = rw pow-zero (omega arith)
value-snoc (c ∷ text) b =
    let l : length (text ++ (b ∷ [])) ≡ suc (length text) = simp length-append (omega arith) in
    rw (l, pow-suc 10 (length text), value-snoc text b) (omega arith)

-- a text that begins with a digit that is not 0, with digits after it
record Leading (text : List ℕ) : Type 0 where
  first : ℕ
  rest : List ℕ
  parts : text ≡ first ∷ rest
  digit : is_digit first ≡ true
  no_zero : eqb first digit_zero ≡ false
  digits : are_digits rest ≡ true

leading-of-positive : (n : ℕ) → 0 < n → Leading (decimal_text n)
leading-of-positive = decimal-ind (λ n. 0 < n → Leading (decimal_text n)) one more
  where
    one : (n : ℕ) → n < 10 → 0 < n → Leading (decimal_text n)
    one n h some = record {
      first = digit_byte n;
      rest = [];
      parts = decimal-below n h;
      digit = digit-of n h;
      no_zero = ne_eqb (digit_byte n) digit_zero (λ e. omega arith);
      digits = refl;
    }

    more : (n : ℕ) → 10 ≤ n → (0 < n / 10 → Leading (decimal_text (n / 10))) → 0 < n → Leading (decimal_text n)
    more n h tenth some =
        let before = tenth (omega arith) in record {
          first = before.first;
          rest = before.rest ++ (digit_byte (n % 10) ∷ []);
          parts = decimal-above n h ∙ ap (λ (t : List ℕ). t ++ (digit_byte (n % 10) ∷ [])) before.parts;
          digit = before.digit;
          no_zero = before.no_zero;
          digits = digits-snoc before.rest (digit_byte (n % 10)) before.digits (digit-of (n % 10) (omega arith));
        }

whole-of-leading : (text : List ℕ) → Leading text → is_whole text ≡ true
unfolding is_whole
whole-of-leading text l = rw l.parts (by-rest l.rest l.digits)
  where
    by-rest : (rest : List ℕ) → are_digits rest ≡ true → is_whole (l.first ∷ rest) ≡ true
    by-rest [] h = l.digit
    by-rest (c ∷ rest) h = rw (l.digit, l.no_zero, h)

-- the decimal text has the form
pub whole-of-decimal : (n : ℕ) → is_whole (decimal_text n) ≡ true
unfolding is_whole
whole-of-decimal zero = rw (decimal-below 0 (omega arith)) (digit-of 0 (omega arith))
whole-of-decimal (suc n) = whole-of-leading (decimal_text (suc n)) (leading-of-positive (suc n) (omega arith))

-- and the number's value
pub value-of-decimal : (n : ℕ) → place_value (decimal_text n) ≡ n
unfolding place_value
value-of-decimal = decimal-ind (λ n. place_value (decimal_text n) ≡ n) one more
  where
    one : (n : ℕ) → n < 10 → place_value (decimal_text n) ≡ n
    one n h = rw (decimal-below n h, pow-zero) (omega arith)

    more : (n : ℕ) → 10 ≤ n → place_value (decimal_text (n / 10)) ≡ n / 10 → place_value (decimal_text n) ≡ n
    more n h tenth = rw (decimal-above n h, value-snoc, tenth) (omega arith)

-- digits that follow a number's text
decimal-append : (text : List ℕ) (n : ℕ) → 0 < n → are_digits text ≡ true
    → decimal_text (n * 10 ^ length text + place_value text) ≡ decimal_text n ++ text
unfolding place_value
decimal-append [] n some h = rw (pow-zero, append-nil) (ap decimal_text (omega arith))
decimal-append (b ∷ text) n some h =
    let two = and_parts (is_digit b) (are_digits text) h in
    let bounds = digit-bounds b two.0 in
    let longer = n * 10 + (b - digit_zero) in
    let value : n * 10 ^ suc (length text) + ((b - digit_zero) * 10 ^ length text + place_value text) ≡ longer * 10 ^ length text + place_value text =
    rw (pow-suc 10 (length text)) (omega arith) in
    let tenth : longer / 10 ≡ n = omega arith in
    let last : digit_byte (longer % 10) ≡ b = omega arith in
    ap decimal_text value
    ∙ decimal-append text longer (omega arith) two.1
    ∙ ap (λ (t : List ℕ). t ++ text) (decimal-above longer (omega arith))
    ∙ rw (tenth, last, append_assoc)

one-digit : (b : ℕ) → is_digit b ≡ true → decimal_text (b - digit_zero) ≡ b ∷ []
one-digit b h =
    let bounds = digit-bounds b h in
    let byte : digit_byte (b - digit_zero) ≡ b = omega arith in
    decimal-below (b - digit_zero) (omega arith) ∙ rw byte

-- a text of the form is the decimal text of its value
pub decimal-of-value : (text : List ℕ) → is_whole text ≡ true → decimal_text (place_value text) ≡ text
unfolding is_whole place_value
decimal-of-value [] h = absurd (false≢true h)
decimal-of-value (b ∷ []) h =
    let value : (b - digit_zero) * 1 + 0 ≡ b - digit_zero = omega arith in
    ap decimal_text value ∙ one-digit b h
decimal-of-value (b ∷ c ∷ text) h =
    let two = and_parts (is_digit b && not (eqb b digit_zero)) (are_digits (c ∷ text)) h in
    let first = and_parts (is_digit b) (not (eqb b digit_zero)) two.0 in
    let bounds = digit-bounds b first.0 in
    let other = eqb-false b digit_zero (not-true (eqb b digit_zero) first.1) in
    let some : 0 < b - digit_zero = omega arith in
    decimal-append (c ∷ text) (b - digit_zero) some two.1
    ∙ ap (λ (t : List ℕ). t ++ c ∷ text) (one-digit b first.0)
