-- Texts as lists of bytes.
use Rattle.std.specs.Prelude.{List, [], ◌∷◌, ◌++◌, ◌≡◌, ℕ, ◌+◌, ◌-◌, length, take, replicate}
use Prim.Native.Char.{code}
use Prim.Native.String.{String}

abbrev pub blank : ℕ
blank = 32

abbrev pub minus : ℕ
minus = 45

-- the byte of the digit 0; those of the digits 1 to 9 follow it
abbrev pub digit_zero : ℕ
digit_zero = 48

abbrev pub newline : ℕ
newline = 10

-- the bytes of a text of ASCII characters
unfoldable pub bytes_of : String → List ℕ
bytes_of String.[] = []
bytes_of (String.◌∷◌ c text) = code c ∷ bytes_of text

-- a text at the right end of a column of w bytes, blanks before it
unfoldable pub right_justified : ℕ → List ℕ → List ℕ
right_justified w text = replicate (w - length text) blank ++ text

-- a text is written at the end of a buffer, from the place `at` on: the bytes before it are as they were
pub record AtEnd (buffer text : List ℕ) (at : ℕ) (after : List ℕ) : Type 0 where
  pub place : at + length text ≡ length buffer
  pub holds : after ≡ take at buffer ++ text
