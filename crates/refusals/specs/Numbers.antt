-- The refusal numbers of document 01, "Where each refusal is checked", and of document 02's cards, each once for the contracts; src/lib.rt has each once for the code.
use Rattle.std.specs.Prelude.{ℕ}

-- the call is accepted
abbrev pub no_refusal : ℕ
no_refusal = 0

-- system not 10 or 12
abbrev pub unknown_system : ℕ
unknown_system = 1

-- fewer than 2,048 samples from start
abbrev pub short_window : ℕ
short_window = 2

-- a sample out of range
abbrev pub sample_out_of_range : ℕ
sample_out_of_range = 3

-- not 512 lines, or lines past number 1,023
abbrev pub wrong_line_count : ℕ
wrong_line_count = 4

-- a line above 2^59
abbrev pub line_too_large : ℕ
line_too_large = 5

-- order outside the orders of the call
abbrev pub order_out_of_range : ℕ
order_out_of_range = 6

-- record not sound
abbrev pub unsound_record : ℕ
unsound_record = 7

-- system differs from the record's, or the edition does (document 02, card 7)
abbrev pub other_setup : ℕ
other_setup = 8

-- 45,000 windows held
abbrev pub record_full : ℕ
record_full = 9

-- no window yet
abbrev pub no_window : ℕ
no_window = 10

-- K outside 1..2^28
abbrev pub scale_out_of_range : ℕ
scale_out_of_range = 11

-- group 1 is 0
abbrev pub no_fundamental : ℕ
no_fundamental = 12

-- text not of the form, or number wider than its column
abbrev pub not_a_column : ℕ
not_a_column = 13

-- text buffer of the wrong length
abbrev pub wrong_buffer_length : ℕ
wrong_buffer_length = 14

-- no refusal of document 01 has a larger number
abbrev pub largest_refusal : ℕ
largest_refusal = wrong_buffer_length

-- class letter other than A or B (document 02, card 1)
abbrev pub unknown_class : ℕ
unknown_class = 15

-- edition not 0 or 1 (document 02, card 7)
abbrev pub unknown_edition : ℕ
unknown_edition = 19

-- fewer than 15 windows (document 02, card 8)
abbrev pub too_few_windows : ℕ
too_few_windows = 20
