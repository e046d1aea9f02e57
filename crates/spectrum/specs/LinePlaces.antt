-- Where a line's sums are found in a folded window (card 13). No public contract cites it.
use Rattle.std.specs.Prelude.{◌≡◌, ℕ, ◌-◌, ◌*◌, ◌%◌, ◌^◌, ◌≤◌}
use Rattle.sine.specs.Turn.{half_turn, quarter_turn}
use Rattle.windows.specs.Window.{window_length}

-- line k ends at the halving at half: a power of two, and half × k is an odd number of quarter turns. Its cosine's places are half + 1 .. 2·half; each of its sine's is `sine_ahead half` after one of them.
pub record EndsAt (k half : ℕ) : Type 0 where
  pub power : ℕ
  pub few : power ≤ 9
  pub is-power : half ≡ 2 ^ power
  pub odd : (half * k) % half_turn ≡ quarter_turn
  pub some : 1 ≤ half
  pub most : half ≤ 512

abbrev pub sine_ahead : ℕ → ℕ
sine_ahead half = window_length - 3 * half
