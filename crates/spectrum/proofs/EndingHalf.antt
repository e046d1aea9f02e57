-- The halving at which a line ends: its half length is 512, halved as often as the line's number has zeros below its lowest binary digit that is 1.
use mathlib.Core.Path.{◌≡◌, refl, sym, ap, ◌∙◌}
use Prim.Native.Nat.{ℕ, zero, suc, ◌+◌, ◌-◌, ◌*◌, ◌/◌, ◌%◌, ◌^◌, ◌≤◌, ◌<◌}
use native.Mathlib.Nat.{mod-lt, pow-succ', mul-div_cancel}
use native.Mathlib.Decide.{dec_le}
use native.Mathlib.Omega.{arith}
use lib.Count.{count_trailing_zeros, under}
use lib.Dec.{lit<}
use lib.Pow.{pow_pos, pow_mono, pow-add}
use Rattle.spectrum.specs.LinePlaces.{EndsAt}

-- a number is an odd number times a power of two, as many twos as there are zeros
odd_part : (w n : ℕ) → 0 < n → n < 2 ^ w → (m : ℕ) × (n ≡ 2 ^ count_trailing_zeros w n * (2 * m + 1))
unfolding count_trailing_zeros
odd_part zero n some below = absurd (omega arith)
odd_part (suc w) n some below =
    go (n % 2) refl (mod-lt n (lit< tt)) (λ more. odd_part w (n / 2) more (omega (arith, below, pow-succ' 2 w)))
  where
    go : (r : ℕ) → n % 2 ≡ r → r < 2 → (0 < n / 2 → (m : ℕ) × (n / 2 ≡ 2 ^ count_trailing_zeros w (n / 2) * (2 * m + 1))) → (m : ℕ) × (n ≡ 2 ^ under r (count_trailing_zeros w (n / 2)) * (2 * m + 1))
    go zero even small rest_of =
        let rest = rest_of (omega arith) in
        let twice : 2 ^ suc (count_trailing_zeros w (n / 2)) * (2 * rest.0 + 1) ≡ 2 * (2 ^ count_trailing_zeros w (n / 2) * (2 * rest.0 + 1)) = ap (λ p. p * (2 * rest.0 + 1)) (pow-succ' 2 (count_trailing_zeros w (n / 2))) ∙ omega arith in
        (rest.0, omega (arith, twice, rest.1))
    go (suc zero) odd small rest_of = (n / 2, omega arith)
    go (suc (suc r)) is small rest_of = absurd (omega arith)

pub ending_half : (k : ℕ) → 0 < k → k < 1024 → EndsAt k (512 / 2 ^ count_trailing_zeros 64 k)
ending_half k some few = go (count_trailing_zeros 64 k) (odd_part 64 k some (omega arith))
  where
    go : (t : ℕ) → (m : ℕ) × (k ≡ 2 ^ t * (2 * m + 1)) → EndsAt k (512 / 2 ^ t)
    go t (m, is) =
        let most : 2 ^ t ≤ k = omega (arith, is, pow_pos t) in
        let small : t ≤ 9 = elim (dec_le 10 t) [ yes h ↦ absurd (omega (arith, most, pow_mono h)) | no h ↦ omega arith ] in
        let sum : 9 - t + t ≡ 9 = omega arith in
        let whole : 2 ^ (9 - t) * 2 ^ t ≡ 512 = sym (pow-add 2 (9 - t) t) ∙ ap (λ n. 2 ^ n) sum in
        let half : 512 / 2 ^ t ≡ 2 ^ (9 - t) = ap (λ n. n / 2 ^ t) (sym whole) ∙ mul-div_cancel (2 ^ (9 - t)) (pow_pos t) in
        let angle : 2 ^ (9 - t) * (2 ^ t * (2 * m + 1)) ≡ 512 * (2 * m + 1) = omega (arith, ap (λ n. n * (2 * m + 1)) whole) in
        let product : 512 / 2 ^ t * k ≡ 512 * (2 * m + 1) = rw half (ap (λ n. 2 ^ (9 - t) * n) is ∙ angle) in
        record { some = rw half (pow_pos (9 - t)); most = omega arith; power = 9 - t; few = omega arith; is-power = half; odd = omega (arith, product) }
