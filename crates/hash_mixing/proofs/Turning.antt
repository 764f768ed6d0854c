-- A word turned right, from shifts, a mask and xor: once over the number of places n and the rest k of the word.
use Rattle.std.proofs.Common.{◌≡◌, ℕ, ◌+◌, ◌-◌, ◌*◌, ◌/◌, ◌%◌, ◌^◌, ◌<◌, ap, ◌∙◌, le_refl, mod-lt, add_comm, pow_pos, shl_exact, shr_lt}
use lib.Bits.{bit_and, bit_xor, and_mask, xor_shifted, xor_comm}

pub turned : (x n k w : ℕ) → n + k ≡ w → x < 2 ^ (k + n)
    → bit_xor (x / 2 ^ n) (bit_and x (2 ^ n - 1) * 2 ^ k % 2 ^ w) ≡ x / 2 ^ n + x % 2 ^ n * 2 ^ k
turned x n k w e h =
    ap (bit_xor (x / 2 ^ n)) (rw (and_mask, ← e) (shl_exact n k (n + k) (mod-lt x (pow_pos n)) (le_refl (n + k))))
    ∙ xor_comm (x / 2 ^ n) (x % 2 ^ n * 2 ^ k)
    ∙ xor_shifted (x % 2 ^ n) k (x / 2 ^ n) (shr_lt k n h)
    ∙ add_comm (x % 2 ^ n * 2 ^ k) (x / 2 ^ n)
