-- One shifted up by n places in a word of w bits.
use mathlib.Core.Path.{◌≡◌}
use Prim.Native.Nat.{ℕ, ◌*◌, ◌%◌, ◌^◌, ◌<◌}
use native.Mathlib.Nat.{mod-eq_of_lt, one-mul}
use lib.Pow.{pow-lt}

pub one_shifted : (n w : ℕ) → n < w → 1 * 2 ^ n % 2 ^ w ≡ 2 ^ n
one_shifted n w h = rw one-mul (mod-eq_of_lt (pow-lt h))
