-- Laws of big-endian numbers.
use mathlib.Core.Path.{◌≡◌, refl}
use mathlib.Core.List.{List, [], ◌∷◌, ◌++◌}
use Prim.Native.Nat.{ℕ, ◌+◌, ◌*◌, ◌^◌, ◌≤◌, ◌<◌}
use native.Mathlib.Nat.{pow-suc, pow-le-pow_right, zero-lt-suc}
use native.Mathlib.Numerals.{add-one}
use lib.Arith.{digits_lt}
use Rattle.cbor_heads.specs.Reading.{number_from}

-- one digit more
pub more : (i : ℕ) {v b : ℕ} → v < 256 ^ i → b < 256 → v * 256 + b < 256 ^ (i + 1)
more i h g = rw (add-one, pow-suc) (digits_lt h g)

pub most : (i : ℕ) → i < 8 → 256 ^ (i + 1) ≤ 2 ^ 64
most i h = rw add-one (pow-le-pow_right {n = 256} (zero-lt-suc 255) h)

-- the last byte is the lowest digit
pub be_snoc : (v : ℕ) (s : List ℕ) (b : ℕ) → number_from v (s ++ (b ∷ [])) ≡ number_from v s * 256 + b
unfolding number_from
be_snoc v [] b = refl
be_snoc v (a ∷ s) b = be_snoc (v * 256 + a) s b
