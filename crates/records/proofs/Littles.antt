-- Little-endian numbers: writing and reading undo each other.
use mathlib.Core.Path.{◌≡◌, refl, ap, ap₂, ◌∙◌}
use mathlib.Core.List.{List, [], ◌∷◌}
use Prim.Native.Nat.{ℕ, zero, suc, ◌+◌, ◌*◌, ◌/◌, ◌%◌, ◌^◌, ◌<◌}
use native.Mathlib.Nat.{pow-suc, div-lt_iff_lt-mul, zero-lt-suc, div-add-mod'}
use native.Mathlib.Omega.{arith}
use lib.Arith.{digits_lt, digits_div, digits_mod}
use lib.ListN.{length}
use Rattle.basis.specs.Basis.{IsBytes}
use Rattle.cbor_heads.proofs.Numbers.{more, most}
use Rattle.records.specs.Records.{little, little_of}

-- one byte more still fits
pub room : (k : ℕ) {n : ℕ} → k < 8 → n < 256 ^ k → n * 256 + 255 < 2 ^ 64
room k h w = omega (arith, most k h, more k {b = 255} w (omega arith))

pub little_length : (k n : ℕ) → length (little k n) ≡ k
unfolding little
little_length zero n = refl
little_length (suc k) n = ap suc (little_length k (n / 256))

-- the number of a number's bytes
pub little_read : (k n : ℕ) → n < 256 ^ k → little_of (little k n) ≡ n
unfolding little little_of
little_read zero n h = omega (arith, h)
little_read (suc k) n h =
    let g : n / 256 < 256 ^ k = (div-lt_iff_lt-mul {k = 256} (zero-lt-suc 255)).1 (rw pow-suc at h) in
    ap (λ (x : ℕ). x * 256 + n % 256) (little_read k (n / 256) g) ∙ div-add-mod' n 256

-- the bytes of a number's bytes
pub little_written : (s : List ℕ) → IsBytes s → (little_of s < 256 ^ length s) × (little (length s) (little_of s) ≡ s)
unfolding little little_of
little_written [] b = (omega arith, refl)
little_written (x ∷ s) b =
    let r = little_written s (λ i. b (suc i)) in
    let q = little_of s in (
      rw pow-suc (digits_lt r.0 (b 0)),
      ap₂ ◌∷◌ (digits_mod q (b 0)) (ap (little (length s)) (digits_div q (b 0)) ∙ r.1),
    )
