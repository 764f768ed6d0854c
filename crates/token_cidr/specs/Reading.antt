-- Reading. Need not be believed: the laws fix it both ways (`text_reads`, `reads_text`), since it has one defect. A prefix's text, judged
-- whole: a prefix, or none. From the top: four numbers up to 255, each with the mark behind it; the size, up to 32, with nothing behind it;
-- and the bits of the address past the size are zero.
use Rattle.std.specs.Prelude.{Bool, List, [], ◌∷◌, ℕ, ◌+◌, ◌-◌, ◌*◌, ◌%◌, ◌^◌, ◌&&◌, leb, ltb, eqb, length, slice_get, Option, Some, None, option_and_then}
use Rattle.std.specs.Bool.{then_some}
use Rattle.std.specs.Char.{is_ascii_digit}
use Rattle.std.specs.Int.{w32, from_be_bytes}
use Rattle.basis.specs.Basis.{pick}
use Rattle.basis.specs.Limits.{cidr_most}
use Rattle.token_cidr.specs.Prefixes.{Prefix}
use Rattle.token_cidr.specs.declared.Network.{Network}

-- a step that finds nothing ends the whole
infixl 10 ◌>>=◌
abbrev ◌>>=◌ : {A B : Type 0} → Option A → (A → Option B) → Option B
o >>= f = option_and_then f o

-- the digit at a place, where there is one
unfoldable pub digit_at : List ℕ → ℕ → Option ℕ
digit_at s at = do
  c ← slice_get s at
  then_some (is_ascii_digit c) (c - 48)

-- the number that begins with the digit x, and the place behind it: a fourth digit is left for what comes behind to refuse
abbrev pub digits_by : ℕ → ℕ → Option ℕ → Option ℕ → ℕ × ℕ
digits_by at x None z = (x, at + 1)
digits_by at x (Some y) None = (x * 10 + y, at + 2)
digits_by at x (Some y) (Some z) = (x * 100 + y * 10 + z, at + 3)

-- one to three digits; a leading 0 stands alone
unfoldable pub decimal_at : List ℕ → ℕ → Option (ℕ × ℕ)
decimal_at s at = do
  x ← digit_at s at
  Some (pick (eqb x 0) (0, at + 1) (digits_by at x (digit_at s (at + 1)) (digit_at s (at + 2))))

-- a byte of the address, and the place behind its mark
unfoldable pub part_at : List ℕ → ℕ → ℕ → Option (ℕ × ℕ)
part_at s at mark = do
  (value, next) ← decimal_at s at
  byte ← then_some (ltb value 256) value
  c ← slice_get s next
  then_some (eqb c mark) (byte, next + 1)

-- the number of bits, and nothing behind it
unfoldable pub size_at : List ℕ → ℕ → Option ℕ
size_at s at = do
  (size, next) ← decimal_at s at
  then_some (leb size cidr_most && eqb next (length s)) size

-- the bits of the address past the size are zero
abbrev pub zeros_past : List ℕ → ℕ → Bool
zeros_past address size = eqb (from_be_bytes w32 address % 2 ^ (cidr_most - size)) 0

-- the address's bytes in written order, and how many of its bits count
abbrev pub net_of : Prefix → Network
net_of p = record { address = p.a ∷ p.b ∷ p.c ∷ p.d ∷ []; size = p.size }

-- of any four numbers, of each its lowest eight bits
abbrev pub network_of : ℕ → ℕ → ℕ → ℕ → ℕ → Network
network_of a b c d size = record { address = a % 256 ∷ b % 256 ∷ c % 256 ∷ d % 256 ∷ []; size = size }

-- a.b.c.d/n; 46 is ".", 47 is "/"
unfoldable pub cidr_of : List ℕ → Option Network
cidr_of s = do
  (a, at) ← part_at s 0 46
  (b, at) ← part_at s at 46
  (c, at) ← part_at s at 46
  (d, at) ← part_at s at 47
  size ← size_at s at
  let net : Network = net_of (record { a = a; b = b; c = c; d = d; size = size })
  then_some (zeros_past net.address net.size) net
