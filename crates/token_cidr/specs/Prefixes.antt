-- Meaning. An IPv4 prefix and its one text. Document 01, "Token bytes": "ip_cidr: IPv4 a.b.c.d/n, decimal without leading zeros, n 0 to 32,
-- bits past n zero."
use Rattle.std.specs.Prelude.{◌≡◌, List, [], ◌∷◌, ◌++◌, ℕ, ◌+◌, ◌-◌, ◌*◌, ◌/◌, ◌%◌, ◌^◌, ◌<◌, ◌≤◌, ltb}
use Rattle.basis.specs.Basis.{pick}
use Rattle.basis.specs.Limits.{cidr_most}

-- a number below 1,000 without leading zeros
unfoldable pub decimal : ℕ → List ℕ
decimal n =
    pick (ltb n 10) ((48 + n) ∷ [])
    (pick (ltb n 100) ((48 + n / 10) ∷ (48 + n % 10) ∷ [])
    ((48 + n / 100) ∷ (48 + n / 10 % 10) ∷ (48 + n % 10) ∷ []))

-- the four bytes of the address in written order, and how many of its bits count
pub record Prefix : Type 0 where
  pub a : ℕ
  pub b : ℕ
  pub c : ℕ
  pub d : ℕ
  pub size : ℕ

-- 46 is ".", 47 is "/"
unfoldable pub prefix_text : Prefix → List ℕ
prefix_text p = decimal p.a ++ (46 ∷ (decimal p.b ++ (46 ∷ (decimal p.c ++ (46 ∷ (decimal p.d ++ (47 ∷ decimal p.size)))))))

-- the address as one number, the first byte the highest
abbrev pub address_of : ℕ → ℕ → ℕ → ℕ → ℕ
address_of a b c d = ((a * 256 + b) * 256 + c) * 256 + d

pub record GoodPrefix (p : Prefix) : Type 0 where
  pub a_byte : p.a < 256
  pub b_byte : p.b < 256
  pub c_byte : p.c < 256
  pub d_byte : p.d < 256
  pub short : p.size ≤ cidr_most
  pub zeros : address_of p.a p.b p.c p.d % 2 ^ (cidr_most - p.size) ≡ 0
