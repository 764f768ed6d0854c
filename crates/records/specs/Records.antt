-- Meaning. House records, and how they are written. Document 01, "House records": "Body length (two bytes, little-endian), kind (two bytes),
-- body. .. Numbers are little-endian." A string stands behind its length.
use Rattle.std.specs.Prelude.{List, [], ◌∷◌, ◌++◌, ℕ, zero, suc, ◌+◌, ◌*◌, ◌/◌, ◌%◌, length}

-- the k lowest bytes of a number, the lowest first
unfoldable pub little : ℕ → ℕ → List ℕ
little zero n = []
little (suc k) n = (n % 256) ∷ little k (n / 256)

-- the number that bytes stand for, the first byte the lowest
unfoldable pub little_of : List ℕ → ℕ
little_of [] = 0
little_of (b ∷ t) = little_of t * 256 + b

-- a string behind its length in so many bytes
unfoldable pub counted : ℕ → List ℕ → List ℕ
counted width x = little width (length x) ++ x

unfoldable pub record_bytes : ℕ → List ℕ → List ℕ
record_bytes kind body = little 2 (length body) ++ (little 2 kind ++ body)
