-- Meaning. CBOR heads: how a number is written behind a major type (RFC 8949, sections 3 and 4.2.1). Document 01, "Token bytes": "definite
-- lengths, shortest heads".
use Rattle.std.specs.Prelude.{List, [], ◌∷◌, ◌++◌, ℕ, zero, suc, ◌+◌, ◌*◌, ◌/◌, ◌%◌, ltb}
use Rattle.basis.specs.Basis.{pick}

-- the k lowest bytes of n, the highest first
unfoldable pub big : ℕ → ℕ → List ℕ
big zero n = []
big (suc k) n = big k (n / 256) ++ ((n % 256) ∷ [])

-- a head as it is written, in its shortest form
unfoldable pub head : ℕ → ℕ → List ℕ
head major n =
    pick (ltb n 24) ((major * 32 + n) ∷ [])
    (pick (ltb n 256) ((major * 32 + 24) ∷ big 1 n)
    (pick (ltb n 65536) ((major * 32 + 25) ∷ big 2 n)
    (pick (ltb n 4294967296) ((major * 32 + 26) ∷ big 4 n)
    ((major * 32 + 27) ∷ big 8 n))))
