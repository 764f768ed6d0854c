-- Meaning. BLAKE3's compression function on lists of 32-bit words, as the BLAKE3 paper has it in section 2.2 ("Compression function");
-- document 01, "Chain", fixes the sums, the turns and the seven rounds.
use Rattle.std.specs.Prelude.{ℕ, zero, suc, ◌+◌, ◌-◌, ◌*◌, ◌/◌, ◌%◌, ◌^◌, List, [], ◌∷◌, bit_xor, slice_index}
use Rattle.hash_mixing.specs.declared.Quad.{Quad}

-- 01: "sums of 32-bit words drop the carry past the top"
abbrev pub plus : ℕ → ℕ → ℕ
plus x y = (x + y) % 2 ^ 32

-- 01: "turned right by 16, 12, 8 and 7 places": the n low bits go to the top
unfoldable pub turn : ℕ → ℕ → ℕ
turn n x = x / 2 ^ n + x % 2 ^ n * 2 ^ (32 - n)

-- one half of the paper's function G, which mixes the message word x into the words a, b, c, d of the state:
-- a := a + b + x; d := (d xor a) turned by n; c := c + d; b := (b xor c) turned by k
unfoldable pub half_of : Quad → ℕ → ℕ → ℕ → Quad
half_of q x n k =
    let a = plus (plus q.a q.b) x in
    let d = turn n (bit_xor q.d a) in
    let c = plus q.c d in
    let b = turn k (bit_xor q.b c) in
    record { a = a; b = b; c = c; d = d }

-- G: the first half turns by 16 and 12, the second by 8 and 7
unfoldable pub mix_of : ℕ → ℕ → ℕ → ℕ → ℕ → ℕ → Quad
mix_of a b c d x y = half_of (half_of (record { a = a; b = b; c = c; d = d }) x 16 12) y 8 7

-- G on the words a, b, c, d of the state v, with the words i and i + 1 of the message m
abbrev pub mix_at : List ℕ → List ℕ → ℕ → ℕ → ℕ → ℕ → ℕ → Quad
mix_at v m a b c d i = mix_of (slice_index v a) (slice_index v b) (slice_index v c) (slice_index v d) (slice_index m i) (slice_index m (i + 1))

-- four mixed columns, back in their places: word i of the state belongs to column i % 4
unfoldable pub as_columns : Quad → Quad → Quad → Quad → List ℕ
as_columns p q r s =
    p.a ∷ q.a ∷ r.a ∷ s.a ∷ p.b ∷ q.b ∷ r.b ∷ s.b ∷ p.c ∷ q.c ∷ r.c ∷ s.c ∷ p.d ∷ q.d ∷ r.d ∷ s.d ∷ []

unfoldable pub columns_of : List ℕ → List ℕ → List ℕ
columns_of v m = as_columns (mix_at v m 0 4 8 12 0) (mix_at v m 1 5 9 13 2) (mix_at v m 2 6 10 14 4) (mix_at v m 3 7 11 15 6)

-- four mixed diagonals, back in their places
unfoldable pub as_diagonals : Quad → Quad → Quad → Quad → List ℕ
as_diagonals p q r s =
    p.a ∷ q.a ∷ r.a ∷ s.a ∷ s.b ∷ p.b ∷ q.b ∷ r.b ∷ r.c ∷ s.c ∷ p.c ∷ q.c ∷ q.d ∷ r.d ∷ s.d ∷ p.d ∷ []

unfoldable pub diagonals_of : List ℕ → List ℕ → List ℕ
diagonals_of v m = as_diagonals (mix_at v m 0 5 10 15 8) (mix_at v m 1 6 11 12 10) (mix_at v m 2 7 8 13 12) (mix_at v m 3 4 9 14 14)

unfoldable pub round_of : List ℕ → List ℕ → List ℕ
round_of v m = diagonals_of (columns_of v m) m

-- the moving of the message words after a round (the paper's table 2)
unfoldable pub moved_of : List ℕ → List ℕ
moved_of m =
    slice_index m 2 ∷ slice_index m 6 ∷ slice_index m 3 ∷ slice_index m 10 ∷ slice_index m 7 ∷ slice_index m 0 ∷ slice_index m 4 ∷ slice_index m 13
    ∷ slice_index m 1 ∷ slice_index m 11 ∷ slice_index m 12 ∷ slice_index m 5 ∷ slice_index m 9 ∷ slice_index m 14 ∷ slice_index m 15 ∷ slice_index m 8 ∷ []

unfoldable pub rounds_of : ℕ → List ℕ → List ℕ → List ℕ
rounds_of zero v m = v
rounds_of (suc k) v m = rounds_of k (round_of v m) (moved_of m)

-- the state before the rounds: the chaining value, four words of the IV (the paper's table 1), the counter's low and high
-- half, the number of bytes in the block, the flags
unfoldable pub start_of : List ℕ → ℕ → ℕ → ℕ → List ℕ
start_of h counter len flags =
    slice_index h 0 ∷ slice_index h 1 ∷ slice_index h 2 ∷ slice_index h 3 ∷ slice_index h 4 ∷ slice_index h 5 ∷ slice_index h 6 ∷ slice_index h 7
    ∷ 0x6a09e667 ∷ 0xbb67ae85 ∷ 0x3c6ef372 ∷ 0xa54ff53a ∷ counter % 2 ^ 32 ∷ counter / 2 ^ 32 ∷ len ∷ flags ∷ []

-- the first eight words of the output, all that a chaining value and 32 bytes of hash take
unfoldable pub folded_of : List ℕ → List ℕ
folded_of v =
    bit_xor (slice_index v 0) (slice_index v 8) ∷ bit_xor (slice_index v 1) (slice_index v 9) ∷ bit_xor (slice_index v 2) (slice_index v 10) ∷ bit_xor (slice_index v 3) (slice_index v 11)
    ∷ bit_xor (slice_index v 4) (slice_index v 12) ∷ bit_xor (slice_index v 5) (slice_index v 13) ∷ bit_xor (slice_index v 6) (slice_index v 14) ∷ bit_xor (slice_index v 7) (slice_index v 15) ∷ []

-- the compression of the block of words m into the chaining value h
unfoldable pub compress_of : List ℕ → List ℕ → ℕ → ℕ → ℕ → List ℕ
compress_of h m counter len flags = folded_of (rounds_of 7 (start_of h counter len flags) m)
