-- Inner. The mixing in place, and the fixed order in which each round picks its words from the block. Document 02, M-102: "Pick the words
-- by a fixed order instead." The law `taken` holds it to `moved_of`, for every round and place.
use Rattle.std.specs.Prelude.{ℕ, zero, suc, ◌<◌, List, [], ◌∷◌, slice_index, slice_index_or, slice_set}
use Rattle.basis.specs.Basis.{tab}
use Rattle.hash_mixing.specs.Compression.{mix_of}

-- G on the words a, b, c, d of the state v, which go back to their places
unfoldable pub mixed_of : List ℕ → ℕ → ℕ → ℕ → ℕ → ℕ → ℕ → List ℕ
mixed_of v a b c d x y =
    let q = mix_of (slice_index v a) (slice_index v b) (slice_index v c) (slice_index v d) x y in
    slice_set (slice_set (slice_set (slice_set v a q.a) b q.b) c q.c) d q.d

-- round by round, the places of its words in the block
abbrev pub orders : List (List ℕ)
orders =
    (0 ∷ 1 ∷ 2 ∷ 3 ∷ 4 ∷ 5 ∷ 6 ∷ 7 ∷ 8 ∷ 9 ∷ 10 ∷ 11 ∷ 12 ∷ 13 ∷ 14 ∷ 15 ∷ [])
    ∷ (2 ∷ 6 ∷ 3 ∷ 10 ∷ 7 ∷ 0 ∷ 4 ∷ 13 ∷ 1 ∷ 11 ∷ 12 ∷ 5 ∷ 9 ∷ 14 ∷ 15 ∷ 8 ∷ [])
    ∷ (3 ∷ 4 ∷ 10 ∷ 12 ∷ 13 ∷ 2 ∷ 7 ∷ 14 ∷ 6 ∷ 5 ∷ 9 ∷ 0 ∷ 11 ∷ 15 ∷ 8 ∷ 1 ∷ [])
    ∷ (10 ∷ 7 ∷ 12 ∷ 9 ∷ 14 ∷ 3 ∷ 13 ∷ 15 ∷ 4 ∷ 0 ∷ 11 ∷ 2 ∷ 5 ∷ 8 ∷ 1 ∷ 6 ∷ [])
    ∷ (12 ∷ 13 ∷ 9 ∷ 11 ∷ 15 ∷ 10 ∷ 14 ∷ 8 ∷ 7 ∷ 2 ∷ 5 ∷ 3 ∷ 0 ∷ 1 ∷ 6 ∷ 4 ∷ [])
    ∷ (9 ∷ 14 ∷ 11 ∷ 5 ∷ 8 ∷ 12 ∷ 15 ∷ 1 ∷ 13 ∷ 3 ∷ 0 ∷ 10 ∷ 2 ∷ 6 ∷ 4 ∷ 7 ∷ [])
    ∷ (11 ∷ 15 ∷ 5 ∷ 0 ∷ 1 ∷ 9 ∷ 8 ∷ 6 ∷ 14 ∷ 10 ∷ 2 ∷ 12 ∷ 3 ∷ 4 ∷ 7 ∷ 13 ∷ []) ∷ []

-- the places in the block from which a round takes its words
abbrev pub order : ℕ → List ℕ
order round = slice_index_or orders round []

unfoldable pub order_of : ℕ → ℕ → ℕ
order_of round place = slice_index (order round) place

-- the words of the block m in the order o
unfoldable pub picked_of : List ℕ → List ℕ → List ℕ
picked_of m o = tab 16 (λ place. slice_index m (slice_index o place))

-- the first n places of the order o lie in the block
abbrev pub Inside : ℕ → List ℕ → Type 0
Inside zero o = Unit {0}
Inside (suc n) o = Inside n o × (slice_index o n < 16)

abbrev pub InBlock : List ℕ → Type 0
InBlock o = Inside 16 o
