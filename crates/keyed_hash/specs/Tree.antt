-- Meaning. BLAKE3's keyed mode on lists of bytes, as the BLAKE3 paper has it in sections 2.1 ("Tree structure"), 2.3 ("Modes") and 2.6 (the
-- root); document 01, "Chain". Chunks and parents are in Chunks of `hash_chunks`.
use Rattle.std.specs.Prelude.{List, ℕ, zero, suc, ◌+◌, ◌*◌, ◌^◌, length, take, drop, leb}
use Rattle.basis.specs.Basis.{pick}
use Rattle.hash_chunks.specs.Chunks.{chunk_of, parent_of}

-- the bytes of 2^h whole chunks
abbrev pub full_of : ℕ → ℕ
full_of h = 1024 * 2 ^ h

-- the tree over at most 2^h chunks, the first of which has the number `counter`: what half of them holds is a tree over half
-- as many; otherwise the left subtree is those whole chunks. So the left subtree is 01's "largest power of two of chunks that
-- leaves at least one byte to the right": the law `left_is_largest` says that sentence
unfoldable pub tree_of : List ℕ → ℕ → List ℕ → ℕ → ℕ → List ℕ
tree_of key zero s counter root = chunk_of key s counter root
tree_of key (suc h) s counter root =
    pick (leb (length s) (full_of h)) (tree_of key h s counter root)
    (parent_of key (tree_of key h (take (full_of h) s) counter 0) (tree_of key h (drop (full_of h) s) (counter + 2 ^ h) 0) root)
