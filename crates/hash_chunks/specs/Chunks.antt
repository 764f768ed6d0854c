-- Meaning. BLAKE3's chunks and parents in keyed mode, on lists of bytes, as the BLAKE3 paper has them in sections 2.1, 2.4 and 2.5;
-- document 01, "Chain", has their sizes and flags.
use Rattle.std.specs.Prelude.{List, ◌++◌, ℕ, zero, suc, ◌+◌, ◌*◌, ◌/◌, ◌%◌, ◌^◌, length, take, drop, get_or, leb}
use Rattle.basis.specs.Basis.{pick, tab}
use Rattle.hash_mixing.specs.Compression.{compress_of}

-- 01: "Flags: chunk start 1, chunk end 2, parent 4, root 8, keyed 16." Flags set together are their sum.
abbrev pub chunk_start : ℕ
chunk_start = 1

abbrev pub chunk_end : ℕ
chunk_end = 2

abbrev pub parent_flag : ℕ
parent_flag = 4

abbrev pub root_flag : ℕ
root_flag = 8

abbrev pub keyed : ℕ
keyed = 16

-- a little-endian word; a byte that is not there counts as zero, which is the paper's padding of the last block
abbrev pub le32 : List ℕ → ℕ → ℕ
le32 s at = get_or s at 0 + get_or s (at + 1) 0 * 256 + get_or s (at + 2) 0 * 65536 + get_or s (at + 3) 0 * 16777216

abbrev pub words_of : ℕ → List ℕ → List ℕ
words_of n s = tab n (λ i. le32 s (i * 4))

-- the 32 bytes of eight words, each with its low byte first
abbrev pub byte_of : ℕ → ℕ → ℕ
byte_of x k = x / 256 ^ k % 256

abbrev pub bytes_of_words : List ℕ → List ℕ
bytes_of_words w = tab 32 (λ i. byte_of (get_or w (i / 4) 0) (i % 4))

-- the last block of a chunk: what is left, at most 64 bytes
abbrev pub last_of : List ℕ → List ℕ → ℕ → ℕ → ℕ → List ℕ
last_of h s counter start last = compress_of h (words_of 16 s) counter (length s) (keyed + start + last)

-- a run of at most k + 1 blocks from the chaining value h: each but the last has 64 bytes. The first of the chunk carries the
-- flag `start`, the last one the flags `last`
unfoldable pub blocks_of : ℕ → List ℕ → List ℕ → ℕ → ℕ → ℕ → List ℕ
blocks_of zero h s counter start last = last_of h s counter start last
blocks_of (suc k) h s counter start last =
    pick (leb (length s) 64) (last_of h s counter start last)
    (blocks_of k (compress_of h (words_of 16 (take 64 s)) counter 64 (keyed + start)) (drop 64 s) counter 0 last)

-- 01: "64-byte blocks, 1,024-byte chunks": sixteen blocks at most. `root` is the root flag or 0
unfoldable pub chunk_of : List ℕ → List ℕ → ℕ → ℕ → List ℕ
chunk_of key s counter root = blocks_of 15 key s counter chunk_start (chunk_end + root)

unfoldable pub parent_of : List ℕ → List ℕ → List ℕ → ℕ → List ℕ
parent_of key left right root = compress_of key (left ++ right) 0 64 (keyed + parent_flag + root)
