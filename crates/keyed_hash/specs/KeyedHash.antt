-- Meaning. The keyed hash that the token work knows, and what it may know of it. `keyed_hash` is shut: a crate above cannot unfold it, and
-- has of it the functions' promises and `hash_length_lem`, `hash_bytes` and `cut_anywhere`. How it is made is the law `hash_is`, which asks for
-- a value of `Inside`, a type of this crate's code that no other crate can name.
use Rattle.std.specs.Prelude.{◌≡◌, refl, List, ◌++◌, ℕ, ◌<◌, eqb, ltb, length, take, drop, get_or, replicate}
use Rattle.std.proofs.Common.{ap, ◌∙◌, arith, take-append-drop}
use Rattle.basis.specs.Limits.{message_most, key_length, hash_length}
use Rattle.basis.specs.Basis.{pick}
use Rattle.basis.specs.Tabs.{tab_length, tab_below}
use Rattle.answers.specs.Answers.{number_of}
use Rattle.answers.specs.declared.Answer.TheVariants.{Allow, HashBad}
use Rattle.keyed_hash.specs.declared.Hashed.{Hashed}
use Rattle.keyed_hash.specs.declared.Inside.{Inside}
use Rattle.keyed_hash.specs.declared.Inside.TheVariants.{Here}
use Rattle.hash_chunks.specs.Chunks.{root_flag, words_of, bytes_of_words}
use Rattle.keyed_hash.specs.Tree.{tree_of}

-- 01, "Chain": "MAC is BLAKE3 keyed mode, 32 bytes out." Of a message of any length: n bytes are never more than 2^n chunks
pub keyed_hash : List ℕ → List ℕ → List ℕ
keyed_hash key message = bytes_of_words (tree_of (words_of 8 key) (length message) message 0 root_flag)

-- what the hash is, for this crate's own proofs alone
pub hash_is : Inside → (key message : List ℕ)
    → keyed_hash key message ≡ bytes_of_words (tree_of (words_of 8 key) (length message) message 0 root_flag)
unfolding keyed_hash
hash_is inside key message = refl

-- 01: "A longer one, or a key that is not 32 bytes, is answered 37 and, by value, 32 zero bytes."
unfoldable pub refused_hash : Hashed
refused_hash = record { answer = number_of HashBad; bytes = replicate hash_length 0 }

-- 01: "Messages up to 8,192 bytes are taken."
unfoldable pub hashed_of : List ℕ → List ℕ → Hashed
hashed_of key message =
    pick (eqb (length key) key_length)
    (pick (ltb message_most (length message)) refused_hash (record { answer = number_of Allow; bytes = keyed_hash key message }))
    refused_hash

-- a hash is 32 bytes
pub hash_length_lem : (key message : List ℕ) → length (keyed_hash key message) ≡ hash_length
hash_length_lem key message = ap length (hash_is Here key message) ∙ tab_length 32 _

pub hash_bytes : (key message : List ℕ) (i : ℕ) → get_or (keyed_hash key message) i 0 < 256
hash_bytes key message i = rw (hash_is Here key message) (tab_below 256 (omega arith) 32 _ (λ i. omega arith) i)

-- a message cut in two anywhere has the hash of the whole
pub cut_anywhere : (key message : List ℕ) (n : ℕ) → hashed_of key (take n message ++ drop n message) ≡ hashed_of key message
cut_anywhere key message n = ap (hashed_of key) (take-append-drop n message)
