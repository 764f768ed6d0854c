-- Meaning. The chain of keyed hashes whose end is a token's tag: each link is a hash over the link before it and one caveat, so that a tag
-- depends on all that went before, and not on the last caveat alone. `keyed_hash` is shut: only its promise is known here.
use Rattle.std.specs.Prelude.{List, [], ◌∷◌, ◌++◌, ℕ}
use Prim.Native.String.{String}
use Rattle.basis.specs.Basis.{ascii}
use Rattle.keyed_hash.specs.KeyedHash.{keyed_hash}

-- what tells one use of the key from another
abbrev pub domain : String → List ℕ
domain label = ascii "ron-auth/v1" ++ (0 ∷ ascii label)

-- 01: "First link: "ron-auth/v1", a zero byte, "init" (16 bytes), then tid, kid, scope bytes."
unfoldable pub first_message : List ℕ → List ℕ → List ℕ → List ℕ
first_message tid kid scope = domain "init" ++ (tid ++ (kid ++ scope))

-- 01: "Each caveat in order: "ron-auth/v1", a zero byte, "caveat" (18 bytes), then the last link and the caveat bytes, same key."
unfoldable pub next_message : List ℕ → List ℕ → List ℕ
next_message link caveat = domain "caveat" ++ (link ++ caveat)

-- 01: "MAC is BLAKE3 keyed mode, 32 bytes out."
unfoldable pub first_link : List ℕ → List ℕ → List ℕ → List ℕ → List ℕ
first_link key tid kid scope = keyed_hash key (first_message tid kid scope)

unfoldable pub next_link : List ℕ → List ℕ → List ℕ → List ℕ
next_link key link caveat = keyed_hash key (next_message link caveat)

-- from a link on, over the bytes of each caveat in order
unfoldable pub chain_of : List ℕ → List ℕ → List (List ℕ) → List ℕ
chain_of key link [] = link
chain_of key link (c ∷ cs) = chain_of key (next_link key link c) cs

-- 01: "The tag is the last link."
unfoldable pub tag_of : List ℕ → List ℕ → List ℕ → List ℕ → List (List ℕ) → List ℕ
tag_of key tid kid scope caveats = chain_of key (first_link key tid kid scope) caveats
