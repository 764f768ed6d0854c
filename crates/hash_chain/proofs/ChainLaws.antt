-- A link is 32 bytes, and so is a tag; and one caveat more makes one link more, behind the parent's tag.
use mathlib.Core.Path.{◌≡◌, refl}
use mathlib.Core.List.{List, [], ◌∷◌, ◌++◌}
use Prim.Native.Nat.{ℕ}
use lib.ListN.{length}
use Rattle.keyed_hash.specs.KeyedHash.{hash_length_lem}
use Rattle.hash_chain.specs.Chain.{first_message, next_message, first_link, next_link, chain_of, tag_of}

pub link_length : (key tid kid scope : List ℕ) → length (first_link key tid kid scope) ≡ 32
unfolding first_link
link_length key tid kid scope = hash_length_lem key (first_message tid kid scope)

pub next_length : (key link caveat : List ℕ) → length (next_link key link caveat) ≡ 32
unfolding next_link
next_length key link caveat = hash_length_lem key (next_message link caveat)

pub chain_length : (key link : List ℕ) (cs : List (List ℕ)) → length link ≡ 32 → length (chain_of key link cs) ≡ 32
unfolding chain_of
chain_length key link [] h = h
chain_length key link (c ∷ cs) h = chain_length key (next_link key link c) cs (next_length key link c)

pub tag_length : (key tid kid scope : List ℕ) (cs : List (List ℕ)) → length (tag_of key tid kid scope cs) ≡ 32
unfolding tag_of
tag_length key tid kid scope cs = chain_length key (first_link key tid kid scope) cs (link_length key tid kid scope)

pub chain_behind : (key link : List ℕ) (cs : List (List ℕ)) (c : List ℕ)
    → chain_of key link (cs ++ (c ∷ [])) ≡ next_link key (chain_of key link cs) c
unfolding chain_of
chain_behind key link [] c = refl
chain_behind key link (d ∷ cs) c = chain_behind key (next_link key link d) cs c

-- a child's tag is the next link behind its parent's
pub tag_behind : (key tid kid scope : List ℕ) (cs : List (List ℕ)) (c : List ℕ)
    → tag_of key tid kid scope (cs ++ (c ∷ [])) ≡ next_link key (tag_of key tid kid scope cs) c
unfolding tag_of
tag_behind key tid kid scope cs c = chain_behind key (first_link key tid kid scope) cs c
