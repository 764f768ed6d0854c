-- Meaning. Document 02, M-100: "a prefix fits a path if they are equal, or the path begins with the prefix and either the prefix ends in "/"
-- or the next path byte is "/". It applies to the scope and to path_prefix." It replaces document 01's "starts with".
use Rattle.std.specs.Prelude.{◌≡◌, ℕ, ◌-◌, Bool, ◌&&◌, ◌||◌, List, [], ◌∷◌, ◌++◌, length, ◌==◌, slice_index}
use Rattle.basis.specs.Same.{same_of}
use Rattle.cbor_strings.specs.Paths.{slash, starts}

-- "the prefix ends in "/""; one of no bytes does not
unfoldable pub ends_in_slash : List ℕ → Bool
ends_in_slash prefix = slice_index prefix (length prefix - 1) == slash

-- "the next path byte is "/"": the one behind as many as the prefix has
unfoldable pub next_is_slash : List ℕ → List ℕ → Bool
next_is_slash prefix path = slice_index path (length prefix) == slash

-- `starts`: "the path begins with the prefix"
unfoldable pub fits_of : List ℕ → List ℕ → Bool
fits_of prefix path = same_of prefix path || (starts prefix path && (ends_in_slash prefix || next_is_slash prefix path))

-- the same of whole lists: the path is the prefix; or the prefix, "/" and anything; or the prefix, which ends in "/", and anything. That it is
-- the same is `fits_exactly` of proofs/FittingLaws.antt
pub data Fits (prefix path : List ℕ) : Type 0 where
  equal : path ≡ prefix → Fits prefix path
  slash_next : (rest : List ℕ) → path ≡ prefix ++ (slash ∷ rest) → Fits prefix path
  slash_last : (front rest : List ℕ) → prefix ≡ front ++ (slash ∷ []) → path ≡ prefix ++ rest → Fits prefix path
