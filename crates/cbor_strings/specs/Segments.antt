-- Meaning. A path as its segments (document 02, M-106): "/" before each of them, none empty but the last, none "." or "..". That these are exactly
-- the paths that may stand in a request, a scope or path_prefix is `clean_exactly` of proofs/PathLaws.antt.
use Rattle.std.specs.Prelude.{◌≡◌, Bool, true, not, ◌&&◌, List, [], ◌∷◌, ◌++◌, ℕ, eqb}
use Rattle.std.specs.List.{list_all}
use Rattle.basis.specs.Basis.{ascii}
use Rattle.cbor_strings.specs.Paths.{slash, percent, segments}
use Rattle.cbor_strings.specs.Strings.{is_printable}

-- the text that has these segments
unfoldable pub path_of : List (List ℕ) → List ℕ
path_of [] = []
path_of (g ∷ rest) = slash ∷ (g ++ path_of rest)

-- what a segment may consist of
unfoldable pub is_segment_byte : ℕ → Bool
is_segment_byte c = is_printable c && not (eqb c slash) && not (eqb c percent)

pub record GoodSegment (g : List ℕ) : Type 0 where
  pub good_bytes : list_all is_segment_byte g ≡ true
  pub not_dot : g ≡ ascii "." → ⊥
  pub not_dots : g ≡ ascii ".." → ⊥

pub data GoodSegments : List (List ℕ) → Type 0 where
  last : (g : List ℕ) → GoodSegment g → GoodSegments (g ∷ [])
  more : (g : List ℕ) (rest : List (List ℕ)) → GoodSegment g → (g ≡ [] → ⊥) → GoodSegments rest → GoodSegments (g ∷ rest)

pub record Clean (s : List ℕ) : Type 0 where
  pub whole : s ≡ path_of (segments s)
  pub good : GoodSegments (segments s)
