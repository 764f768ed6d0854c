-- Meaning. What a path must not hold: in a request, in a scope and in path_prefix. Document 02, M-106: "Refuse a request path with "%", "//", or a
-- segment "." or ".." as ctx.bad. Refuse the same in a scope prefix or path_prefix as bad content."
use Rattle.std.specs.Prelude.{Bool, true, false, ◌||◌, List, [], ◌∷◌, ℕ, eqb}
use Rattle.basis.specs.Basis.{pick, ascii}
use Rattle.basis.specs.Same.{same_of}

-- "/" and "%"
abbrev pub slash : ℕ
slash = 47

abbrev pub percent : ℕ
percent = 37

-- one text begins with another, byte by byte
unfoldable pub starts : List ℕ → List ℕ → Bool
starts [] path = true
starts (a ∷ p) [] = false
starts (a ∷ p) (b ∷ t) = pick (eqb a b) (starts p t) false

-- a part stands somewhere in a text
unfoldable pub has : List ℕ → List ℕ → Bool
has part [] = starts part []
has part (c ∷ t) = starts part (c ∷ t) || has part t

-- a segment is what lies between slashes, and behind the last one: one opens behind each "/" and goes up to the next, or to the end
unfoldable pub up_to : List ℕ → List ℕ
up_to [] = []
up_to (c ∷ t) = pick (eqb c slash) [] (c ∷ up_to t)

unfoldable pub segments : List ℕ → List (List ℕ)
segments [] = []
segments (c ∷ t) = pick (eqb c slash) (up_to t ∷ segments t) (segments t)

-- one of the segments is this one
unfoldable pub among : List ℕ → List (List ℕ) → Bool
among segment [] = false
among segment (g ∷ rest) = same_of g segment || among segment rest

-- "with "%", "//", or a segment "." or "..""
unfoldable pub is_rewritten : List ℕ → Bool
is_rewritten s = has (ascii "%") s || has (ascii "//") s || among (ascii ".") (segments s) || among (ascii "..") (segments s)
