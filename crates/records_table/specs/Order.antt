-- Meaning. The order of a table's rows. Document 01, "House records": "strictly ascending by tid bytes, then kid bytes, where a string
-- comes before any longer one that begins with it".
use Rattle.std.specs.Prelude.{Bool, true, false, ◌&&◌, ◌||◌, List, [], ◌∷◌, ℕ, ltb}
use Rattle.basis.specs.Basis.{pick}
use Rattle.basis.specs.Same.{same_of}

unfoldable pub before_of : List ℕ → List ℕ → Bool
before_of [] [] = false
before_of [] (b ∷ t) = true
before_of (a ∷ s) [] = false
before_of (a ∷ s) (b ∷ t) = pick (ltb a b) true (pick (ltb b a) false (before_of s t))

-- the row with tid t and kid k stands before that with tid and kid
unfoldable pub ascends : List ℕ → List ℕ → List ℕ → List ℕ → Bool
ascends t k tid kid = before_of t tid || (same_of t tid && before_of k kid)

unfoldable pub same_ids : List ℕ → List ℕ → List ℕ → List ℕ → Bool
same_ids t k tid kid = same_of t tid && same_of k kid
