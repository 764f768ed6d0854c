-- Meaning. Where a byte first stands in a string: its index, or the string's length where it does not occur.
use Rattle.std.specs.Prelude.{Bool, true, false, List, [], ◌∷◌, ℕ, suc, eqb}

-- the index behind one more byte, which may be the one that is looked for
unfoldable pub index_after : Bool → ℕ → ℕ
index_after true n = 0
index_after false n = suc n

unfoldable pub index_of : ℕ → List ℕ → ℕ
index_of c [] = 0
index_of c (x ∷ s) = index_after (eqb x c) (index_of c s)
