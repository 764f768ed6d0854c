-- Meaning. "First n bits agree" (document 01, "What holds when"), over strings of bytes of any length.
use Rattle.std.specs.Prelude.{◌≡◌, Bool, true, false, List, [], ◌∷◌, ◌++◌, ℕ, zero, suc, ◌-◌, ◌/◌, ◌%◌, ◌^◌, ltb, eqb, take}
use Rattle.basis.specs.Basis.{pick}

-- the low k bits of a number, the highest first
unfoldable pub bits_of : ℕ → ℕ → List ℕ
bits_of zero b = []
bits_of (suc k) b = b / 2 ^ k % 2 ∷ bits_of k b

unfoldable pub bits : List ℕ → List ℕ
bits [] = []
bits (b ∷ s) = bits_of 8 b ++ bits s

unfoldable pub Agree : List ℕ → List ℕ → ℕ → Type 0
Agree x y n = take n (bits x) ≡ take n (bits y)

-- the same byte by byte: whole bytes while there are eight bits to compare, then the high part of one
unfoldable pub agree_of : List ℕ → List ℕ → ℕ → Bool
agree_of [] [] n = true
agree_of [] (b ∷ y) n = eqb n 0
agree_of (a ∷ x) [] n = eqb n 0
agree_of (a ∷ x) (b ∷ y) n = pick (ltb n 8) (eqb (a / 2 ^ (8 - n)) (b / 2 ^ (8 - n))) (pick (eqb a b) (agree_of x y (n - 8)) false)
