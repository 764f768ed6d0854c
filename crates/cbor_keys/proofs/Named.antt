-- A slice whose bytes are told one by one, as those of a name are by its pattern, is that name.
use mathlib.Core.Path.{◌≡◌, ap₂}
use mathlib.Core.List.{List, [], ◌∷◌}
use Prim.Native.Nat.{ℕ, suc, ◌+◌}
use native.Mathlib.Omega.{arith}
use lib.ListN.{length, drop, get_or, drop_of_length-le}
use lib.Seq.{drop-cons}

-- the bytes of c from the i-th on are these
abbrev pub Reads : List ℕ → ℕ → List ℕ → Type 0
Reads c i [] = Unit {0}
Reads c i (b ∷ t) = (get_or c i 0 ≡ b) × Reads c (suc i) t

reads_on : (t c : List ℕ) (i : ℕ) → i + length t ≡ length c → Reads c i t → drop i c ≡ t
reads_on [] c i l r = drop_of_length-le c (omega (arith, l))
reads_on (b ∷ t) c i l r = rw (drop-cons c i 0 (omega (arith, l))) (ap₂ ◌∷◌ r.0 (reads_on t c (suc i) (omega (arith, l)) r.1))

pub reads_all : (t c : List ℕ) → length t ≡ length c → Reads c 0 t → c ≡ t
reads_all t c l r = reads_on t c 0 (omega (arith, l)) r
