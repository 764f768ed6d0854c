-- How long a head is at most, for the bounds of what is written.
use mathlib.Core.Path.{◌≡◌}
use mathlib.Core.Bool.{Bool, true, false}
use mathlib.Core.List.{[], ◌∷◌}
use Prim.Native.Nat.{ℕ, ◌+◌, ◌*◌, ◌≤◌, ◌<◌}
use native.Mathlib.Omega.{arith}
use borrow.Author.Tests.{lt-ltb}
use lib.Dec.{ltb}
use lib.ListN.{length}
use Rattle.basis.specs.Basis.{pick}
use Rattle.cbor_heads.specs.Heads.{big, head}
use Rattle.cbor_heads.proofs.HeadLaws.{bytes_length}

module _ (major n : ℕ) where
  pub head_one : n < 24 → length (head major n) ≡ 1
  unfolding head
  head_one h = rw (lt-ltb n 24 h)

  pub head_two : n < 256 → length (head major n) ≤ 2
  unfolding head
  head_two h = rw (lt-ltb n 256 h) (by (ltb n 24)) where
    by : (a : Bool) → length (pick a ((major * 32 + n) ∷ []) ((major * 32 + 24) ∷ big 1 n)) ≤ 2
    by true = omega arith
    by false = omega (arith, bytes_length 1 n)

  pub head_three : n < 65536 → length (head major n) ≤ 3
  unfolding head
  head_three h = rw (lt-ltb n 65536 h) (by (ltb n 24) (ltb n 256)) where
    by : (a b : Bool) → length (pick a ((major * 32 + n) ∷ []) (pick b ((major * 32 + 24) ∷ big 1 n) ((major * 32 + 25) ∷ big 2 n))) ≤ 3
    by true b = omega arith
    by false true = omega (arith, bytes_length 1 n)
    by false false = omega (arith, bytes_length 2 n)

  pub head_nine : length (head major n) ≤ 9
  unfolding head
  head_nine = by (ltb n 24) (ltb n 256) (ltb n 65536) (ltb n 4294967296) where
    by : (a b c d : Bool) → length (pick a ((major * 32 + n) ∷ []) (pick b ((major * 32 + 24) ∷ big 1 n) (pick c ((major * 32 + 25) ∷ big 2 n) (pick d ((major * 32 + 26) ∷ big 4 n) ((major * 32 + 27) ∷ big 8 n))))) ≤ 9
    by true b c d = omega arith
    by false true c d = omega (arith, bytes_length 1 n)
    by false false true d = omega (arith, bytes_length 2 n)
    by false false false true = omega (arith, bytes_length 4 n)
    by false false false false = omega (arith, bytes_length 8 n)
