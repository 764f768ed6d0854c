-- How long a text is at most. 01: "At most 4,096 decoded bytes, so 5,462 characters".
use mathlib.Core.Path.{◌≡◌, refl}
use mathlib.Core.Bool.{Bool, true, false}
use mathlib.Core.List.{List}
use Prim.Native.Nat.{ℕ, ◌+◌, ◌%◌, ◌≤◌, ◌<◌}
use native.Mathlib.Omega.{arith}
use borrow.Author.Tests.{eqb-true, eqb-false}
use lib.Dec.{eqb}
use lib.ListN.{length}
use Rattle.basis.specs.Basis.{pick}
use Rattle.text_writing.specs.Base64url.{base64url, tail_length}
use Rattle.text_writing.proofs.Writings.{text_length_lem}

tail_few : (k : ℕ) → k < 3 → tail_length k ≤ k + 1
tail_few k h = by (eqb k 0) refl (eqb k 1) refl
  where
    by : (u : Bool) → eqb k 0 ≡ u → (v : Bool) → eqb k 1 ≡ v → pick u 0 (pick v 2 3) ≤ k + 1
    by true p v q = omega arith
    by false p true q = omega (arith, eqb-true k 1 q)
    by false p false q = omega (arith, eqb-false k 0 p, eqb-false k 1 q)

pub short_text : (b : List ℕ) → length b ≤ 4096 → length (base64url b) ≤ 5462
short_text b h = rw (text_length_lem b) (omega (arith, tail_few (length b % 3) (omega arith)))
