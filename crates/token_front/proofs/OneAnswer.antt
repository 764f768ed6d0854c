-- A caveat at its place, and a token's front, have one reading each.
use mathlib.Core.Path.{◌≡◌}
use mathlib.Core.List.{List}
use Prim.Native.Nat.{ℕ}
use lib.ListN.{drop}
use Rattle.basis.proofs.OneAnswer.{told}
use Rattle.cbor_heads.specs.Defects.{Reading}
use Rattle.token_caveat.specs.Reading.{caveat_of}
use Rattle.token_caveat_values.specs.declared.CaveatAt.{CaveatAt}
use Rattle.token_front.specs.Front.{front_of}
use Rattle.token_front.specs.declared.FrontAt.{FrontAt}

pub caveat_at_one_answer : (bytes : List ℕ) (at : ℕ) {r s : Reading (CaveatAt × ℕ)} → r ≡ caveat_of (drop at bytes) → s ≡ caveat_of (drop at bytes) → r ≡ s
caveat_at_one_answer bytes at p q = told p q

pub read_front_one_answer : (bytes : List ℕ) {r s : Reading FrontAt} → r ≡ front_of bytes → s ≡ front_of bytes → r ≡ s
read_front_one_answer bytes p q = told p q
