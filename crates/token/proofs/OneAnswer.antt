-- A token has one reading.
use mathlib.Core.Path.{◌≡◌}
use mathlib.Core.List.{List}
use Prim.Native.Nat.{ℕ}
use Rattle.basis.proofs.OneAnswer.{told}
use Rattle.cbor_heads.specs.Defects.{Reading}
use Rattle.token.specs.Reading.{token_of}
use Rattle.token.specs.declared.TokenAt.{TokenAt}

pub read_token_one_answer : (bytes : List ℕ) {r s : Reading TokenAt} → r ≡ token_of bytes → s ≡ token_of bytes → r ≡ s
read_token_one_answer bytes p q = told p q
