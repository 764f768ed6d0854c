-- A token's back has one reading.
use mathlib.Core.Path.{◌≡◌}
use mathlib.Core.List.{List}
use Prim.Native.Nat.{ℕ}
use Rattle.basis.proofs.OneAnswer.{told}
use Rattle.cbor_heads.specs.Defects.{Reading}
use Rattle.token_back.specs.Back.{back_of}
use Rattle.token_back.specs.declared.BackAt.{BackAt}

pub read_back_one_answer : (bytes : List ℕ) (at : ℕ) {r s : Reading BackAt} → r ≡ back_of bytes at → s ≡ back_of bytes at → r ≡ s
read_back_one_answer bytes at p q = told p q
