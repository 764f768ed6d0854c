-- Each public function has one result for its arguments.
use Rattle.cbor_heads.specs.Defects.{Reading}
use Rattle.cbor_values.specs.declared.ListAt.{ListAt}
use Rattle.token_scope.specs.declared.ScopeAt.{ScopeAt}
use mathlib.Core.Path.{◌≡◌}
use mathlib.Core.List.{List}
use Prim.Native.Nat.{ℕ}
use Rattle.basis.proofs.OneAnswer.{told}
use Rattle.token_scope.specs.Methods.{methods_of}
use Rattle.token_scope.specs.Reading.{scope_of}

pub read_methods_one_answer : (bytes : List ℕ) (at : ℕ) {r s : Reading ListAt} → r ≡ methods_of bytes at → s ≡ methods_of bytes at → r ≡ s
read_methods_one_answer bytes at p q = told p q

pub read_scope_one_answer : (bytes : List ℕ) (at : ℕ) {r s : Reading (ScopeAt × ℕ)} → r ≡ scope_of bytes at → s ≡ scope_of bytes at → r ≡ s
read_scope_one_answer bytes at p q = told p q
