-- The public function has one result for its argument.
use mathlib.Core.Path.{◌≡◌}
use mathlib.Core.List.{List}
use Prim.Native.Nat.{ℕ}
use Rattle.std.specs.Prelude.{Option}
use Rattle.basis.proofs.OneAnswer.{told}
use Rattle.records_request.specs.Reading.{request_of}
use Rattle.records_request.specs.declared.RequestAt.{RequestAt}

pub read_request_one_answer : (bytes : List ℕ) {r s : Option RequestAt} → r ≡ request_of bytes → s ≡ request_of bytes → r ≡ s
read_request_one_answer bytes p q = told p q
