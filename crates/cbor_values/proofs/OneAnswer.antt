-- Each public function has one result for its arguments.
use Rattle.cbor_heads.specs.Defects.{Reading}
use mathlib.Core.Path.{◌≡◌}
use mathlib.Core.Bool.{Bool}
use mathlib.Core.List.{List}
use Prim.Native.Nat.{ℕ}
use Rattle.basis.proofs.OneAnswer.{told}
use Rattle.cbor_values.specs.Utf8.{utf8}
use Rattle.cbor_values.specs.Reading.{items_of, value_of}

pub is_utf8_one_answer : (bytes : List ℕ) {r s : Bool} → r ≡ utf8 bytes → s ≡ utf8 bytes → r ≡ s
is_utf8_one_answer bytes p q = told p q

pub read_value_one_answer : (bytes : List ℕ) (at depth : ℕ) {r s : Reading ℕ} → r ≡ value_of depth bytes at → s ≡ value_of depth bytes at → r ≡ s
read_value_one_answer bytes at depth p q = told p q

pub items_end_one_answer : (item : List ℕ → ℕ → Reading ℕ) (bytes : List ℕ) (at count : ℕ) {r s : Reading ℕ} → r ≡ items_of (item bytes) count at
    → s ≡ items_of (item bytes) count at → r ≡ s
items_end_one_answer item bytes at count p q = told p q
