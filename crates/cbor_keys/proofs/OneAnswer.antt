-- Each public function has one result for its arguments.
use Rattle.cbor_heads.specs.Defects.{Reading}
use Rattle.basis.specs.declared.Span.{Span}
use mathlib.Core.Path.{◌≡◌}
use mathlib.Core.List.{List}
use Prim.Native.Nat.{ℕ}
use Rattle.basis.proofs.OneAnswer.{told}
use Rattle.cbor_keys.specs.Reading.{key_at, wanted_key}
use Rattle.cbor_keys.specs.Fields.{name_field, number_field}
use Rattle.cbor_keys.specs.declared.Names.{Names}

pub key_at_one_answer : (bytes : List ℕ) (at : ℕ) (names : Names) {r s : Reading (ℕ × ℕ)} → r ≡ key_at names bytes at → s ≡ key_at names bytes at → r ≡ s
key_at_one_answer bytes at names p q = told p q

pub wanted_key_one_answer : (bytes : List ℕ) (at : ℕ) (names : Names) (want : ℕ) {r s : Reading ℕ} → r ≡ wanted_key names bytes at want → s ≡ wanted_key names bytes at want → r ≡ s
wanted_key_one_answer bytes at names want p q = told p q

pub name_field_one_answer : (bytes : List ℕ) (at : ℕ) (names : Names) (want : ℕ) {r s : Reading Span} → r ≡ name_field names bytes at want → s ≡ name_field names bytes at want → r ≡ s
name_field_one_answer bytes at names want p q = told p q

pub number_field_one_answer : (bytes : List ℕ) (at : ℕ) (names : Names) (want most : ℕ) {r s : Reading (ℕ × ℕ)} → r ≡ number_field names bytes at want most
    → s ≡ number_field names bytes at want most → r ≡ s
number_field_one_answer bytes at names want most p q = told p q
