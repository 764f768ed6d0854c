-- Each public function has one result for its arguments.
use Rattle.cbor_heads.specs.Defects.{Reading}
use Rattle.basis.specs.declared.Span.{Span}
use mathlib.Core.Path.{◌≡◌}
use mathlib.Core.Bool.{Bool}
use mathlib.Core.List.{List}
use Prim.Native.Nat.{ℕ}
use Rattle.basis.proofs.OneAnswer.{told}
use Rattle.cbor_strings.specs.Strings.{content_of}
use Rattle.cbor_strings.specs.Reading.{read_run, read_string}
use Rattle.cbor_strings.specs.declared.Class.{Class}

pub content_is_one_answer : (bytes : List ℕ) (class : Class) {r s : Bool} → r ≡ content_of class bytes → s ≡ content_of class bytes → r ≡ s
content_is_one_answer bytes class p q = told p q

pub read_run_one_answer : (bytes : List ℕ) (at major low high : ℕ) {r s : Reading Span} → r ≡ read_run bytes at major low high → s ≡ read_run bytes at major low high → r ≡ s
read_run_one_answer bytes at major low high p q = told p q

pub read_string_one_answer : (bytes : List ℕ) (at : ℕ) (class : Class) (low high : ℕ) {r s : Reading Span} → r ≡ read_string bytes at class low high
    → s ≡ read_string bytes at class low high → r ≡ s
read_string_one_answer bytes at class low high p q = told p q
