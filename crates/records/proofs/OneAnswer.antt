-- Each public function has one result for its arguments.
use mathlib.Core.Path.{◌≡◌}
use mathlib.Core.List.{List}
use Prim.Native.Nat.{ℕ}
use Rattle.std.specs.Prelude.{Option}
use Rattle.basis.specs.declared.Span.{Span}
use Rattle.basis.proofs.OneAnswer.{told}
use Rattle.cbor_strings.specs.declared.Class.{Class}
use Rattle.records.specs.Reading.{run_at, little_at, text_at, read_record}
use Rattle.records.specs.declared.RecordAt.{RecordAt}

pub run_at_one_answer : (bytes : List ℕ) (at n : ℕ) {r s : Option Span} → r ≡ run_at bytes at n → s ≡ run_at bytes at n → r ≡ s
run_at_one_answer bytes at n p q = told p q

pub little_at_one_answer : (bytes : List ℕ) (at width : ℕ) {r s : Option (ℕ × ℕ)} → r ≡ little_at bytes at width → s ≡ little_at bytes at width → r ≡ s
little_at_one_answer bytes at width p q = told p q

pub text_at_one_answer : (bytes : List ℕ) (at width : ℕ) (class : Class) (low high : ℕ) {r s : Option Span} → r ≡ text_at bytes width class low high at → s ≡ text_at bytes width class low high at
    → r ≡ s
text_at_one_answer bytes at width class low high p q = told p q

pub record_at_one_answer : (bytes : List ℕ) (at : ℕ) {r s : Option RecordAt} → r ≡ read_record bytes at → s ≡ read_record bytes at → r ≡ s
record_at_one_answer bytes at p q = told p q
