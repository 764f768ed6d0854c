-- Each public function has one result for its arguments, and so has each of the two steps that six of the twelve values take.
use Rattle.cbor_heads.specs.Defects.{Reading}
use Rattle.token_caveat_values.specs.declared.CaveatAt.{CaveatAt}
use mathlib.Core.Path.{◌≡◌}
use mathlib.Core.List.{List}
use Prim.Native.Nat.{ℕ}
use Rattle.basis.proofs.OneAnswer.{told}
use Rattle.cbor_strings.specs.declared.Class.{Class}
use Rattle.basis.specs.declared.Span.{Span}
use Rattle.token_caveat.specs.Reading.{caveat_of}
use Rattle.token_caveat.specs.Values.{number_value, text_value}

pub read_caveat_one_answer : (bytes : List ℕ) {r s : Reading (CaveatAt × ℕ)} → r ≡ caveat_of bytes → s ≡ caveat_of bytes → r ≡ s
read_caveat_one_answer bytes p q = told p q

pub number_value_one_answer : (make : ℕ → CaveatAt) (bytes : List ℕ) (at : ℕ) {r s : Reading (CaveatAt × ℕ)} → r ≡ number_value make bytes at
    → s ≡ number_value make bytes at → r ≡ s
number_value_one_answer make bytes at p q = told p q

pub text_value_one_answer : (make : Span → CaveatAt) (class : Class) (high : ℕ) (bytes : List ℕ) (at : ℕ) {r s : Reading (CaveatAt × ℕ)}
    → r ≡ text_value make class high bytes at → s ≡ text_value make class high bytes at → r ≡ s
text_value_one_answer make class high bytes at p q = told p q
