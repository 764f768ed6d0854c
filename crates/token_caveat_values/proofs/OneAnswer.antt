-- Each reader of a value has one answer for its arguments.
use Rattle.cbor_heads.specs.Defects.{Reading}
use Rattle.token_caveat_values.specs.declared.CaveatAt.{CaveatAt}
use mathlib.Core.Path.{◌≡◌}
use mathlib.Core.List.{List}
use Prim.Native.Nat.{ℕ}
use Rattle.basis.proofs.OneAnswer.{told}
use Rattle.token_caveat_values.specs.Values.{digest_value, method_value, cidr_value, amnesia_value}
use Rattle.token_caveat_values.specs.Maps.{rate_value, custom_value}

pub digest_value_one_answer : (s : List ℕ) (at : ℕ) {r q : Reading (CaveatAt × ℕ)} → r ≡ digest_value s at → q ≡ digest_value s at → r ≡ q
digest_value_one_answer s at x y = told x y

pub method_value_one_answer : (s : List ℕ) (at : ℕ) {r q : Reading (CaveatAt × ℕ)} → r ≡ method_value s at → q ≡ method_value s at → r ≡ q
method_value_one_answer s at x y = told x y

pub cidr_value_one_answer : (s : List ℕ) (at : ℕ) {r q : Reading (CaveatAt × ℕ)} → r ≡ cidr_value s at → q ≡ cidr_value s at → r ≡ q
cidr_value_one_answer s at x y = told x y

pub rate_value_one_answer : (s : List ℕ) (at : ℕ) {r q : Reading (CaveatAt × ℕ)} → r ≡ rate_value s at → q ≡ rate_value s at → r ≡ q
rate_value_one_answer s at x y = told x y

pub amnesia_value_one_answer : (s : List ℕ) (at : ℕ) {r q : Reading (CaveatAt × ℕ)} → r ≡ amnesia_value s at → q ≡ amnesia_value s at → r ≡ q
amnesia_value_one_answer s at x y = told x y

pub custom_value_one_answer : (s : List ℕ) (at : ℕ) {r q : Reading (CaveatAt × ℕ)} → r ≡ custom_value s at → q ≡ custom_value s at → r ≡ q
custom_value_one_answer s at x y = told x y
