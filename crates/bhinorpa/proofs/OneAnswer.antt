-- Each entry point has one answer for its arguments.
use mathlib.Core.Path.{◌≡◌}
use mathlib.Core.List.{List}
use Prim.Native.Nat.{ℕ}
use Rattle.verify.specs.Verifying.{verify_of}
use Rattle.basis.proofs.OneAnswer.{told}

pub bhinorpa_verify_one_answer : (table request token : List ℕ) {n m : ℕ} → n ≡ verify_of table request token → m ≡ verify_of table request token → n ≡ m
bhinorpa_verify_one_answer table request token x y = told x y
