-- Each public function has one result for its arguments.
use mathlib.Core.Path.{◌≡◌}
use mathlib.Core.Bool.{Bool}
use mathlib.Core.List.{List}
use Prim.Native.Nat.{ℕ}
use Rattle.std.specs.Prelude.{Option}
use Rattle.basis.proofs.OneAnswer.{told}
use Rattle.token_cidr.specs.Bits.{agree_of}
use Rattle.token_cidr.specs.Reading.{network_of, cidr_of}
use Rattle.token_cidr.specs.declared.Network.{Network}

pub read_cidr_one_answer : (text : List ℕ) {r s : Option Network} → r ≡ cidr_of text → s ≡ cidr_of text → r ≡ s
read_cidr_one_answer text p q = told p q

pub first_bits_agree_one_answer : (x y : List ℕ) (n : ℕ) {r s : Bool} → r ≡ agree_of x y n → s ≡ agree_of x y n → r ≡ s
first_bits_agree_one_answer x y n p q = told p q

pub network_of_one_answer : (a b c d size : ℕ) {r s : Network} → r ≡ network_of a b c d size → s ≡ network_of a b c d size → r ≡ s
network_of_one_answer a b c d size p q = told p q
