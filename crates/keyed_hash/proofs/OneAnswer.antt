-- Each public function has one result for its arguments.
use mathlib.Core.Path.{◌≡◌}
use mathlib.Core.List.{List, ◌++◌}
use Prim.Native.Nat.{ℕ}
use Rattle.basis.proofs.OneAnswer.{told}
use Rattle.keyed_hash.specs.declared.Hashed.{Hashed}
use Rattle.keyed_hash.specs.KeyedHash.{hashed_of}

pub keyed_hash_joined_one_answer : (key head body : List ℕ) {r s : Hashed} → r ≡ hashed_of key (head ++ body) → s ≡ hashed_of key (head ++ body) → r ≡ s
keyed_hash_joined_one_answer key head body p q = told p q

-- of `keyed_hash` and of `bhinorpa_keyed_hash`, which promise the same
pub keyed_hash_one_answer : (key message : List ℕ) {r s : Hashed} → r ≡ hashed_of key message → s ≡ hashed_of key message → r ≡ s
keyed_hash_one_answer key message p q = told p q
