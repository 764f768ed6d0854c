-- Each public function has one result for its arguments.
use mathlib.Core.Path.{◌≡◌}
use mathlib.Core.List.{List}
use Prim.Native.Nat.{ℕ}
use Rattle.basis.proofs.OneAnswer.{told}
use Rattle.hash_chain.specs.Chain.{first_link, next_link}

pub first_link_one_answer : (key tid kid scope : List ℕ) {r s : List ℕ} → r ≡ first_link key tid kid scope
    → s ≡ first_link key tid kid scope → r ≡ s
first_link_one_answer key tid kid scope p q = told p q

pub next_link_one_answer : (key link caveat : List ℕ) {r s : List ℕ} → r ≡ next_link key link caveat → s ≡ next_link key link caveat
    → r ≡ s
next_link_one_answer key link caveat p q = told p q
