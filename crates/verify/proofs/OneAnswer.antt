-- Verify has one answer for its arguments.
use mathlib.Core.Path.{◌≡◌}
use mathlib.Core.List.{List}
use Prim.Native.Nat.{ℕ}
use Rattle.answers.specs.declared.Answer.{Answer}
use Rattle.answers.specs.Answers.{number_of}
use Rattle.answers.proofs.Distinct.{numbers_differ}
use Rattle.basis.proofs.OneAnswer.{told}
use Rattle.verify.specs.Verifying.{verify_of}

pub verify_one_answer : (table request token : List ℕ) {r s : Answer} → number_of r ≡ verify_of table request token → number_of s ≡ verify_of table request token → r ≡ s
verify_one_answer table request token x y = numbers_differ _ _ (told x y)
