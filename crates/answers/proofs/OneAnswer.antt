-- Each public function has one result for its arguments.
use Rattle.std.proofs.Common.{◌≡◌, ℕ, List, Result}
use Rattle.std.specs.Prelude.{ok_or}
use Rattle.basis.proofs.OneAnswer.{told}
use Rattle.answers.specs.Answers.{number_of, name_of, answer_of}
use Rattle.answers.specs.declared.Answer.{Answer}
use Rattle.answers.specs.declared.NoAnswer.{NoAnswer}

pub number_one_answer : (a : Answer) {r s : ℕ} → r ≡ number_of a → s ≡ number_of a → r ≡ s
number_one_answer a p q = told p q

pub name_one_answer : (a : Answer) {r s : List ℕ} → r ≡ name_of a → s ≡ name_of a → r ≡ s
name_one_answer a p q = told p q

pub answer_of_one_answer : (n : ℕ) {r s : Result Answer NoAnswer} → r ≡ ok_or (answer_of n) (record { 0 = n }) → s ≡ ok_or (answer_of n) (record { 0 = n })
    → r ≡ s
answer_of_one_answer n p q = told p q
