-- Issue has one outcome, and one final content of the room, for its arguments.
use mathlib.Core.Path.{◌≡◌}
use mathlib.Core.List.{List}
use Prim.Native.Nat.{ℕ}
use Rattle.outcome.specs.Decisions.{Carried, Refusing, outcome_of}
use Rattle.std.specs.Prelude.{Result}
use Rattle.answers.specs.declared.Answer.{Answer}
use Rattle.outcome.specs.declared.Outcome.{Outcome}
use Rattle.outcome.proofs.OneAnswer.{outcome_one_answer, result_one_answer}
use Rattle.issue.specs.Issuing.{issue_of}

pub issue_one_answer : (table tid kid scope entry : List ℕ) {r s : Outcome} {x y : List ℕ} → Carried (issue_of table tid kid scope) entry r x
    → Carried (issue_of table tid kid scope) entry s y → (r ≡ s) × (x ≡ y)
issue_one_answer table tid kid scope entry p q = outcome_one_answer (issue_of table tid kid scope) entry p q

-- the function's own result, before it is handed out
pub issue_result_one_answer : (table tid kid scope entry : List ℕ) {r s : Result ℕ Answer} {x y : List ℕ} → Carried (issue_of table tid kid scope) entry (outcome_of r) x → Refusing r
    → Carried (issue_of table tid kid scope) entry (outcome_of s) y → Refusing s → (r ≡ s) × (x ≡ y)
issue_result_one_answer table tid kid scope entry p f q g = result_one_answer (issue_of table tid kid scope) entry p f q g
