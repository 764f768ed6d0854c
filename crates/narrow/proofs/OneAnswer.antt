-- Narrow has one outcome, and one final content of the room, for its arguments.
use mathlib.Core.Path.{◌≡◌}
use mathlib.Core.List.{List}
use Prim.Native.Nat.{ℕ}
use Rattle.outcome.specs.Decisions.{Carried, Refusing, outcome_of}
use Rattle.std.specs.Prelude.{Result}
use Rattle.answers.specs.declared.Answer.{Answer}
use Rattle.outcome.specs.declared.Outcome.{Outcome}
use Rattle.outcome.proofs.OneAnswer.{outcome_one_answer, result_one_answer}
use Rattle.narrow.specs.Narrowing.{narrow_of}

pub narrow_one_answer : (table text caveat entry : List ℕ) {r s : Outcome} {x y : List ℕ} → Carried (narrow_of table text caveat) entry r x
    → Carried (narrow_of table text caveat) entry s y → (r ≡ s) × (x ≡ y)
narrow_one_answer table text caveat entry p q = outcome_one_answer (narrow_of table text caveat) entry p q

-- the function's own result, before it is handed out
pub narrow_result_one_answer : (table text caveat entry : List ℕ) {r s : Result ℕ Answer} {x y : List ℕ} → Carried (narrow_of table text caveat) entry (outcome_of r) x → Refusing r
    → Carried (narrow_of table text caveat) entry (outcome_of s) y → Refusing s → (r ≡ s) × (x ≡ y)
narrow_result_one_answer table text caveat entry p f q g = result_one_answer (narrow_of table text caveat) entry p f q g
