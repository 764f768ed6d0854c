-- A child has one outcome, and one final content of the room, for what it is made of.
use mathlib.Core.Path.{◌≡◌}
use mathlib.Core.List.{List}
use Prim.Native.Nat.{ℕ}
use Rattle.token_caveat.specs.Reading.{caveat_of}
use Rattle.token.specs.declared.TokenAt.{TokenAt}
use Rattle.outcome.specs.Decisions.{Carried, Refusing, outcome_of}
use Rattle.std.specs.Prelude.{Result}
use Rattle.answers.specs.declared.Answer.{Answer}
use Rattle.outcome.specs.declared.Outcome.{Outcome}
use Rattle.outcome.proofs.OneAnswer.{outcome_one_answer, result_one_answer}
use Rattle.narrow_child.specs.Child.{caveat_added}

pub add_caveat_one_answer : (key link s : List ℕ) (parent : TokenAt) (caveat entry : List ℕ) {r o : Outcome} {x y : List ℕ}
    → Carried (caveat_added key link s parent caveat (caveat_of caveat)) entry r x
    → Carried (caveat_added key link s parent caveat (caveat_of caveat)) entry o y → (r ≡ o) × (x ≡ y)
add_caveat_one_answer key link s parent caveat entry p q = outcome_one_answer (caveat_added key link s parent caveat (caveat_of caveat)) entry p q

-- the function's own result, before it is handed out
pub add_caveat_result_one_answer : (key link s : List ℕ) (parent : TokenAt) (caveat entry : List ℕ) {r o : Result ℕ Answer} {x y : List ℕ}
    → Carried (caveat_added key link s parent caveat (caveat_of caveat)) entry (outcome_of r) x → Refusing r
    → Carried (caveat_added key link s parent caveat (caveat_of caveat)) entry (outcome_of o) y → Refusing o → (r ≡ o) × (x ≡ y)
add_caveat_result_one_answer key link s parent caveat entry p f q g = result_one_answer (caveat_added key link s parent caveat (caveat_of caveat)) entry p f q g
