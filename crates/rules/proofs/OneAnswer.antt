-- Each public function has one result for its arguments.
use mathlib.Core.Path.{◌≡◌}
use mathlib.Core.List.{List}
use Prim.Native.Nat.{ℕ}
use Rattle.answers.specs.declared.Answer.{Answer}
use Rattle.answers.specs.Answers.{number_of}
use Rattle.answers.proofs.Distinct.{numbers_differ}
use Rattle.basis.proofs.OneAnswer.{told}
use Rattle.records_request.specs.declared.RequestAt.{RequestAt}
use Rattle.token_scope.specs.declared.ScopeAt.{ScopeAt}
use Rattle.token_caveat_values.specs.declared.CaveatAt.{CaveatAt}
use Rattle.rules.specs.Judging.{scope_judged, caveat_judged}

pub scope_answer_one_answer : (s : List ℕ) (scope : ScopeAt) (body : List ℕ) (request : RequestAt) {r q : Answer}
    → number_of r ≡ scope_judged s scope body request → number_of q ≡ scope_judged s scope body request → r ≡ q
scope_answer_one_answer s scope body request x y = numbers_differ _ _ (told x y)

pub caveat_answer_one_answer : (s : List ℕ) (caveat : CaveatAt) (body : List ℕ) (request : RequestAt) (tid : List ℕ) {r q : Answer}
    → number_of r ≡ caveat_judged s caveat body request tid → number_of q ≡ caveat_judged s caveat body request tid → r ≡ q
caveat_answer_one_answer s caveat body request tid x y = numbers_differ _ _ (told x y)
