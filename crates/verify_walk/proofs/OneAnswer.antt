-- A token with its key has one answer, and two tags compare in one way.
use mathlib.Core.Path.{◌≡◌}
use mathlib.Core.Bool.{Bool}
use mathlib.Core.List.{List}
use Prim.Native.Nat.{ℕ}
use Rattle.answers.specs.declared.Answer.{Answer}
use Rattle.answers.specs.Answers.{number_of}
use Rattle.answers.proofs.Distinct.{numbers_differ}
use Rattle.basis.specs.Same.{same_of}
use Rattle.basis.proofs.OneAnswer.{told}
use Rattle.cbor_values.specs.declared.ListAt.{ListAt}
use Rattle.records_request.specs.declared.RequestAt.{RequestAt}
use Rattle.token.specs.declared.TokenAt.{TokenAt}
use Rattle.verify_walk.specs.Walking.{links_of, link_first, key_judged}

pub same_tag_one_answer : (link tag : List ℕ) {r q : Bool} → r ≡ same_of link tag → q ≡ same_of link tag → r ≡ q
same_tag_one_answer link tag x y = told x y

pub links_one_answer : (s : List ℕ) (caveats : ListAt) (key first : List ℕ) {r q : List ℕ} → r ≡ links_of s caveats key first → q ≡ links_of s caveats key first → r ≡ q
links_one_answer s caveats key first x y = told x y

pub link_first_one_answer : (key s : List ℕ) (token : TokenAt) {r q : List ℕ} → r ≡ link_first key s token → q ≡ link_first key s token → r ≡ q
link_first_one_answer key s token x y = told x y

pub with_key_one_answer : (key s : List ℕ) (token : TokenAt) (body : List ℕ) (request : RequestAt) {r q : Answer} → number_of r ≡ key_judged key s token body request
    → number_of q ≡ key_judged key s token body request → r ≡ q
with_key_one_answer key s token body request x y = numbers_differ _ _ (told x y)
