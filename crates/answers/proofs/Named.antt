-- How long a name is, by one test of the whole list.
use Rattle.std.proofs.Common.{◌≡◌, ◌≤◌, Bool, true, ◌==◌, length, refl}
use Rattle.std.specs.List.{list_all}
use Rattle.std.proofs.lemmas.Bool.{leb-true}
use Rattle.std.proofs.Math.Dec.{leb}
use Rattle.answers.specs.Answers.{number_of, name_of, list, answer_of}
use Rattle.answers.specs.declared.Answer.{Answer}
use Rattle.answers.proofs.Distinct.{found, number_back}

-- what all of the list pass, each answer passes
each : (test : Answer → Bool) → list_all test list ≡ true → (a : Answer) → test a ≡ true
unfolding answer_of
each test all a = (found (λ b. number_of a == number_of b) test list all (number_back a)).1

-- no name is shorter than "allow"
pub name_long : (a : Answer) → 5 ≤ length (name_of a)
name_long a = leb-true 5 _ (each (λ b. leb 5 (length (name_of b))) refl a)

-- or longer than "caveat.custom.unknown"
pub name_short : (a : Answer) → length (name_of a) ≤ 21
name_short a = leb-true _ 21 (each (λ b. leb (length (name_of b)) 21) refl a)
