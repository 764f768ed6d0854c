-- Every line of a bundle names the answer whose number verify gives: there always is one.
use mathlib.Core.Path.{◌≡◌, refl, ap}
use mathlib.Core.Bool.{Bool, true, false}
use mathlib.Core.List.{List, ◌++◌}
use Prim.Native.Nat.{ℕ, ◌<◌}
use native.Mathlib.Omega.{arith}
use lib.Dec.{eqb}
use lib.ListN.{length}
use Rattle.basis.specs.Basis.{pick, ascii}
use Rattle.basis.proofs.All.{all, all_at}
use Rattle.answers.specs.Answers.{number_of, name_of, answer_of}
use Rattle.answers.specs.declared.Answer.{Answer}
use Rattle.std.specs.Prelude.{Option, Some, None}
use Rattle.answers.proofs.Distinct.{listed_number}
use Rattle.answers.proofs.Named.{name_long}
use Rattle.verify.specs.Verifying.{verify_of}
use Rattle.verify.proofs.Numbers.{verify_low}
use Rattle.bundle.specs.Lines.{name_in, line_words}

-- an answer has this number, and the words for the number are that answer's
pub record Named (n : ℕ) : Type 0 where
  pub answer : Answer
  pub listed : answer_of n ≡ Some answer
  pub numbered : number_of answer ≡ n
  pub words : line_words n ≡ pick (eqb n 0) (ascii "allow") (ascii "deny " ++ name_of answer)

is_of : Option Answer → Bool
is_of (Some a) = true
is_of None = false

named_by : (n : ℕ) → is_of (answer_of n) ≡ true → Named n
unfolding line_words is_of
named_by n = by (answer_of n) refl
  where
    by : (x : Option Answer) → answer_of n ≡ x → is_of x ≡ true → Named n
    by (Some a) e t =
        record {
          answer = a;
          listed = e;
          numbered = listed_number n e;
          words = ap (λ (x : Option Answer). pick (eqb n 0) (ascii "allow") (ascii "deny " ++ name_in x)) e;
        }
    by None e t = let z : ◌≡◌ {A = ℕ} 0 1 = cc in let z : ⊥ = omega arith in elim z [ ]

-- what a line would say of a number that no answer has is no answer's name
pub unnamed : (a : Answer) → name_of a ≡ name_in None → ⊥
unnamed a e = omega (arith, name_long a, ap length e)

-- those from 0 to 21, each tried
low_named : (n : ℕ) → n < 22 → Named n
unfolding all answer_of is_of
low_named n h = named_by n (all_at 22 (λ n. is_of (answer_of n)) refl n h)

pub verify_named : (table request token : List ℕ) → Named (verify_of table request token)
verify_named table request token = low_named (verify_of table request token) (verify_low table request token)
