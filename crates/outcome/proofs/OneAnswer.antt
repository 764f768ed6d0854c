-- What is handed out has one outcome, and one final content of the room.
use mathlib.Core.Path.{◌≡◌, ap, ap₂}
use mathlib.Core.List.{List}
use Prim.Native.Nat.{ℕ}
use native.Mathlib.Omega.{arith}
use Rattle.basis.proofs.OneAnswer.{told}
use Rattle.text_writing.specs.Base64url.{base64url}
use Rattle.outcome.specs.Decisions.{Decision, granted, outcome_of, Carried, Refusing}
use Rattle.std.specs.Prelude.{Result, Ok, Err}
use Rattle.answers.specs.declared.Answer.{Answer}
use Rattle.answers.proofs.Distinct.{numbers_differ}
use Rattle.outcome.specs.declared.Outcome.{Outcome}

abbrev outcome : ℕ → ℕ → Outcome
outcome answer length = record { answer = answer; length = length }

pub outcome_one_answer : (h : Decision) (entry : List ℕ) {r s : Outcome} {x y : List ℕ} → Carried h entry r x → Carried h entry s y → (r ≡ s) × (x ≡ y)
outcome_one_answer h entry {r} {s} p q = (ap₂ outcome (told p.answer q.answer) (told p.count q.count), told p.content q.content)

-- a result is handed out in one way
pub handed_one_answer : (result : Result ℕ Answer) {r s : Outcome} → r ≡ outcome_of result → s ≡ outcome_of result → r ≡ s
handed_one_answer result p q = told p q

-- and an outcome is of one result: a refusal's number is its answer's, and not the 0 of a text
outcomes_differ : (r s : Result ℕ Answer) → Refusing r → Refusing s → outcome_of r ≡ outcome_of s → r ≡ s
outcomes_differ (Ok n) (Ok m) p q e = ap Ok (ap (λ (o : Outcome). o.length) e)
outcomes_differ (Ok n) (Err b) p q e = let a = ap (λ (o : Outcome). o.answer) e in absurd (omega (arith, a, q))
outcomes_differ (Err a) (Ok m) p q e = let b = ap (λ (o : Outcome). o.answer) e in absurd (omega (arith, b, p))
outcomes_differ (Err a) (Err b) p q e = ap Err (numbers_differ a b (ap (λ (o : Outcome). o.answer) e))

pub result_one_answer : (h : Decision) (entry : List ℕ) {r s : Result ℕ Answer} {x y : List ℕ} → Carried h entry (outcome_of r) x → Refusing r
    → Carried h entry (outcome_of s) y → Refusing s → (r ≡ s) × (x ≡ y)
result_one_answer h entry {r} {s} p f q g = let both = outcome_one_answer h entry p q in (outcomes_differ r s f g both.0, both.1)

pub write_text_one_answer : (bytes entry : List ℕ) {r s : Outcome} {x y : List ℕ} → Carried (granted (base64url bytes)) entry r x
    → Carried (granted (base64url bytes)) entry s y → (r ≡ s) × (x ≡ y)
write_text_one_answer bytes entry p q = outcome_one_answer (granted (base64url bytes)) entry p q

pub write_text_result_one_answer : (bytes entry : List ℕ) {r s : Result ℕ Answer} {x y : List ℕ} → Carried (granted (base64url bytes)) entry (outcome_of r) x → Refusing r
    → Carried (granted (base64url bytes)) entry (outcome_of s) y → Refusing s → (r ≡ s) × (x ≡ y)
write_text_result_one_answer bytes entry p f q g = result_one_answer (granted (base64url bytes)) entry p f q g
