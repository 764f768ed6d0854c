-- Meaning. What is handed out, and what the room holds then. Document 01: "Done returns the text's length; the rest of the room stays.
-- Every refusal by these three returns 0 bytes and writes nothing."
use Rattle.std.specs.Prelude.{◌≡◌, ◌<◌, List, ℕ, leb, length, Result, Ok, Err, IfErr}
use Rattle.answers.specs.Answers.{number_of}
use Rattle.answers.specs.declared.Answer.{Answer}
use Rattle.basis.specs.Basis.{pick, over}
use Rattle.outcome.specs.declared.Outcome.{Outcome}

-- a refusal with its number, or a text for a room that holds it
pub data Decision : Type 0 where
  refused : ℕ → Decision
  granted : List ℕ → Decision

-- 36, the last check: the room is shorter than the text
abbrev pub answer_for : Decision → ℕ → ℕ
answer_for (refused n) room = n
answer_for (granted text) room = pick (leb (length text) room) 0 36

abbrev pub length_for : Decision → ℕ → ℕ
length_for (refused n) room = 0
length_for (granted text) room = pick (leb (length text) room) (length text) 0

abbrev pub content_for : Decision → List ℕ → List ℕ
content_for (refused n) entry = entry
content_for (granted text) entry = pick (leb (length text) (length entry)) (over text entry) entry

-- the outcome of a check that fails
abbrev pub refusal : ℕ → Outcome
refusal n = record { answer = n; length = 0 }

-- what a call comes to in the code, as it is handed out
abbrev pub outcome_of : Result ℕ Answer → Outcome
outcome_of (Ok n) = record { answer = 0; length = n }
outcome_of (Err a) = refusal (number_of a)

-- a refusal is no allow, so that an outcome tells which of the two it was
abbrev pub Refusing : Result ℕ Answer → Type 0
Refusing made = IfErr made (λ answer. 0 < number_of answer)

pub record Carried (h : Decision) (entry : List ℕ) (r : Outcome) (exit : List ℕ) : Type 0 where
  pub answer : r.answer ≡ answer_for h (length entry)
  pub count : r.length ≡ length_for h (length entry)
  pub content : exit ≡ content_for h entry
