-- Inner. A part that stands at a place if its flag is set, where `Read` tells what its reader may answer: where that is one answer alone, the
-- part is made of it.
use Rattle.std.specs.Prelude.{◌≡◌, ℕ, Option}
use Rattle.records_request.specs.Reading.{if_flagged}

abbrev pub IfFlagged : {A : Type 0} → (Option (A × ℕ) → Type 0) → ℕ → ℕ → ℕ → Option (Option A × ℕ) → Type 0
IfFlagged Read flag flags at result = (found : _) → ((answer : _) → Read answer → answer ≡ found) → result ≡ if_flagged flag flags at found
