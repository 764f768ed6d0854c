-- Each public function has one result for its arguments.
use mathlib.Core.Path.{◌≡◌}
use mathlib.Core.Bool.{Bool}
use mathlib.Core.List.{List}
use Rattle.basis.proofs.OneAnswer.{told, lent}
use Prim.Native.Nat.{ℕ}
use Rattle.basis.specs.Basis.{behind}
use Rattle.records_table.specs.Reading.{table_ok, find_from, place_from, lookup_of, lookup_place}

pub table_ok_one_answer : (table : List ℕ) {r s : Bool} → r ≡ table_ok table → s ≡ table_ok table → r ≡ s
table_ok_one_answer table p q = told p q

-- of the part that is handed back, its bytes and its place
pub lookup_one_answer : (table tid kid : List ℕ) (place : ℕ × ℕ) {r s : List ℕ} {a b : ℕ × ℕ}
    → (r ≡ lookup_of table tid kid) × (a ≡ behind place (lookup_place table tid kid)) → (s ≡ lookup_of table tid kid) × (b ≡ behind place (lookup_place table tid kid))
    → (r ≡ s) × (a ≡ b)
lookup_one_answer table tid kid place p q = lent p q

pub find_one_answer : (table tid kid : List ℕ) (place : ℕ × ℕ) {r s : List ℕ} {a b : ℕ × ℕ}
    → (r ≡ find_from 64 table tid kid 0) × (a ≡ behind place (place_from 64 table tid kid 0)) → (s ≡ find_from 64 table tid kid 0) × (b ≡ behind place (place_from 64 table tid kid 0))
    → (r ≡ s) × (a ≡ b)
find_one_answer table tid kid place p q = lent p q
