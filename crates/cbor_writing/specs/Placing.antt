-- Meaning. A text placed in a room: what stands before it and behind it stays.
use Rattle.std.specs.Prelude.{◌≡◌, List, ◌++◌, ℕ, ◌+◌, length, take, drop}

abbrev pub placed : List ℕ → ℕ → List ℕ → List ℕ
placed text at room = take at room ++ (text ++ drop (at + length text) room)

pub record Placed (text entry : List ℕ) (at next : ℕ) (exit : List ℕ) : Type 0 where
  pub behind : next ≡ at + length text
  pub content : exit ≡ placed text at entry
