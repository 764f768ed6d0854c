-- Meaning. A room that was written: its first n bytes are the lines of the bundle.
use Rattle.std.specs.Prelude.{◌≡◌, List, ℕ, ◌≤◌, length, take}
use Rattle.bundle.specs.Lines.{lines_of}

pub record Lined (input : List ℕ) (n : ℕ) (room : List ℕ) : Type 0 where
  pub inside : n ≤ length room
  pub lines : take n room ≡ lines_of input
