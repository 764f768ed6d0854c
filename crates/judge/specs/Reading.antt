-- Meaning. What reading comes to in a room of n bytes. No contract can say which bytes a read brings, so this says how many.
use Rattle.std.specs.Prelude.{ℕ, ◌≤◌, Result, IfOk}

-- so many bytes before the end, or before the room was full; or a failed read
abbrev pub Came : {E : Type 0} → Result ℕ E → ℕ → Type 0
Came r n = IfOk r (λ k. k ≤ n)
