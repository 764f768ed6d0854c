-- Each public function has one result, and one final content of the room, for its arguments.
use mathlib.Core.Path.{◌≡◌}
use mathlib.Core.List.{List}
use Prim.Native.Nat.{ℕ}
use Rattle.std.specs.Prelude.{Option}
use Rattle.basis.proofs.OneAnswer.{told}
use Rattle.bundle.specs.Lines.{LinesWritten}

pub judge_bundle_one_answer : (input entry : List ℕ) {r s : Option ℕ} {x y : List ℕ} → LinesWritten input entry r x → LinesWritten input entry s y
    → (r ≡ s) × (x ≡ y)
judge_bundle_one_answer input entry p q = (told p.counted q.counted, told p.content q.content)
