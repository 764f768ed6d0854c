-- Each public function has one result, and one final content of the room, for its arguments.
use mathlib.Core.Path.{◌≡◌, ap, ◌∙◌}
use mathlib.Core.List.{List}
use Prim.Native.Nat.{ℕ}
use Rattle.std.specs.Prelude.{Result}
use Rattle.basis.proofs.OneAnswer.{told}
use Rattle.text_reading.specs.Reading.{judged_of, bytes_of, left_of, Filled}
use Rattle.text_reading.specs.declared.Undecoded.{Undecoded}

pub judge_one_answer : (text : List ℕ) {r s : Result ℕ ℕ} → r ≡ judged_of text → s ≡ judged_of text → r ≡ s
judge_one_answer text p q = told p q

pub decode_one_answer : (text entry : List ℕ) {r s : Result ℕ Undecoded} {x y : List ℕ} → Filled text entry r x → Filled text entry s y
    → (r ≡ s) × (x ≡ y)
decode_one_answer text entry p q =
    let e = told p.answer q.answer in
    (e, told (p.content ∙ ap (λ (d : Result ℕ Undecoded). left_of d (bytes_of text) entry) e) q.content)
