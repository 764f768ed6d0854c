-- Encode has one result, and one final content of the room, for its arguments.
use mathlib.Core.Path.{◌≡◌}
use mathlib.Core.List.{List}
use Prim.Native.Nat.{ℕ}
use Rattle.std.specs.Prelude.{Option}
use Rattle.basis.specs.Basis.{Written}
use Rattle.basis.proofs.OneAnswer.{put_one_answer}
use Rattle.text_writing.specs.Base64url.{base64url}

pub encode_one_answer : (bytes entry : List ℕ) {r s : Option ℕ} {x y : List ℕ} → Written (base64url bytes) entry r x
    → Written (base64url bytes) entry s y → (r ≡ s) × (x ≡ y)
encode_one_answer bytes entry p q = put_one_answer (base64url bytes) entry p q
