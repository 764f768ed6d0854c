-- A head's form by how large its number is.
use Prim.Native.Nat.{ℕ, ◌+◌, ◌*◌, ◌≤◌, ◌<◌}
use native.Mathlib.Omega.{arith}
use borrow.Author.Tests.{lt-ltb, le-ltb}
use Rattle.cbor_heads.specs.Heads.{big, head}
use Rattle.cbor_writing.specs.Inner.{Formed}

module _ (major n : ℕ) where
  pub form_here : n < 24 → Formed major n (major * 32 + n) 0
  unfolding head big
  form_here h = record { few = omega arith; bytes = rw (lt-ltb n 24 h) }

  pub form_one : 24 ≤ n → n < 256 → Formed major n (major * 32 + 24) 1
  unfolding head
  form_one l h = record { few = omega arith; bytes = rw (le-ltb n 24 l, lt-ltb n 256 h) }

  pub form_two : 256 ≤ n → n < 65536 → Formed major n (major * 32 + 25) 2
  unfolding head
  form_two l h = record { few = omega arith; bytes = rw (le-ltb n 24 (omega arith), le-ltb n 256 l, lt-ltb n 65536 h) }

  pub form_four : 65536 ≤ n → n < 4294967296 → Formed major n (major * 32 + 26) 4
  unfolding head
  form_four l h = record { few = omega arith; bytes = rw (le-ltb n 24 (omega arith), le-ltb n 256 (omega arith), le-ltb n 65536 l, lt-ltb n 4294967296 h) }

  pub form_eight : 4294967296 ≤ n → Formed major n (major * 32 + 27) 8
  unfolding head
  form_eight l = record { few = omega arith; bytes = rw (le-ltb n 24 (omega arith), le-ltb n 256 (omega arith), le-ltb n 65536 (omega arith), le-ltb n 4294967296 l) }

pub ruleset forms = (form_here, form_one, form_two, form_four, form_eight)
