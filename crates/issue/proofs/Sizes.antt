-- How long a fresh token is at most.
use mathlib.Core.Path.{◌≡◌}
use mathlib.Core.List.{List}
use Prim.Native.Nat.{ℕ, ◌≤◌}
use native.Mathlib.Omega.{arith}
use lib.ListN.{length, length-append}
use Rattle.cbor_heads.proofs.HeadLengths.{head_one, head_two}
use Rattle.token.specs.Tokens.{token_bytes}
use Rattle.token.specs.Writing.{fresh_bytes}

-- from the lengths of its parts alone
pub fresh_few : (scope tag kid tid : List ℕ) → length scope ≤ 567 → length tag ≡ 32 → length kid ≤ 64 → length tid ≤ 64 → length (fresh_bytes scope tag kid tid) ≤ 752
unfolding token_bytes
fresh_few scope tag kid tid g l k i =
    simp length-append
    (omega (
      arith,
      head_one 5 6 (omega arith),
      head_one 3 1 (omega arith),
      head_one 4 0 (omega arith),
      head_two 2 (length tag) (omega arith),
      head_one 0 1 (omega arith),
      head_one 3 3 (omega arith),
      head_two 3 (length kid) (omega arith),
      head_two 3 (length tid) (omega arith),
    ))
