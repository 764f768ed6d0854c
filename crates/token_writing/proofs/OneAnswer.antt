-- Each public function has one result and one final content of the room for its arguments.
use Rattle.std.specs.Prelude.{Option}
use mathlib.Core.Path.{◌≡◌}
use mathlib.Core.List.{List, ◌++◌}
use Prim.Native.Nat.{ℕ}
use Rattle.basis.specs.Basis.{Written}
use Rattle.basis.proofs.OneAnswer.{put_one_answer}
use Rattle.token.specs.Tokens.{token_bytes}
use Rattle.token.specs.Writing.{fresh_bytes}

module _ (scope tag kid tid entry : List ℕ) {r s : Option ℕ} {x y : List ℕ} where
  pub write_token_one_answer : (count : ℕ) (caveats caveat : List ℕ) → Written (token_bytes count (caveats ++ caveat) scope tag kid tid) entry r x
      → Written (token_bytes count (caveats ++ caveat) scope tag kid tid) entry s y → (r ≡ s) × (x ≡ y)
  write_token_one_answer count caveats caveat p q = put_one_answer (token_bytes count (caveats ++ caveat) scope tag kid tid) entry p q

  pub write_fresh_one_answer : Written (fresh_bytes scope tag kid tid) entry r x → Written (fresh_bytes scope tag kid tid) entry s y → (r ≡ s) × (x ≡ y)
  write_fresh_one_answer p q = put_one_answer (fresh_bytes scope tag kid tid) entry p q
