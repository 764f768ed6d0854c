-- Inner. What the links ask for: a key, and a message that the hash takes. What is read from a token is within these limits.
use Rattle.std.specs.Prelude.{◌≡◌, List, ℕ, ◌+◌, ◌≤◌, length}
use Rattle.basis.specs.Limits.{name_most, token_most, message_most, key_length}

pub record Macable (key head body : List ℕ) : Type 0 where
  pub keyed : length key ≡ key_length
  pub taken : length head + length body ≤ message_most

pub record FirstOf (key tid kid scope : List ℕ) : Type 0 where
  pub keyed : length key ≡ key_length
  pub tenant : length tid ≤ name_most
  pub named : length kid ≤ name_most
  pub scoped : length scope ≤ token_most

pub record NextOf (key caveat : List ℕ) : Type 0 where
  pub keyed : length key ≡ key_length
  pub narrow : length caveat ≤ token_most
