-- Inner. What the walk and the chain need, and what a token that was read keeps.
use Rattle.std.specs.Prelude.{◌≡◌, List, ℕ, ◌≤◌, length}
use Rattle.basis.specs.Basis.{between}
use Rattle.basis.specs.Limits.{key_length, token_most, name_most}
use Rattle.token.specs.declared.TokenAt.{TokenAt}

pub record Walkable (key s : List ℕ) : Type 0 where
  pub key_long : length key ≡ key_length
  pub short : length s ≤ token_most

pub record Ready (key s : List ℕ) (p : TokenAt) : Type 0 where
  pub walkable : Walkable key s
  pub tid_short : length (between s p.tid) ≤ name_most
  pub kid_short : length (between s p.kid) ≤ name_most
