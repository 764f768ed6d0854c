-- Inner. What the writing of a fresh token needs.
use Rattle.std.specs.Prelude.{◌≡◌, List, ℕ, ◌≤◌, length}
use Rattle.basis.specs.Limits.{name_most, key_length}

-- the longest scope: a prefix of 256 bytes, 16 methods of 16 letters, and a number of eight bytes
abbrev pub scope_most : ℕ
scope_most = 567

pub record Issuable (key tid kid scope : List ℕ) : Type 0 where
  pub tid_short : length key ≡ key_length → length tid ≤ name_most
  pub kid_short : length key ≡ key_length → length kid ≤ name_most
  pub scope_short : length scope ≤ scope_most
