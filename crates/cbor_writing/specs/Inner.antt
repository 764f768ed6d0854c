-- Inner. A head in the form in which it is written.
use Rattle.std.specs.Prelude.{◌≡◌, ◌∷◌, ℕ, ◌≤◌}
use Rattle.cbor_heads.specs.Heads.{big, head}

-- a head by its first byte and the count of bytes behind it
pub record Formed (major n first k : ℕ) : Type 0 where
  pub few : k ≤ 8
  pub bytes : head major n ≡ first ∷ big k n
