-- Reading. Need not be believed: it is `read_caveat_at` of `token` (`token_map`). Where a caveat ends that begins at a place of the token.
use Rattle.std.specs.Prelude.{List, ℕ, ◌+◌, drop, Ok, Err}
use Rattle.cbor_heads.specs.Defects.{Reading, bad}
use Rattle.token_caveat.specs.Reading.{caveat_of}
use Rattle.token_caveat_values.specs.declared.CaveatAt.{CaveatAt}

-- read from its first byte on; its places are counted in the token
abbrev pub end_by : ℕ → Reading (CaveatAt × ℕ) → Reading ℕ
end_by at (Err d) = bad d.kind (at + d.at)
end_by at (Ok (caveat, next)) = Ok (at + next)

abbrev pub caveat_end : List ℕ → ℕ → Reading ℕ
caveat_end s at = end_by at (caveat_of (drop at s))
