-- Reading. Need not be believed: it ends where `read_caveat` does (`caveat_map_lem`), and the laws fix its parts. A caveat as it lies. From the
-- top: the map's head, of two entries; the key t and its name, which is judged before the key v is seen; the key v, and the value as t says.
use Rattle.std.specs.Prelude.{List, ℕ}
use Rattle.cbor_heads.specs.Defects.{◌>>=◌, Reading}
use Rattle.cbor_heads.specs.Counts.{map_with}
use Rattle.cbor_keys.specs.Reading.{key_at, wanted_key}
use Rattle.cbor_keys.specs.Indexes.{caveat_t, caveat_v}
use Rattle.cbor_keys.specs.declared.Names.TheVariants.{Caveat as CaveatKeys, T}
use Rattle.token_caveat_values.specs.declared.CaveatAt.{CaveatAt}
use Rattle.token_caveat.specs.Values.{value_at}

-- from the caveat's first byte on
unfoldable pub caveat_of : List ℕ → Reading (CaveatAt × ℕ)
caveat_of s = do
  (_, at) ← map_with 2 2 s 0
  at ← wanted_key CaveatKeys s at caveat_t
  (t, at) ← key_at T s at
  at ← wanted_key CaveatKeys s at caveat_v
  value_at s t at
