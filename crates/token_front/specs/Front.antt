-- Reading. Need not be believed: it is the front of `read_token` (`token_map`), and the laws fix its parts. A token's front as it lies. From
-- the top: the map's head, of six entries; the key c, the array's head, and each caveat; the key r and the scope.
use Rattle.std.specs.Prelude.{List, ℕ, Ok}
use Rattle.basis.specs.Basis.{from_to}
use Rattle.basis.specs.Limits.{caveats_most}
use Rattle.basis.specs.declared.Span.{Span}
use Rattle.cbor_heads.specs.Defects.{◌>>=◌, Reading}
use Rattle.cbor_heads.specs.Counts.{array_up_to, map_with}
use Rattle.cbor_values.specs.Lists.{list_of}
use Rattle.cbor_values.specs.declared.ListAt.{ListAt}
use Rattle.cbor_values.specs.Reading.{items_of}
use Rattle.cbor_keys.specs.Reading.{wanted_key}
use Rattle.cbor_keys.specs.Indexes.{token_c, token_r}
use Rattle.cbor_keys.specs.declared.Names.TheVariants.{Token as TokenKeys}
use Rattle.token_scope.specs.Reading.{scope_of}
use Rattle.token_front.specs.Ends.{caveat_end}
use Rattle.token_front.specs.declared.FrontAt.{FrontAt}

abbrev pub two_of : ListAt → Span → FrontAt
two_of caveats scope = record { caveats = caveats; scope = scope }

-- c and r
unfoldable pub front_of : List ℕ → Reading FrontAt
front_of s = do
  (_, at) ← map_with 6 6 s 0
  at ← wanted_key TokenKeys s at token_c
  (count, from) ← array_up_to caveats_most s at
  to ← items_of (caveat_end s) count from
  at ← wanted_key TokenKeys s to token_r
  (_, next) ← scope_of s at
  Ok (two_of (list_of count (from_to from to)) (from_to at next))
