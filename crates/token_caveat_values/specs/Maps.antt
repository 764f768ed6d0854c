-- Reading. Need not be believed: they end where `read_rate` and `read_custom` do (`rate_map_lem`, `custom_map_lem`), and the laws fix their
-- parts. A rate and a custom value as they lie. From the top: the map's head, with just its keys; then each key in its place, and its value.
use Rattle.std.specs.Prelude.{Ok, List, ℕ}
use Rattle.basis.specs.Basis.{from_to}
use Rattle.basis.specs.Limits.{rate_most, depth_most}
use Rattle.basis.specs.declared.Span.{Span}
use Rattle.cbor_heads.specs.Defects.{◌>>=◌, Reading}
use Rattle.cbor_heads.specs.Counts.{map_with}
use Rattle.cbor_values.specs.Reading.{value_of}
use Rattle.cbor_keys.specs.Reading.{wanted_key}
use Rattle.cbor_keys.specs.Fields.{name_field, number_field}
use Rattle.cbor_keys.specs.Indexes.{rate_burst, rate_per_s, custom_ns, custom_cbor, custom_name}
use Rattle.cbor_keys.specs.declared.Names.TheVariants.{Rate as RateKeys, Custom as CustomKeys}
use Rattle.token_caveat_values.specs.declared.CustomAt.{CustomAt}
use Rattle.token_caveat_values.specs.declared.CaveatAt.{CaveatAt}
use Rattle.token_caveat_values.specs.declared.CaveatAt.TheVariants.{Rate, Custom}

-- burst and per_s, "each below 2^32"
unfoldable pub rate_value : List ℕ → ℕ → Reading (CaveatAt × ℕ)
rate_value s at = do
  (_, at) ← map_with 2 2 s at
  (burst, at) ← number_field RateKeys s at rate_burst rate_most
  (per-s, to) ← number_field RateKeys s at rate_per_s rate_most
  Ok (Rate per-s burst, to)

abbrev pub custom_of : Span → Span → Span → CustomAt
custom_of ns value name = record { ns = ns; value = value; name = name }

-- ns, cbor, name; the value "four deep at most"
unfoldable pub custom_value : List ℕ → ℕ → Reading (CaveatAt × ℕ)
custom_value s at = do
  (_, at) ← map_with 3 3 s at
  ns ← name_field CustomKeys s at custom_ns
  from ← wanted_key CustomKeys s ns.to custom_cbor
  to ← value_of depth_most s from
  name ← name_field CustomKeys s to custom_name
  Ok (Custom (custom_of ns (from_to from to) name), name.to)
