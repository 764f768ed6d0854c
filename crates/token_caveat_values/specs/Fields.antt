-- Reading. The values of v that are no plain number, text or list of methods: a digest, an address prefix, a flag; and a rate and a custom
-- value, each of which is the one reading of maps (ReadMap of `cbor_keys`) with its keys. Document 01, "Token bytes" and "Reading order".
use Rattle.std.specs.Prelude.{Ok, Err, List, [], ◌∷◌, ℕ, ok_or}
use Rattle.basis.specs.Basis.{between}
use Rattle.basis.specs.Limits.{rate_most, depth_most, digest_length, number_most}
use Rattle.basis.specs.declared.Span.{Span}
use Rattle.cbor_heads.specs.Defects.{Reading, defect, bad, after}
use Rattle.cbor_heads.specs.declared.defect.Kind.TheVariants.{Cbor}
use Rattle.cbor_heads.specs.Majors.{text_string, simple, simple_false, simple_true}
use Rattle.cbor_heads.specs.Counts.{read_count, number_up_to}
use Rattle.cbor_strings.specs.Reading.{read_run, read_string}
use Rattle.cbor_strings.specs.declared.Class.TheVariants.{Hex}
use Rattle.cbor_values.specs.Reading.{value_of}
use Rattle.cbor_keys.specs.Fields.{name_at}
use Rattle.cbor_keys.specs.ReadMap.{Field, required, content_end, pair_end, read_map}
use Rattle.cbor_keys.specs.declared.Names.TheVariants.{Rate as RateKeys, Custom as CustomKeys}
use Rattle.token_cidr.specs.Reading.{cidr_of}
use Rattle.token_cidr.specs.declared.Network.{Network}

-- "s and digest have none [no length range] either: a wrong length is parse.cbor": so any defect of a digest is
abbrev pub digest_by : Reading Span → Reading Span
digest_by (Err d) = bad Cbor d.at
digest_by (Ok part) = Ok part

abbrev pub digest_at : List ℕ → ℕ → Reading Span
digest_at s at = digest_by (read_string s at Hex digest_length digest_length)

abbrev pub read_digest : List ℕ → ℕ → Reading ℕ
read_digest s at = content_end (digest_at s at)

-- "ip_cidr has none and is judged whole as content, whatever its length": bad content carries its first byte
abbrev pub network_in : List ℕ → Span → Reading Network
network_in s part = ok_or (cidr_of (between s part)) (defect Cbor part.from)

abbrev pub read_cidr : List ℕ → ℕ → Reading ℕ
read_cidr s at = after (λ part. after (λ network. Ok part.to) (network_in s part)) (read_run s at text_string 0 number_most)

-- amnesia is false or true
abbrev pub read_flag : List ℕ → ℕ → Reading ℕ
read_flag s at = pair_end (read_count s at simple simple_false simple_true Cbor)

-- "Rate value: burst, per_s, each below 2^32"; "rate number over range: parse.bounds"
abbrev pub rate_fields : List ℕ → List Field
rate_fields s = required (λ at. pair_end (number_up_to rate_most s at)) ∷ required (λ at. pair_end (number_up_to rate_most s at)) ∷ []

abbrev pub read_rate : List ℕ → ℕ → Reading ℕ
read_rate s = read_map RateKeys (rate_fields s) s

-- "Custom value: ns, cbor, name", the value "four deep at most"
abbrev pub custom_fields : List ℕ → List Field
custom_fields s = required (λ at. content_end (name_at s at)) ∷ required (value_of depth_most s) ∷ required (λ at. content_end (name_at s at)) ∷ []

abbrev pub read_custom : List ℕ → ℕ → Reading ℕ
read_custom s = read_map CustomKeys (custom_fields s) s
