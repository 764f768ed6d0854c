-- Reading. A caveat is the one reading of maps (ReadMap of `cbor_keys`) with these keys. Document 01, "Token bytes": "caveat: t, v."
use Rattle.std.specs.Prelude.{List, [], ◌∷◌, true, ℕ, eqb}
use Rattle.basis.specs.Basis.{pick}
use Rattle.basis.specs.Limits.{aud_most, path_most, number_most}
use Rattle.cbor_heads.specs.Defects.{Reading, bad, after}
use Rattle.cbor_heads.specs.declared.defect.Kind.TheVariants.{Cbor, Unknown}
use Rattle.cbor_heads.specs.Counts.{number_up_to}
use Rattle.cbor_strings.specs.Reading.{read_string}
use Rattle.cbor_strings.specs.declared.Class.TheVariants.{Printable, Path}
use Rattle.cbor_keys.specs.Indexes.{t_exp, t_nbf, t_aud, t_method, t_path_prefix, t_ip_cidr, t_bytes_le, t_rate, t_tenant, t_amnesia, t_gov_policy_digest, t_custom}
use Rattle.cbor_keys.specs.Reading.{key_at}
use Rattle.cbor_keys.specs.Fields.{name_at}
use Rattle.cbor_keys.specs.ReadMap.{Field, required, content_end, pair_end, read_map}
use Rattle.cbor_keys.specs.declared.Names.TheVariants.{Caveat as CaveatKeys, T}
use Rattle.token_scope.specs.Fields.{read_methods}
use Rattle.token_caveat_values.specs.Fields.{read_digest, read_cidr, read_flag, read_rate, read_custom}

-- the value of v for each t, in the order of its names; no name has another index
unfoldable pub read_v : List ℕ → ℕ → ℕ → Reading ℕ
read_v s t at =
    pick (eqb t t_exp) (pair_end (number_up_to number_most s at))
    (pick (eqb t t_nbf) (pair_end (number_up_to number_most s at))
    (pick (eqb t t_aud) (content_end (read_string s at Printable 1 aud_most))
    (pick (eqb t t_method) (read_methods s at)
    (pick (eqb t t_path_prefix) (content_end (read_string s at Path 1 path_most))
    (pick (eqb t t_ip_cidr) (read_cidr s at)
    (pick (eqb t t_bytes_le) (pair_end (number_up_to number_most s at))
    (pick (eqb t t_rate) (read_rate s at)
    (pick (eqb t t_tenant) (content_end (name_at s at))
    (pick (eqb t t_amnesia) (read_flag s at)
    (pick (eqb t t_gov_policy_digest) (read_digest s at)
    (pick (eqb t t_custom) (read_custom s at)
    (bad Unknown at))))))))))))

-- v is read as the t before it says; t is required, so there is one
abbrev pub v_at : List ℕ → List ℕ → ℕ → Reading ℕ
v_at s [] at = bad Cbor at
v_at s (t ∷ before) at = after (λ (index, next). read_v s index at) (key_at T s t)

-- t: "any content that is not a known name is schema.unknown_field"
abbrev pub caveat_fields : List ℕ → List Field
caveat_fields s = required (λ at. pair_end (key_at T s at)) ∷ record { required = true; value = v_at s } ∷ []

-- from the caveat's first byte on
abbrev pub read_caveat : List ℕ → Reading ℕ
read_caveat s = read_map CaveatKeys (caveat_fields s) s 0
