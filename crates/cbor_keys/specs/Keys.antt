-- Meaning. The keys of each map and the names of t, in their order.
use Rattle.std.specs.Prelude.{List, [], ◌∷◌}
use Prim.Native.String.{String}
use Rattle.cbor_keys.specs.declared.Names.{Names}
use Rattle.cbor_keys.specs.declared.Names.TheVariants.{Token, Scope, Caveat, T, Rate, Custom}

-- 01: "Keys stand in bytewise order of their encodings: token, all six: c, r, s, v, kid, tid. .. scope r: prefix (may be absent), methods,
-- max_bytes (may be absent). caveat: t, v. Rate value: burst, per_s .. Custom value: ns, cbor, name." The names of t stand in the interop
-- paper's order (2.3)
unfoldable pub keys_of : Names → List String
keys_of Token = "c" ∷ "r" ∷ "s" ∷ "v" ∷ "kid" ∷ "tid" ∷ []
keys_of Scope = "prefix" ∷ "methods" ∷ "max_bytes" ∷ []
keys_of Caveat = "t" ∷ "v" ∷ []
keys_of T =
    "exp" ∷ "nbf" ∷ "aud" ∷ "method" ∷ "path_prefix" ∷ "ip_cidr"
    ∷ "bytes_le" ∷ "rate" ∷ "tenant" ∷ "amnesia" ∷ "gov_policy_digest" ∷ "custom" ∷ []
keys_of Rate = "burst" ∷ "per_s" ∷ []
keys_of Custom = "ns" ∷ "cbor" ∷ "name" ∷ []
