-- Each index names its key, or its name of t: shown once, as one table, by computation.
use mathlib.Core.Path.{◌≡◌, refl}
use mathlib.Core.List.{List, [], ◌∷◌}
use Prim.Native.Nat.{ℕ}
use Rattle.std.specs.Prelude.{Option, Some}
use Prim.Native.String.{String}
use Rattle.basis.specs.Basis.{ascii}
use Rattle.cbor_keys.specs.declared.Names.{Names}
use Rattle.cbor_keys.specs.declared.Names.TheVariants.{Token, Scope, Caveat, T, Rate, Custom}
use Rattle.cbor_keys.specs.Keys.{keys_of}
use Rattle.cbor_keys.specs.Reading.{index_from, index_of_key}
use Rattle.cbor_keys.specs.Indexes.{token_c, token_r, token_s, token_v, token_kid, token_tid, scope_prefix, scope_methods, scope_max_bytes}
use Rattle.cbor_keys.specs.Indexes.{caveat_t, caveat_v, rate_burst, rate_per_s, custom_ns, custom_cbor, custom_name}
use Rattle.cbor_keys.specs.Indexes.{t_exp, t_nbf, t_aud, t_method, t_path_prefix, t_ip_cidr, t_bytes_le, t_rate, t_tenant, t_amnesia, t_gov_policy_digest, t_custom}

abbrev names : Names → List String → List (Option ℕ)
names place [] = []
names place (n ∷ ns) = index_of_key place (ascii n) ∷ names place ns

abbrev some_all : List ℕ → List (Option ℕ)
some_all [] = []
some_all (i ∷ s) = Some i ∷ some_all s

pub indexes :
    (names Token ("c" ∷ "r" ∷ "s" ∷ "v" ∷ "kid" ∷ "tid" ∷ []) ≡ some_all (token_c ∷ token_r ∷ token_s ∷ token_v ∷ token_kid ∷ token_tid ∷ []))
    × (names Scope ("prefix" ∷ "methods" ∷ "max_bytes" ∷ []) ≡ some_all (scope_prefix ∷ scope_methods ∷ scope_max_bytes ∷ []))
    × (names Caveat ("t" ∷ "v" ∷ []) ≡ some_all (caveat_t ∷ caveat_v ∷ []))
    × (names Rate ("per_s" ∷ "burst" ∷ []) ≡ some_all (rate_per_s ∷ rate_burst ∷ []))
    × (names Custom ("ns" ∷ "name" ∷ "cbor" ∷ []) ≡ some_all (custom_ns ∷ custom_name ∷ custom_cbor ∷ []))
    × (names T ("exp" ∷ "nbf" ∷ "aud" ∷ "method" ∷ "path_prefix" ∷ "ip_cidr" ∷ []) ≡ some_all (t_exp ∷ t_nbf ∷ t_aud ∷ t_method ∷ t_path_prefix ∷ t_ip_cidr ∷ []))
    × (names T ("bytes_le" ∷ "rate" ∷ "tenant" ∷ "amnesia" ∷ "gov_policy_digest" ∷ "custom" ∷ []) ≡ some_all (t_bytes_le ∷ t_rate ∷ t_tenant ∷ t_amnesia ∷ t_gov_policy_digest ∷ t_custom ∷ []))
unfolding keys_of index_from
indexes = (refl, refl, refl, refl, refl, refl, refl)
