-- Reading. The index of each name among those of its place: `keys_of` lists them in this order (`indexes` of proofs/Indexes.antt).
use Rattle.std.specs.Prelude.{ℕ}

-- the keys of a token
abbrev pub token_c : ℕ
token_c = 0

abbrev pub token_r : ℕ
token_r = 1

abbrev pub token_s : ℕ
token_s = 2

abbrev pub token_v : ℕ
token_v = 3

abbrev pub token_kid : ℕ
token_kid = 4

abbrev pub token_tid : ℕ
token_tid = 5

-- the keys of a scope
abbrev pub scope_prefix : ℕ
scope_prefix = 0

abbrev pub scope_methods : ℕ
scope_methods = 1

abbrev pub scope_max_bytes : ℕ
scope_max_bytes = 2

-- the keys of a caveat
abbrev pub caveat_t : ℕ
caveat_t = 0

abbrev pub caveat_v : ℕ
caveat_v = 1

-- the keys of a rate
abbrev pub rate_burst : ℕ
rate_burst = 0

abbrev pub rate_per_s : ℕ
rate_per_s = 1

-- the keys of a custom
abbrev pub custom_ns : ℕ
custom_ns = 0

abbrev pub custom_cbor : ℕ
custom_cbor = 1

abbrev pub custom_name : ℕ
custom_name = 2

-- the names of t
abbrev pub t_exp : ℕ
t_exp = 0

abbrev pub t_nbf : ℕ
t_nbf = 1

abbrev pub t_aud : ℕ
t_aud = 2

abbrev pub t_method : ℕ
t_method = 3

abbrev pub t_path_prefix : ℕ
t_path_prefix = 4

abbrev pub t_ip_cidr : ℕ
t_ip_cidr = 5

abbrev pub t_bytes_le : ℕ
t_bytes_le = 6

abbrev pub t_rate : ℕ
t_rate = 7

abbrev pub t_tenant : ℕ
t_tenant = 8

abbrev pub t_amnesia : ℕ
t_amnesia = 9

abbrev pub t_gov_policy_digest : ℕ
t_gov_policy_digest = 10

abbrev pub t_custom : ℕ
t_custom = 11
