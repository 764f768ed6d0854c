-- Meaning. Every limit and kind of document 01, each beside the words that fix it ("Token bytes", then "Chain", then "House records").
use Rattle.std.specs.Prelude.{ℕ, ◌<◌, ◌^◌}

-- "tid, kid, tenant, ns, name: 1 to 64"
abbrev pub name_most : ℕ
name_most = 64

-- "aud: 1 to 128 bytes"
abbrev pub aud_most : ℕ
aud_most = 128

-- "Prefix and path_prefix: 1 to 256 such bytes"
abbrev pub path_most : ℕ
path_most = 256

-- "Method lists: 0 to 16 .."
abbrev pub methods_most : ℕ
methods_most = 16

-- ".. of 1 to 16 letters A-Z"
abbrev pub method_most : ℕ
method_most = 16

-- "gov_policy_digest: 64 lowercase hex digits"
abbrev pub digest_length : ℕ
digest_length = 64

-- "ip_cidr: IPv4 a.b.c.d/n, .. n 0 to 32"
abbrev pub cidr_most : ℕ
cidr_most = 32

-- "any unsigned 64-bit number"
abbrev pub number_most : ℕ
number_most = 0xffffffffffffffff

abbrev pub Number64 : ℕ → Type 0
Number64 n = n < 2 ^ 64

-- "burst, per_s, each below 2^32"
abbrev pub rate_most : ℕ
rate_most = 0xffffffff

abbrev pub Number32 : ℕ → Type 0
Number32 n = n < 2 ^ 32

-- "arrays inside arrays, four deep at most"
abbrev pub depth_most : ℕ
depth_most = 4

-- "c is an array of 0 to 64 caveats"
abbrev pub caveats_most : ℕ
caveats_most = 64

-- "v is 1"
abbrev pub token_version : ℕ
token_version = 1

-- "s is 32 bytes"
abbrev pub tag_length : ℕ
tag_length = 32

-- "At most 4,096 decoded bytes, .."
abbrev pub token_most : ℕ
token_most = 4096

-- ".. so 5,462 characters"
abbrev pub text_most : ℕ
text_most = 5462

-- "Messages up to 8,192 bytes are taken. .. a key that is not 32 bytes .."
abbrev pub message_most : ℕ
message_most = 8192

abbrev pub key_length : ℕ
key_length = 32

-- "MAC is BLAKE3 keyed mode, 32 bytes out."
abbrev pub hash_length : ℕ
hash_length = 32

-- "Key table: 0 to 64 records .."
abbrev pub rows_most : ℕ
rows_most = 64

-- ".. of kind 1"
abbrev pub row_kind : ℕ
row_kind = 1

-- "skew (2, at most 300)"
abbrev pub skew_most : ℕ
skew_most = 300

-- "path (1 to 1,024 bytes ..)"
abbrev pub request_path_most : ℕ
request_path_most = 1024

-- "kind 16 a table, .."
abbrev pub table_kind : ℕ
table_kind = 16

-- ".. 32 a request, .."
abbrev pub request_kind : ℕ
request_kind = 32

-- ".. 48 a token"
abbrev pub token_kind : ℕ
token_kind = 48

-- "Bundle on standard input, up to 65,536 bytes"
abbrev pub bundle_most : ℕ
bundle_most = 65536
