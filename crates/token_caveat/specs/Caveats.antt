-- Meaning. What each of the twelve caveats is, which are within limits, and how one is written. Document 01, "Token bytes": "caveat: t, v.
-- Rate value: burst, per_s, each below 2^32. Custom value: ns, cbor, name"; the names of t are the interop paper's (2.3).
use Rattle.std.specs.Prelude.{Bool, true, false, List, ◌++◌, ℕ}
use Prim.Native.String.{String}
use Rattle.basis.specs.Basis.{ascii}
use Rattle.basis.specs.Limits.{aud_most, digest_length, depth_most, Number64, Number32}
use Rattle.cbor_heads.specs.Majors.{unsigned, map, simple, simple_false, simple_true}
use Rattle.cbor_heads.specs.Heads.{head}
use Rattle.cbor_strings.specs.declared.Class.TheVariants.{Printable, Hex}
use Rattle.cbor_values.specs.Trees.{Value, encode, Good}
use Rattle.token_cidr.specs.Prefixes.{Prefix, prefix_text, GoodPrefix}
use Rattle.cbor_keys.specs.Maps.{text, entry, GoodText, GoodName}
use Rattle.token_scope.specs.Scopes.{encode_methods, GoodMethods, GoodPath}

-- `rate per-s burst`; `custom ns name value`
pub data Caveat : Type 0 where
  exp : ℕ → Caveat
  nbf : ℕ → Caveat
  aud : List ℕ → Caveat
  method : List (List ℕ) → Caveat
  path_prefix : List ℕ → Caveat
  ip_cidr : Prefix → Caveat
  bytes_le : ℕ → Caveat
  rate : ℕ → ℕ → Caveat
  tenant : List ℕ → Caveat
  amnesia : Bool → Caveat
  gov_policy_digest : List ℕ → Caveat
  custom : List ℕ → List ℕ → Value → Caveat

unfoldable pub t_of : Caveat → String
t_of (exp n) = "exp"
t_of (nbf n) = "nbf"
t_of (aud a) = "aud"
t_of (method ms) = "method"
t_of (path_prefix p) = "path_prefix"
t_of (ip_cidr p) = "ip_cidr"
t_of (bytes_le n) = "bytes_le"
t_of (rate per-s burst) = "rate"
t_of (tenant t) = "tenant"
t_of (amnesia b) = "amnesia"
t_of (gov_policy_digest d) = "gov_policy_digest"
t_of (custom ns name value) = "custom"

abbrev pub simple_of : Bool → ℕ
simple_of false = simple_false
simple_of true = simple_true

unfoldable pub v_of : Caveat → List ℕ
v_of (exp n) = head unsigned n
v_of (nbf n) = head unsigned n
v_of (aud a) = text a
v_of (method ms) = encode_methods ms
v_of (path_prefix p) = text p
v_of (ip_cidr p) = text (prefix_text p)
v_of (bytes_le n) = head unsigned n
v_of (rate per-s burst) = head map 2 ++ (entry "burst" (head unsigned burst) ++ entry "per_s" (head unsigned per-s))
v_of (tenant t) = text t
v_of (amnesia b) = head simple (simple_of b)
v_of (gov_policy_digest d) = text d
v_of (custom ns name value) = head map 3 ++ (entry "ns" (text ns) ++ (entry "cbor" (encode value) ++ entry "name" (text name)))

unfoldable pub encode_caveat : Caveat → List ℕ
encode_caveat c = head map 2 ++ (entry "t" (text (ascii (t_of c))) ++ entry "v" (v_of c))

unfoldable pub GoodCaveat : Caveat → Type 0
GoodCaveat (exp n) = Number64 n
GoodCaveat (nbf n) = Number64 n
GoodCaveat (aud a) = GoodText Printable 1 aud_most a
GoodCaveat (method ms) = GoodMethods ms
GoodCaveat (path_prefix p) = GoodPath p
GoodCaveat (ip_cidr p) = GoodPrefix p
GoodCaveat (bytes_le n) = Number64 n
GoodCaveat (rate per-s burst) = Number32 per-s × Number32 burst
GoodCaveat (tenant t) = GoodName t
GoodCaveat (amnesia b) = Unit {0}
GoodCaveat (gov_policy_digest d) = GoodText Hex digest_length digest_length d
GoodCaveat (custom ns name value) = GoodName ns × GoodName name × Good value depth_most
