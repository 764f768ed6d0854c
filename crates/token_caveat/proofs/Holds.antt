-- What the answer's parts hold: the numbers of the caveat, and its strings, lists and value where they lie in the part.
use mathlib.Core.Path.{◌≡◌}
use mathlib.Core.Bool.{Bool}
use mathlib.Core.List.{List, ◌++◌}
use Prim.Native.Nat.{ℕ}
use lib.ListN.{length, drop}
use Rattle.basis.specs.Basis.{between}
use Rattle.basis.specs.declared.Span.{Span}
use Rattle.cbor_values.specs.declared.ListAt.{ListAt}
use Rattle.token_cidr.specs.declared.Network.{Network}
use Rattle.token_cidr.specs.Prefixes.{Prefix}
use Rattle.token_cidr.specs.Reading.{net_of}
use Rattle.cbor_keys.specs.Maps.{texts}
use Rattle.cbor_values.specs.Trees.{Value, encode}
use Rattle.token_caveat.specs.Caveats.{Caveat, exp, nbf, aud, method, path_prefix, ip_cidr, bytes_le, rate, tenant, amnesia, gov_policy_digest, custom}
use Rattle.token_caveat_values.specs.declared.CustomAt.{CustomAt}
use Rattle.token_caveat_values.specs.declared.CaveatAt.{CaveatAt}
use Rattle.token_caveat_values.specs.declared.CaveatAt.TheVariants.{Exp, Nbf, Aud, Method, PathPrefix, IpCidr, BytesLe, Rate, Tenant, Amnesia, GovPolicyDigest, Custom}

pub data Holds (s : List ℕ) : Caveat → CaveatAt → Type 0 where
  exp_is : (n : ℕ) → Holds s (exp n) (Exp n)
  nbf_is : (n : ℕ) → Holds s (nbf n) (Nbf n)
  aud_is : (a : List ℕ) (part : Span) → between s part ≡ a → Holds s (aud a) (Aud part)
  method_is : (ms : List (List ℕ)) (list : ListAt) → length ms ≡ list.count → drop list.span.from s ≡ texts ms ++ drop list.span.to s
      → Holds s (method ms) (Method list)
  path_is : (p : List ℕ) (part : Span) → between s part ≡ p → Holds s (path_prefix p) (PathPrefix part)
  cidr_is : (p : Prefix) (network : Network) → net_of p ≡ network → Holds s (ip_cidr p) (IpCidr network)
  bytes_is : (n : ℕ) → Holds s (bytes_le n) (BytesLe n)
  rate_is : (per-s burst : ℕ) → Holds s (rate per-s burst) (Rate per-s burst)
  tenant_is : (t : List ℕ) (part : Span) → between s part ≡ t → Holds s (tenant t) (Tenant part)
  amnesia_is : (b : Bool) → Holds s (amnesia b) (Amnesia b)
  digest_is : (d : List ℕ) (part : Span) → between s part ≡ d → Holds s (gov_policy_digest d) (GovPolicyDigest part)
  custom_is : (ns name : List ℕ) (value : Value) (parts : CustomAt) → between s parts.ns ≡ ns → between s parts.value ≡ encode value
      → between s parts.name ≡ name → Holds s (custom ns name value) (Custom parts)
