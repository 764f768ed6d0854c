-- Meaning. What a request is, which requests are within limits, and how one is written. Document 01, "House records": "Request body: now
-- (8), body size (8), skew (2, at most 300), flags (1: bit 0 amnesia, 1 IPv4 peer, 2 audience, 3 digest, 4 rate; others zero); then, ..".
use Rattle.std.specs.Prelude.{◌≡◌, Bool, List, [], ◌++◌, ℕ, ◌+◌, ◌*◌, ◌≤◌, length}
use Rattle.std.proofs.Math.Option.{Option, some, none}
use Rattle.basis.specs.Basis.{pick}
use Rattle.basis.specs.Limits.{skew_most, digest_length, method_most, aud_most, request_path_most, Number32, Number64}
use Rattle.cbor_strings.specs.declared.Class.TheVariants.{Hex, Upper, Path, Printable}
use Rattle.cbor_keys.specs.Maps.{present, IfPresent, GoodText, GoodName}
use Rattle.records.specs.Records.{little, counted}

pub record PerSecond : Type 0 where
  pub per_s : ℕ
  pub burst : ℕ

pub record Request : Type 0 where
  pub now : ℕ
  pub size : ℕ
  pub skew : ℕ
  pub amnesia : Bool
  pub peer : Option (List ℕ)
  pub digest : Option (List ℕ)
  pub rate : Option PerSecond
  pub method : List ℕ
  pub path : List ℕ
  pub tenant : List ℕ
  pub audience : Option (List ℕ)

-- a part that stands there if it is present
abbrev pub part_if : {A : Type 0} → (A → List ℕ) → Option A → List ℕ
part_if f none = []
part_if f (some a) = f a

-- the bytes as they are, in written order
abbrev pub bare : List ℕ → List ℕ
bare x = x

-- 01: "per_s and burst (4 each)"
unfoldable pub rate_bytes : PerSecond → List ℕ
rate_bytes r = little 4 r.per_s ++ little 4 r.burst

-- 01: "flags (1: bit 0 amnesia, 1 IPv4 peer, 2 audience, 3 digest, 4 rate; others zero)", each as the number it adds
abbrev pub amnesia_flag : ℕ
amnesia_flag = 1

abbrev pub peer_flag : ℕ
peer_flag = 2

abbrev pub audience_flag : ℕ
audience_flag = 4

abbrev pub digest_flag : ℕ
digest_flag = 8

abbrev pub rate_flag : ℕ
rate_flag = 16

-- all of them together
abbrev pub flags_most : ℕ
flags_most = 31

unfoldable pub flags_of : Request → ℕ
flags_of x =
    pick x.amnesia amnesia_flag 0 + present x.peer * peer_flag + present x.audience * audience_flag + present x.digest * digest_flag + present x.rate * rate_flag

-- 01: "then, if flagged, peer (4, the address bytes in written order), digest (64 lowercase hex digits), per_s and burst (4 each); then
-- method .., path .., tenant .. and, if flagged, audience .., each after a two-byte length. Nothing follows. Numbers are little-endian."
unfoldable pub encode_request : Request → List ℕ
encode_request x =
    little 8 x.now
    ++ (little 8 x.size
    ++ (little 2 x.skew
    ++ (little 1 (flags_of x)
    ++ (part_if bare x.peer
    ++ (part_if bare x.digest
    ++ (part_if rate_bytes x.rate
    ++ (counted 2 x.method
    ++ (counted 2 x.path
    ++ (counted 2 x.tenant
    ++ part_if (counted 2) x.audience)))))))))

-- 01: "peer (4, the address bytes in written order)"
abbrev pub FourBytes : List ℕ → Type 0
FourBytes p = length p ≡ 4

pub record GoodRate (r : PerSecond) : Type 0 where
  pub few_per_s : Number32 r.per_s
  pub few_burst : Number32 r.burst

-- 01: "method (1 to 16, A-Z), path (1 to 1,024 bytes 0x21 to 0x7e, first "/"), tenant (as above) and, if flagged, audience (as above)",
-- where above stand "tenant ..: 1 to 64 of letters, digits, "-", ".", "_". aud: 1 to 128 bytes 0x21 to 0x7e."
pub record GoodRequest (x : Request) : Type 0 where
  pub good_now : Number64 x.now
  pub good_size : Number64 x.size
  pub good_skew : x.skew ≤ skew_most
  pub good_peer : IfPresent FourBytes x.peer
  pub good_digest : IfPresent (GoodText Hex digest_length digest_length) x.digest
  pub good_rate : IfPresent GoodRate x.rate
  pub good_method : GoodText Upper 1 method_most x.method
  pub good_path : GoodText Path 1 request_path_most x.path
  pub good_tenant : GoodName x.tenant
  pub good_audience : IfPresent (GoodText Printable 1 aud_most) x.audience
