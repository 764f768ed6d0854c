-- Reading. Need not be believed: the laws fix it both ways (`request_written`, `request_read`), since it has one defect. A request body. From
-- the top: the numbers now, body size, skew and flags; what is flagged of peer, digest and rate; the strings method, path and tenant, and the
-- audience, if it is flagged; and nothing behind them.
use Rattle.std.specs.Prelude.{Bool, not, List, ℕ, eqb, ltb, length, Option, Some, None}
use Rattle.std.specs.Int.Bits.{bit_and}
use Rattle.basis.specs.Basis.{pick, between}
use Rattle.basis.specs.declared.Span.{Span}
use Rattle.basis.specs.Limits.{skew_most, digest_length, aud_most, name_most, method_most, request_path_most}
use Rattle.cbor_strings.specs.Strings.{content_of}
use Rattle.cbor_strings.specs.declared.Class.TheVariants.{Hex, Upper, Path, Name, Printable}
use Rattle.records.specs.Reading.{◌and_then◌, run_at, little_at, text_at}
use Rattle.records_request.specs.Requests.{amnesia_flag, peer_flag, audience_flag, digest_flag, rate_flag, flags_most}
use Rattle.records_request.specs.declared.Numbers.{Numbers}
use Rattle.records_request.specs.declared.Rate.{Rate}
use Rattle.records_request.specs.declared.ExtrasAt.{ExtrasAt}
use Rattle.records_request.specs.declared.StringsAt.{StringsAt}
use Rattle.records_request.specs.declared.RequestAt.{RequestAt}

-- the numbers that stand in every body
abbrev pub numbers_of : ℕ → ℕ → ℕ → ℕ → Numbers
numbers_of now size skew flags = record { now = now; size = size; skew = skew; flags = flags }

unfoldable pub fixed_at : List ℕ → Option (Numbers × ℕ)
fixed_at s =
    little_at s 0 8 and_then λ (now, p).
    little_at s p 8 and_then λ (size, q).
    little_at s q 2 and_then λ (skew, r).
    little_at s r 1 and_then λ (flags, next).
    pick (ltb skew_most skew) None (pick (ltb flags_most flags) None (Some (numbers_of now size skew flags, next)))

-- whether the bit of a flag is among the flags
abbrev pub is_set : ℕ → ℕ → Bool
is_set flag flags = not (eqb (bit_and flags flag) 0)

-- a part that stands at a place if its flag is set, and where the next one begins
abbrev pub is_there : {A : Type 0} → A × ℕ → Option (Option A × ℕ)
is_there (part, next) = Some (Some part, next)

abbrev pub if_flagged : {A : Type 0} → ℕ → ℕ → ℕ → Option (A × ℕ) → Option (Option A × ℕ)
if_flagged flag flags at found = pick (is_set flag flags) (found and_then is_there) (Some (None, at))

unfoldable pub peer_at : List ℕ → ℕ → Option (Span × ℕ)
peer_at s at = run_at s at 4 and_then λ peer. Some (peer, peer.to)

unfoldable pub digest_at : List ℕ → ℕ → Option (Span × ℕ)
digest_at s at = run_at s at digest_length and_then λ digest. pick (content_of Hex (between s digest)) (Some (digest, digest.to)) None

abbrev pub rate_with : ℕ → ℕ → Rate
rate_with per-s burst = record { per_s = per-s; burst = burst }

unfoldable pub rate_at : List ℕ → ℕ → Option (Rate × ℕ)
rate_at s at =
    little_at s at 4 and_then λ (per-s, p).
    little_at s p 4 and_then λ (burst, next).
    Some (rate_with per-s burst, next)

unfoldable pub extras_at : List ℕ → ℕ → ℕ → Option (ExtrasAt × ℕ)
extras_at s flags at =
    if_flagged peer_flag flags at (peer_at s at) and_then λ (peer, p).
    if_flagged digest_flag flags p (digest_at s p) and_then λ (digest, q).
    if_flagged rate_flag flags q (rate_at s q) and_then λ (rate, next).
    Some (record { peer = peer; digest = digest; rate = rate }, next)

unfoldable pub audience_at : List ℕ → ℕ → Option (Span × ℕ)
audience_at s at = text_at s 2 Printable 1 aud_most at and_then λ audience. Some (audience, audience.to)

-- the strings, behind which nothing follows
abbrev pub strings_of : Span → Span → Span → Option Span → StringsAt
strings_of method path tenant audience = record { method = method; path = path; tenant = tenant; audience = audience }

unfoldable pub strings_at : List ℕ → ℕ → ℕ → Option StringsAt
strings_at s flags at =
    text_at s 2 Upper 1 method_most at and_then λ method.
    text_at s 2 Path 1 request_path_most method.to and_then λ path.
    text_at s 2 Name 1 name_most path.to and_then λ tenant.
    if_flagged audience_flag flags tenant.to (audience_at s tenant.to) and_then λ (audience, next).
    pick (ltb next (length s)) None (Some (strings_of method path tenant audience))

-- the whole
abbrev pub request_with : Numbers → ExtrasAt → StringsAt → RequestAt
request_with numbers extras strings =
    record {
      now = numbers.now;
      size = numbers.size;
      skew = numbers.skew;
      amnesia = is_set amnesia_flag numbers.flags;
      peer = extras.peer;
      digest = extras.digest;
      rate = extras.rate;
      method = strings.method;
      path = strings.path;
      tenant = strings.tenant;
      audience = strings.audience;
    }

unfoldable pub request_of : List ℕ → Option RequestAt
request_of s =
    fixed_at s and_then λ (numbers, p).
    extras_at s numbers.flags p and_then λ (extras, q).
    strings_at s numbers.flags q and_then λ strings.
    Some (request_with numbers extras strings)
