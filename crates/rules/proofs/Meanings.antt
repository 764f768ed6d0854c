-- What the rules' words say: "in the list", "first n bits agree", and sums that cannot wrap. "Fits" is FittingLaws of `rules_compare`.
use mathlib.Core.Path.{◌≡◌, refl, sym, ap, ◌∙◌}
use mathlib.Core.Bool.{true, false}
use mathlib.Core.List.{List, []}
use mathlib.Core.Option.{some, none}
use Prim.Native.Nat.{ℕ, zero, suc, ◌+◌, ◌^◌, ◌<◌}
use native.Mathlib.Omega.{arith}
use borrow.Author.Tests.{le-leb}
use Rattle.basis.specs.Basis.{IsBytes}
use Rattle.token_cidr.specs.Prefixes.{Prefix, GoodPrefix}
use Rattle.token_cidr.specs.Bits.{Agree, agree_of}
use Rattle.token_cidr.proofs.BitLaws.{agree_bits, bits_agree}
use Rattle.token_caveat.specs.Caveats.{exp, method, ip_cidr}
use Rattle.records_request.specs.Requests.{Request}
use Rattle.rules.specs.Holding.{member_of, only_there, address_bytes, caveat_holds}

-- 01, "Errors we have met": "An empty method list taken as "any"."
pub empty_holds_nothing : (r : Request) (tid : List ℕ) → caveat_holds r tid (method []) ≡ false
unfolding caveat_holds member_of
empty_holds_nothing r tid = refl

-- 01, "Errors we have met": "Skew added with wrap, so a far expiry has passed."
pub far_expiry_holds : (r : Request) (tid : List ℕ) → r.now < 2 ^ 64 → caveat_holds r tid (exp 0xffffffffffffffff) ≡ true
unfolding caveat_holds
far_expiry_holds r tid h = le-leb r.now (0xffffffffffffffff + r.skew) (omega arith)

-- 01: "ip_cidr, a present peer's first n bits agree"
address_bytes_lem : (prefix : Prefix) → GoodPrefix prefix → IsBytes (address_bytes prefix)
address_bytes_lem prefix g zero = g.a_byte
address_bytes_lem prefix g (suc zero) = g.b_byte
address_bytes_lem prefix g (suc (suc zero)) = g.c_byte
address_bytes_lem prefix g (suc (suc (suc zero))) = g.d_byte
address_bytes_lem prefix g (suc (suc (suc (suc i)))) = omega arith

pub first_bits : (asked : Request) (tid : List ℕ) (prefix : Prefix) → GoodPrefix prefix → (peer : List ℕ) → IsBytes peer → asked.peer ≡ some peer
    → (caveat_holds asked tid (ip_cidr prefix) ≡ true → Agree (address_bytes prefix) peer prefix.size)
    × (Agree (address_bytes prefix) peer prefix.size → caveat_holds asked tid (ip_cidr prefix) ≡ true)
unfolding caveat_holds
first_bits asked tid prefix g peer b e =
    let held = ap (only_there (λ x. agree_of (address_bytes prefix) x prefix.size)) e in (
      λ h. agree_bits (address_bytes prefix) peer prefix.size (sym held ∙ h),
      λ a. held ∙ bits_agree (address_bytes prefix) peer prefix.size (address_bytes_lem prefix g) b a,
    )

pub no_peer : (asked : Request) (tid : List ℕ) (prefix : Prefix) → asked.peer ≡ none → caveat_holds asked tid (ip_cidr prefix) ≡ false
unfolding caveat_holds
no_peer asked tid prefix e = ap (only_there (λ x. agree_of (address_bytes prefix) x prefix.size)) e
