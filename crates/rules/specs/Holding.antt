-- Meaning. What holds when, on trees. Document 01, "What holds when": "Scope: the request's method is in methods; its path starts with
-- prefix, if there is one; body size is at most max_bytes, if there is one. Caveats, with whole-number sums: ..". For "starts with", of
-- the scope and of path_prefix, document 02's M-100 stands: "a prefix fits a path if ..", which is `fits_of`.
use Rattle.std.specs.Prelude.{Bool, true, false, List, [], ◌∷◌, ℕ, ◌+◌, leb}
use Rattle.std.proofs.Math.Option.{Option, some, none}
use Rattle.basis.specs.Basis.{pick}
use Rattle.basis.specs.Same.{same_of}
use Rattle.answers.specs.Answers.{number_of}
use Rattle.answers.specs.declared.Answer.{Answer}
use Rattle.answers.specs.declared.Answer.TheVariants.{Allow, CaveatMethod, CaveatPath, CaveatBytes, CaveatExp, CaveatNbf, CaveatAud, CaveatIp, CaveatRate, CaveatTenant, CaveatAmnesia, CaveatPolicyDigest, CaveatCustomUnknown}
use Rattle.token_cidr.specs.Prefixes.{Prefix}
use Rattle.token_cidr.specs.Bits.{agree_of}
use Rattle.records_request.specs.Requests.{Request, PerSecond}
use Rattle.token_scope.specs.Scopes.{Scope}
use Rattle.token_caveat.specs.Caveats.{Caveat, exp, nbf, aud, method, path_prefix, ip_cidr, bytes_le, rate, tenant, amnesia, gov_policy_digest, custom}
use Rattle.rules_compare.specs.Fitting.{fits_of}

-- "in the list"; an empty list has nothing in it
unfoldable pub member_of : List ℕ → List (List ℕ) → Bool
member_of m [] = false
member_of m (x ∷ xs) = pick (same_of x m) true (member_of m xs)

-- what holds of a part that may be absent: "if there is one"
abbrev pub if_there : {A : Type 0} → (A → Bool) → Option A → Bool
if_there f none = true
if_there f (some a) = f a

-- what needs a present part: "a present audience", "a present peer", "a present digest", "the host states a rate"
abbrev pub only_there : {A : Type 0} → (A → Bool) → Option A → Bool
only_there f none = false
only_there f (some a) = f a

abbrev pub address_bytes : Prefix → List ℕ
address_bytes p = p.a ∷ p.b ∷ p.c ∷ p.d ∷ []

-- "neither of its numbers exceeds the caveat's"
abbrev pub rate_within : ℕ → ℕ → PerSecond → Bool
rate_within per-s burst r = pick (leb r.per_s per-s) (leb r.burst burst) false

-- the answer where a caveat fails
unfoldable pub failing : Caveat → Answer
failing (exp n) = CaveatExp
failing (nbf n) = CaveatNbf
failing (aud a) = CaveatAud
failing (method ms) = CaveatMethod
failing (path_prefix p) = CaveatPath
failing (ip_cidr p) = CaveatIp
failing (bytes_le n) = CaveatBytes
failing (rate per-s burst) = CaveatRate
failing (tenant t) = CaveatTenant
failing (amnesia b) = CaveatAmnesia
failing (gov_policy_digest d) = CaveatPolicyDigest
failing (custom ns name value) = CaveatCustomUnknown

-- `tid` is the token's
unfoldable pub caveat_holds : Request → List ℕ → Caveat → Bool
caveat_holds r tid (exp n) = leb r.now (n + r.skew)
caveat_holds r tid (nbf n) = leb n (r.now + r.skew)
caveat_holds r tid (aud a) = only_there (same_of a) r.audience
caveat_holds r tid (method ms) = member_of r.method ms
caveat_holds r tid (path_prefix p) = fits_of p r.path
-- "a present peer's first n bits agree": byte by byte; that these are the bits, `Agree` of `token_cidr`, is `first_bits` of proofs/Meanings.antt
caveat_holds r tid (ip_cidr p) = only_there (λ x. agree_of (address_bytes p) x p.size) r.peer
caveat_holds r tid (bytes_le n) = leb r.size n
caveat_holds r tid (rate per-s burst) = only_there (rate_within per-s burst) r.rate
caveat_holds r tid (tenant t) = same_of t tid
caveat_holds r tid (amnesia true) = r.amnesia
caveat_holds r tid (amnesia false) = true
caveat_holds r tid (gov_policy_digest d) = only_there (same_of d) r.digest
-- "A custom caveat never holds in this build."
caveat_holds r tid (custom ns name value) = false

-- 0, or the number of the first of method, path and bytes that fails
unfoldable pub scope_answer : Request → Scope → ℕ
scope_answer r x =
    pick (member_of r.method x.methods)
    (pick (if_there (λ p. fits_of p r.path) x.prefix)
    (pick (if_there (leb r.size) x.max_bytes) (number_of Allow) (number_of CaveatBytes)) (number_of CaveatPath)) (number_of CaveatMethod)

unfoldable pub caveat_answer : Request → List ℕ → Caveat → ℕ
caveat_answer r tid c = pick (caveat_holds r tid c) (number_of Allow) (number_of (failing c))
