-- Reading. Need not be believed: the laws hold it to Holding (`scope_law`, `caveat_law`). The rules where the parts lie: of strings and
-- lists by their places, of numbers as they were read.
use Rattle.std.specs.Prelude.{Bool, true, false, List, ℕ, ◌+◌, leb}
use Rattle.basis.specs.Basis.{pick, between}
use Rattle.basis.specs.Same.{same_of}
use Rattle.token_scope.specs.declared.ScopeAt.{ScopeAt}
use Rattle.token_caveat_values.specs.declared.CaveatAt.{CaveatAt}
use Rattle.token_caveat_values.specs.declared.CaveatAt.TheVariants.{Exp, Nbf, Aud, Method, PathPrefix, IpCidr, BytesLe, Rate, Tenant, Amnesia, GovPolicyDigest, Custom}
use Rattle.rules_compare.specs.Fitting.{fits_of}
use Rattle.records_request.specs.declared.RequestAt.{RequestAt}
use Rattle.rules_compare.specs.Comparing.{member_in, rate_holds, prefix_fits, limit_holds, part_is, peer_agrees}

-- 0, or the number of the first of method, path and bytes that fails
unfoldable pub scope_judged : List ℕ → ScopeAt → List ℕ → RequestAt → ℕ
scope_judged s scope body q =
    pick (member_in s scope.methods (between body q.method))
    (pick (prefix_fits s scope.prefix (between body q.path))
    (pick (limit_holds scope.max_bytes q.size) 0 12) 11) 10

-- "amnesia, true needs the host's flag, false always holds"
unfoldable pub amnesia_held : Bool → Bool → Bool
amnesia_held on flag = pick on flag true

-- a caveat's parts in the part that it was read from; see Holds of `token_caveat`
unfoldable pub caveat_held : List ℕ → CaveatAt → List ℕ → RequestAt → List ℕ → Bool
caveat_held s (Exp n) body q tid = leb q.now (n + q.skew)
caveat_held s (Nbf n) body q tid = leb n (q.now + q.skew)
caveat_held s (Aud part) body q tid = part_is body q.audience (between s part)
caveat_held s (Method methods) body q tid = member_in s methods (between body q.method)
caveat_held s (PathPrefix part) body q tid = fits_of (between s part) (between body q.path)
caveat_held s (IpCidr network) body q tid = peer_agrees body q.peer network
caveat_held s (BytesLe n) body q tid = leb q.size n
caveat_held s (Rate per-s burst) body q tid = rate_holds q.rate per-s burst
caveat_held s (Tenant part) body q tid = same_of (between s part) tid
caveat_held s (Amnesia on) body q tid = amnesia_held on q.amnesia
caveat_held s (GovPolicyDigest part) body q tid = part_is body q.digest (between s part)
caveat_held s (Custom custom) body q tid = false

unfoldable pub failing_of : CaveatAt → ℕ
failing_of (Exp n) = 13
failing_of (Nbf n) = 14
failing_of (Aud part) = 15
failing_of (Method methods) = 10
failing_of (PathPrefix part) = 11
failing_of (IpCidr network) = 16
failing_of (BytesLe n) = 12
failing_of (Rate per-s burst) = 17
failing_of (Tenant part) = 18
failing_of (Amnesia on) = 19
failing_of (GovPolicyDigest part) = 20
failing_of (Custom custom) = 21

-- 0, or the caveat's own number
unfoldable pub caveat_judged : List ℕ → CaveatAt → List ℕ → RequestAt → List ℕ → ℕ
caveat_judged s caveat body q tid = pick (caveat_held s caveat body q tid) 0 (failing_of caveat)
