-- Verify's number is one of those from 0 to 21, for every table, request and token.
use Rattle.std.specs.Prelude.{Option, Some, None, Result, Ok, Err}
use Rattle.cbor_heads.specs.Defects.{Reading, kind_number}
use Rattle.token_scope.specs.declared.ScopeAt.{ScopeAt}
use mathlib.Core.Path.{◌≡◌, refl}
use mathlib.Core.List.{List}
use Prim.Native.Nat.{ℕ, zero, suc, ◌+◌, ◌<◌}
use native.Mathlib.Omega.{arith}
use lib.Dec.{eqb, ltb}
use lib.ListN.{length, drop}
use Rattle.basis.specs.Basis.{between}
use Rattle.basis.specs.Same.{same_of}
use Rattle.basis.proofs.Picks.{either}
use Rattle.text_reading.specs.Reading.{judged_of, bytes_of, decoded_of}
use Rattle.text_reading.specs.declared.Undecoded.{Undecoded}
use Rattle.text_reading.specs.declared.Undecoded.TheVariants.{Bad as NoText, Short}
use Rattle.token_scope.specs.Reading.{scope_of}
use Rattle.token_caveat.specs.Reading.{caveat_of}
use Rattle.token_caveat_values.specs.declared.CaveatAt.{CaveatAt}
use Rattle.token_caveat_values.specs.declared.CaveatAt.TheVariants.{Exp, Nbf, Aud, Method, PathPrefix, IpCidr, BytesLe, Rate, Tenant, Amnesia, GovPolicyDigest, Custom}
use Rattle.token.specs.Reading.{token_of}
use Rattle.cbor_heads.specs.declared.defect.Kind.{Kind}
use Rattle.cbor_heads.proofs.DefectKinds.{numbered}
use Rattle.records_table.specs.Reading.{table_ok}
use Rattle.records_request.specs.Reading.{request_of}
use Rattle.rules_compare.specs.Comparing.{member_in, prefix_fits, limit_holds}
use Rattle.rules.specs.Judging.{scope_judged, caveat_held, failing_of, caveat_judged}
use Rattle.records_request.specs.declared.RequestAt.{RequestAt}
use Rattle.verify_walk.specs.Walking.{so_far, over_then, after_caveat, over_caveats, walk_bad, walk_add, walked_of, scope_then, scope_answered, tenant_judged, link_first, key_judged}
use Rattle.verify_walk.specs.Walking.{Walked}
use Rattle.verify.specs.Verifying.{key_found, key_of, token_judged, bytes_judged, decoded_judged, text_judged, request_judged, verify_of}
use Rattle.token.specs.declared.TokenAt.{TokenAt}

abbrev Low : ℕ → Type 0
Low n = n < 22

kind_low : (kind : Kind) → Low (kind_number kind)
kind_low kind = omega (arith, (numbered kind).1)

so_far_low : (a b : ℕ) → Low a → Low b → Low (so_far a b)
unfolding so_far
so_far_low a b g h = either Low {x = b} {y = a} (eqb a 0) h g

failing_low : (c : CaveatAt) → Low (failing_of c)
unfolding failing_of
failing_low (Exp n) = omega arith
failing_low (Nbf n) = omega arith
failing_low (Aud part) = omega arith
failing_low (Method methods) = omega arith
failing_low (PathPrefix part) = omega arith
failing_low (IpCidr network) = omega arith
failing_low (BytesLe n) = omega arith
failing_low (Rate per-s burst) = omega arith
failing_low (Tenant part) = omega arith
failing_low (Amnesia on) = omega arith
failing_low (GovPolicyDigest part) = omega arith
failing_low (Custom custom) = omega arith

caveat_low : (s : List ℕ) (c : CaveatAt) (body : List ℕ) (q : RequestAt) (tid : List ℕ) → Low (caveat_judged s c body q tid)
unfolding caveat_judged
caveat_low s c body q tid = either Low {x = 0} {y = failing_of c} (caveat_held s c body q tid) (omega arith) (failing_low c)

walked_low : (k : ℕ) (s key body : List ℕ) (q : RequestAt) (tid : List ℕ) (at : ℕ) (found : Walked) → Low found.answer
    → Low (over_caveats walk_bad (walk_add key body q tid) k s at found).answer
unfolding over_caveats after_caveat
walked_low zero s key body q tid at found h = h
walked_low (suc k) s key body q tid at found h = by (caveat_of (drop at s)) (walked_low k s key body q tid)
  where
    walked : ℕ → Walked → Walked
    walked = over_caveats walk_bad (walk_add key body q tid) k s

    by : (c : Reading (CaveatAt × ℕ)) → ((p : ℕ) (w : Walked) → Low w.answer → Low (walked p w).answer)
        → Low (after_caveat (walk_bad found) (over_then walked (walk_add key body q tid) (drop at s) at found) c).answer
    by (Err d) r = kind_low d.kind
    by (Ok (c, next)) r =
        r (at + next) (walk_add key body q tid found (drop at s) c next)
        (so_far_low found.answer (caveat_judged (drop at s) c body q tid) h (caveat_low (drop at s) c body q tid))

scope_low : (s : List ℕ) (at : ℕ) (body : List ℕ) (q : RequestAt) → Low (scope_answered s at body q)
unfolding scope_then scope_judged
scope_low s at body q = by (scope_of s at)
  where
    by : (p : Reading (ScopeAt × ℕ)) → Low (scope_then s body q p)
    by (Err d) = kind_low d.kind
    by (Ok (scope, next)) =
        either Low (member_in s scope.methods (between body q.method))
        (either Low (prefix_fits s scope.prefix (between body q.path)) (either Low {x = 0} {y = 12} (limit_holds scope.max_bytes q.size) (omega arith) (omega arith)) (omega arith)) (omega arith)

key_low : (key s : List ℕ) (p : TokenAt) (body : List ℕ) (q : RequestAt) → Low (key_judged key s p body q)
unfolding key_judged tenant_judged
key_low key s p body q =
    let tid = between s p.tid in
    let w = walked_of s p.caveats key body q tid (link_first key s p) in
    let scope = scope_answered s p.scope.from body q in
    either Low (same_of w.link (between s p.tag))
    (either Low {x = so_far scope w.answer} {y = 9} (same_of tid (between body q.tenant))
    (so_far_low scope w.answer (scope_low s p.scope.from body q) (walked_low p.caveats.count s key body q tid p.caveats.span.from _ (omega arith)))
    (omega arith)) (omega arith)

bytes_low : (table s body : List ℕ) (q : RequestAt) → Low (bytes_judged table s body q)
unfolding bytes_judged token_judged key_found
bytes_low table s body q = by (token_of s) refl
  where
    by : (p : Reading TokenAt) → token_of s ≡ p → Low (token_judged table s body q p)
    by (Err d) e = kind_low d.kind
    by (Ok p) e =
        let key = key_of table s p in
        either Low {x = key_judged key s p body q} {y = 7} (eqb (length key) 32) (key_low key s p body q) (omega arith)

text_low : (table text body : List ℕ) (q : RequestAt) → Low (text_judged table text body q)
unfolding text_judged decoded_judged
text_low table text body q =
    either Low {x = 5} {y = decoded_judged table text body q (decoded_of (judged_of text) 4096)} (ltb 5462 (length text)) (omega arith) (by (decoded_of (judged_of text) 4096))
  where
    by : (d : Result ℕ Undecoded) → Low (decoded_judged table text body q d)
    by (Err (NoText a)) = omega arith
    by (Err Short) = omega arith
    by (Ok n) = bytes_low table (bytes_of text) body q

pub verify_low : (table request token : List ℕ) → verify_of table request token < 22
unfolding verify_of request_judged
verify_low table request token =
    either Low {x = request_judged table request token (request_of request)} {y = 1} (table_ok table) (by (request_of request)) (omega arith)
  where
    by : (r : Option RequestAt) → Low (request_judged table request token r)
    by None = omega arith
    by (Some q) = text_low table token request q
