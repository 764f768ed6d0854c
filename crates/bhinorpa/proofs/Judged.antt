-- Of a canonical token, verify's checks where the parts lie are the checks on its tree.
use mathlib.Core.Path.{◌≡◌, refl, sym}
use mathlib.Core.Bool.{Bool, true, false}
use mathlib.Core.List.{List, [], ◌∷◌, ◌++◌}
use Prim.Native.Nat.{ℕ}
use borrow.Author.Tests.{eqb-true}
use lib.Dec.{eqb}
use lib.ListN.{length, drop}
use Rattle.basis.specs.Basis.{pick}
use Rattle.basis.specs.Same.{same_of}
use Rattle.answers.specs.Answers.{number_of}
use Rattle.hash_chain.specs.Chain.{first_link, chain_of, tag_of}
use Rattle.token_scope.specs.Scopes.{Scope, encode_scope, GoodScope}
use Rattle.token_scope.proofs.ScopeWritten.{scope_written}
use Rattle.token_caveat.specs.Caveats.{Caveat, encode_caveat}
use Rattle.token_caveat.specs.Caveats.{exp, nbf, aud, method, path_prefix, ip_cidr, bytes_le, rate, tenant, amnesia, gov_policy_digest, custom}
use Rattle.token_caveat.proofs.CaveatLaws.{part_of}
use Rattle.token.specs.Tokens.{Token, encode_caveats, encode_token, AllCaveats, GoodToken}
use Rattle.token.specs.declared.TokenAt.{TokenAt}
use Rattle.token.proofs.TokenWritten.{token_written}
use Rattle.token.proofs.Holds.{Holds}
use Rattle.records_table.specs.Tables.{Row, encode_table, GoodTable}
use Rattle.records_table.proofs.TableLaws.{find_finds, key_of_row}
use Rattle.records_request.specs.Requests.{Request}
use Rattle.records_request.specs.declared.RequestAt.{RequestAt}
use Rattle.records_request.proofs.Holds.{Holds as RequestHeld}
use Rattle.rules.specs.Holding.{failing, caveat_holds, scope_answer, caveat_answer}
use Rattle.rules.proofs.RuleLaws.{scope_law, caveat_law}
use Rattle.verify_walk.specs.Walking.{scope_then, so_far, walk_ends, over_caveats, walk_bad, walk_add, walked_of, scope_answered, tenant_judged, tag_judged, key_judged}
use Rattle.verify_walk.specs.Walking.{Walked}
use Rattle.verify.specs.Verifying.{key_found, token_judged, bytes_judged}
use Rattle.bhinorpa.specs.Allowed.{caveat_bytes, chain_tag, key_for, method_holds, path_holds, bytes_hold, failing_first, caveat_checks, scope_checks, checks_of}
use Rattle.bhinorpa.proofs.Walks.{Lies, over_law}

-- answers one behind the other
so_far_none : (a : ℕ) → so_far a 0 ≡ a
unfolding so_far
so_far_none a = by (eqb a 0) refl
  where
    by : (b : Bool) → eqb a 0 ≡ b → pick b 0 a ≡ a
    by true e = sym (eqb-true a 0 e)
    by false e = refl

so_far_joined : (a b c : ℕ) → so_far (so_far a b) c ≡ so_far a (so_far b c)
unfolding so_far
so_far_joined a b c = by (eqb a 0) refl
  where
    by : (u : Bool) → eqb a 0 ≡ u → pick (eqb (pick u b a) 0) c (pick u b a) ≡ pick u (pick (eqb b 0) c b) a
    by true e = refl
    by false e = rw e

-- no caveat's number is that of allow
pub failing_some : (c : Caveat) → eqb (number_of (failing c)) 0 ≡ false
unfolding failing
failing_some (exp n) = refl
failing_some (nbf n) = refl
failing_some (aud a) = refl
failing_some (method ms) = refl
failing_some (path_prefix p) = refl
failing_some (ip_cidr p) = refl
failing_some (bytes_le n) = refl
failing_some (rate per-s burst) = refl
failing_some (tenant t) = refl
failing_some (amnesia b) = refl
failing_some (gov_policy_digest d) = refl
failing_some (custom ns name value) = refl

caveat_first : (r : Request) (tid : List ℕ) (c : Caveat) (rest : ℕ) → so_far (caveat_answer r tid c) rest ≡ pick (caveat_holds r tid c) rest (number_of (failing c))
unfolding so_far caveat_answer
caveat_first r tid c rest = by (caveat_holds r tid c)
  where
    by : (b : Bool) → pick (eqb (pick b 0 (number_of (failing c))) 0) rest (pick b 0 (number_of (failing c))) ≡ pick b rest (number_of (failing c))
    by true = refl
    by false = rw (failing_some c)

scope_first : (r : Request) (x : Scope) (rest : ℕ)
    → so_far (scope_answer r x) rest ≡ pick (method_holds r x) (pick (path_holds r x) (pick (bytes_hold r x) rest 12) 11) 10
unfolding so_far scope_answer
scope_first r x rest = by (method_holds r x) (path_holds r x) (bytes_hold r x)
  where
    by : (a b c : Bool) → pick (eqb (pick a (pick b (pick c 0 12) 11) 10) 0) rest (pick a (pick b (pick c 0 12) 11) 10)
        ≡ pick a (pick b (pick c rest 12) 11) 10
    by true true true = refl
    by true true false = refl
    by true false c = refl
    by false b c = refl

module _ (body tid key : List ℕ) (r : Request) (q : RequestAt) (h : RequestHeld body r q) where
  -- chain and answer of the tree's caveats, behind those before them
  abbrev tree_ends : List Caveat → Walked → Walked
  tree_ends cs w = walk_ends (chain_of key w.link (caveat_bytes cs)) (so_far w.answer (failing_first (caveat_checks r tid cs)))

  ends_none : (w : Walked) → tree_ends [] w ≡ w
  unfolding chain_of caveat_bytes failing_first caveat_checks
  ends_none w = rw (so_far_none w.answer)

  ends_one : (c : Caveat) (cs : List Caveat) (part : List ℕ) → Lies part c → (w : Walked)
      → tree_ends cs (walk_add key body q tid w part (part_of c) (length (encode_caveat c))) ≡ tree_ends (c ∷ cs) w
  unfolding chain_of caveat_bytes failing_first caveat_checks
  ends_one c cs part l w =
      let rest = failing_first (caveat_checks r tid cs) in
      rw (
        l.alone,
        caveat_law part body tid r q h c (part_of c) l.good l.found.holds,
        so_far_joined w.answer (caveat_answer r tid c) rest,
        caveat_first r tid c rest,
      )

  walked_law : (cs : List Caveat) → AllCaveats cs → (s rest : List ℕ) (at : ℕ) → drop at s ≡ encode_caveats cs ++ rest → (w : Walked)
      → over_caveats walk_bad (walk_add key body q tid) (length cs) s at w ≡ tree_ends cs w
  walked_law = over_law walk_bad (walk_add key body q tid) tree_ends ends_none ends_one

  scope_at_law : (s : List ℕ) (x : Scope) → GoodScope x → (at end : ℕ) → drop at s ≡ encode_scope x ++ drop end s → scope_answered s at body q ≡ scope_answer r x
  unfolding scope_then
  scope_at_law s x g at end e = let w = scope_written x g s (drop end s) at e in rw w.answer (scope_law s x g w.holds body r q h)

-- the checks behind the key
module _ (body key : List ℕ) (r : Request) (q : RequestAt) (h : RequestHeld body r q) (s : List ℕ) (t : Token) (g : GoodToken t) where
  -- the last link and the caveats' answer
  abbrev ends : Walked
  ends = walk_ends (chain_tag key t) (failing_first (caveat_checks r t.tid t.caveats))

  tag_first : tag_judged t.tag t.tid r.tenant (scope_answer r t.scope) ends
      ≡ pick (same_of (chain_tag key t) t.tag)
      (pick (same_of t.tid r.tenant) (failing_first (scope_checks r t.scope (caveat_checks r t.tid t.caveats))) 9) 8
  unfolding tenant_judged failing_first scope_checks
  tag_first = rw (scope_first r t.scope (failing_first (caveat_checks r t.tid t.caveats)))

  module _ {p : TokenAt} (w : Holds s t p) where
    walk_ends_lem : walked_of s p.caveats key body q t.tid (first_link key t.tid t.kid (encode_scope t.scope)) ≡ ends
    unfolding so_far tag_of
    walk_ends_lem =
        rw (← w.front.counted_so)
        (walked_law body t.tid key r q h t.caveats g.each s (drop p.caveats.span.to s) p.caveats.span.from w.front.caveats_lie
        (walk_ends (first_link key t.tid t.kid (encode_scope t.scope)) 0))

    key_judged_lem : key_judged key s p body q ≡ tag_judged t.tag t.tid r.tenant (scope_answer r t.scope) ends
    unfolding key_judged
    key_judged_lem =
        rw (
          w.back.tag_held,
          w.back.tid_held,
          w.back.kid_held,
          w.front.scope_held,
          h.tenant_held,
          walk_ends_lem,
          scope_at_law body t.tid key r q h s t.scope g.good_scope p.scope.from p.scope.to w.front.scope_lies,
        )

-- of a token within limits, whole
pub token_law : (rows : List Row) → GoodTable rows → (body : List ℕ) (r : Request) (q : RequestAt) → RequestHeld body r q → (t : Token) → GoodToken t → (s : List ℕ)
    → s ≡ encode_token t → bytes_judged (encode_table rows) s body q ≡ failing_first (checks_of rows r t)
unfolding bytes_judged token_judged key_found checks_of failing_first
token_law rows gr body r q h t g s e =
    let w = token_written t g s e in
    let key = key_for rows t in
    rw (
      w.answer,
      w.holds.back.tid_held,
      w.holds.back.kid_held,
      find_finds rows gr t.tid t.kid,
      key_of_row rows gr t.tid t.kid,
      key_judged_lem body key r q h s t g w.holds,
      tag_first body key r q h s t g,
    )
