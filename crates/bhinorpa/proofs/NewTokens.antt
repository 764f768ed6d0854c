-- What is handed out are canonical texts: a fresh token's, and a child's of a good parent and a good caveat that fits.
use mathlib.Core.Path.{◌≡◌, refl, ap, subst, ◌∙◌}
use mathlib.Core.Bool.{true}
use mathlib.Core.List.{List, [], ◌∷◌, ◌++◌}
use Prim.Native.Nat.{ℕ, ◌+◌, ◌≤◌, ◌<◌}
use native.Mathlib.Omega.{arith}
use lib.ListN.{length}
use Rattle.basis.specs.Basis.{IsBytes}
use Rattle.text_writing.specs.Base64url.{base64url}
use Rattle.keyed_hash.specs.KeyedHash.{hash_bytes}
use Rattle.hash_chain.specs.Chain.{first_message, next_message, first_link, next_link, chain_of, tag_of}
use Rattle.hash_chain.proofs.ChainLaws.{next_length, tag_length, tag_behind}
use Rattle.token_scope.specs.Scopes.{Scope, encode_scope, GoodScope}
use Rattle.token_caveat.specs.Caveats.{Caveat, encode_caveat, GoodCaveat}
use Rattle.token.specs.Tokens.{Token, encode_caveats, encode_token}
use Rattle.token.proofs.WritingLaws.{fresh_written, fresh_good, fresh_short, child_written, child_good}
use Rattle.records_table.specs.Tables.{Row, GoodTable, has_row, key_in}
use Rattle.issue.proofs.Fresh.{known_named}
use Rattle.bhinorpa.specs.Allowed.{Canonical, caveat_bytes, chain_tag, key_for}
use Rattle.bhinorpa.specs.NewTokens.{fresh_token, child_token}
use Rattle.bhinorpa.proofs.AreBytes.{none_bytes, both_bytes, token_bytes_lem, parts_bytes}

-- links are bytes
first_bytes : (key tid kid scope : List ℕ) → IsBytes (first_link key tid kid scope)
unfolding first_link
first_bytes key tid kid scope = hash_bytes key (first_message tid kid scope)

next_bytes : (key link caveat : List ℕ) → IsBytes (next_link key link caveat)
unfolding next_link
next_bytes key link caveat = hash_bytes key (next_message link caveat)

chain_bytes : (key link : List ℕ) (cs : List (List ℕ)) → IsBytes link → IsBytes (chain_of key link cs)
unfolding chain_of
chain_bytes key link [] b = b
chain_bytes key link (c ∷ cs) b = chain_bytes key (next_link key link c) cs (next_bytes key link c)

pub tag_bytes : (key tid kid scope : List ℕ) (cs : List (List ℕ)) → IsBytes (tag_of key tid kid scope cs)
unfolding tag_of
tag_bytes key tid kid scope cs = chain_bytes key (first_link key tid kid scope) cs (first_bytes key tid kid scope)

-- a fresh token
pub fresh_canonical : (rows : List Row) → GoodTable rows → (x : Scope) → GoodScope x → IsBytes (encode_scope x) → (tid kid : List ℕ) → IsBytes tid → IsBytes kid
    → has_row rows tid kid ≡ true → Canonical (base64url (encode_token (fresh_token rows x tid kid))) (fresh_token rows x tid kid)
fresh_canonical rows gr x gx bx tid kid bt bk h =
    let key = key_in rows tid kid in
    let n = known_named rows gr tid kid h in
    let tag = tag_of key tid kid (encode_scope x) [] in
    let l = tag_length key tid kid (encode_scope x) [] in
    let e = fresh_written x tag kid tid in
    let s = fresh_short x tag kid tid gx l n.good_kid n.good_tid in
    record {
      good = fresh_good x tag kid tid gx l n.good_kid n.good_tid;
      are_bytes = subst IsBytes e (token_bytes_lem 0 [] (encode_scope x) tag kid tid none_bytes bx (tag_bytes key tid kid (encode_scope x) []) bk bt);
      short = subst (λ (b : List ℕ). length b ≤ 4096) e (omega (arith, s));
      written = refl;
    }

-- the bytes of one caveat more, and its link
pub caveats_one_more : (cs : List Caveat) (c : Caveat) → caveat_bytes (cs ++ (c ∷ [])) ≡ caveat_bytes cs ++ (encode_caveat c ∷ [])
unfolding caveat_bytes
caveats_one_more [] c = refl
caveats_one_more (d ∷ cs) c = ap (λ (t : List (List ℕ)). encode_caveat d ∷ t) (caveats_one_more cs c)

pub child_tagged : (rows : List Row) (t : Token) (c : Caveat) → chain_tag (key_for rows t) t ≡ t.tag
    → chain_tag (key_for rows t) (child_token rows t c) ≡ (child_token rows t c).tag
child_tagged rows t c e =
    let key = key_for rows t in
    ap (tag_of key t.tid t.kid (encode_scope t.scope)) (caveats_one_more t.caveats c)
    ∙ tag_behind key t.tid t.kid (encode_scope t.scope) (caveat_bytes t.caveats) (encode_caveat c)
    ∙ ap (λ (link : List ℕ). next_link key link (encode_caveat c)) e

pub child_canonical : (rows : List Row) (text : List ℕ) (t : Token) → Canonical text t → (c : Caveat) → GoodCaveat c → IsBytes (encode_caveat c)
    → length t.caveats < 64 → length (encode_token (child_token rows t c)) ≤ 4096 → Canonical (base64url (encode_token (child_token rows t c))) (child_token rows t c)
child_canonical rows text t w c gc bc few s =
    let key = key_for rows t in
    let x = encode_caveat c in
    let tag = next_link key t.tag x in
    let p = parts_bytes (length t.caveats) (encode_caveats t.caveats) (encode_scope t.scope) t.tag t.kid t.tid w.are_bytes in
    record {
      good = child_good t c tag w.good gc (next_length key t.tag x) few;
      are_bytes =
          subst IsBytes (child_written t c tag)
          (token_bytes_lem (length t.caveats + 1) (encode_caveats t.caveats ++ x) (encode_scope t.scope) tag t.kid t.tid
          (both_bytes (encode_caveats t.caveats) x p.caveats_are bc) p.scope_is (next_bytes key t.tag x) p.kid_is p.tid_is);
      short = s;
      written = refl;
    }
