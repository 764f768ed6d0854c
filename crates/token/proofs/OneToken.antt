-- One token for one encoding.
use mathlib.Core.Path.{◌≡◌, refl, sym, subst, ◌∙◌}
use mathlib.Core.List.{List}
use Prim.Native.Nat.{ℕ}
use lib.ListN.{drop}
use Rattle.basis.proofs.Pairs.{ok_same}
use Rattle.token_scope.specs.Scopes.{Scope}
use Rattle.token_scope.proofs.OneScope.{scope_one}
use Rattle.token_caveat.specs.Caveats.{Caveat}
use Rattle.token.specs.Tokens.{Token, encode_token, GoodToken}
use Rattle.token.specs.declared.TokenAt.{TokenAt}
use Rattle.token.proofs.CaveatLists.{caveats_one}
use Rattle.token.proofs.Holds.{Holds}
use Rattle.token.proofs.TokenWritten.{token_written}

-- what the same parts hold is the same token
pub holds_one : (s : List ℕ) (t u : Token) → GoodToken t → GoodToken u → {parts : TokenAt} → Holds s t parts → Holds s u parts → t ≡ u
holds_one s t u gt gu {parts} x y =
    let behind = drop parts.caveats.span.to s in
    let cs = (caveats_one t.caveats u.caveats gt.each gu.each (x.front.counted_so ∙ sym y.front.counted_so) behind behind
    (sym x.front.caveats_lie ∙ y.front.caveats_lie)).0 in
    let rest = drop parts.scope.to s in
    let r = (scope_one t.scope u.scope gt.good_scope gu.good_scope rest rest (sym x.front.scope_lies ∙ y.front.scope_lies)).0 in
    let tag = sym x.back.tag_held ∙ y.back.tag_held in
    let kid = sym x.back.kid_held ∙ y.back.kid_held in
    let tid = sym x.back.tid_held ∙ y.back.tid_held in
    build cs r tag kid tid
  where
    build : {cs ds : List Caveat} {r q : Scope} {m n k l i j : List ℕ} → cs ≡ ds → r ≡ q → m ≡ n → k ≡ l → i ≡ j
        → ◌≡◌ {A = Token} (record { caveats = cs; scope = r; tag = m; kid = k; tid = i }) (record { caveats = ds; scope = q; tag = n; kid = l; tid = j })
    build p1 p2 p3 p4 p5 = rw (p1, p2, p3, p4, p5)

pub token_one : (t u : Token) → GoodToken t → GoodToken u → encode_token t ≡ encode_token u → t ≡ u
token_one t u gt gu e =
    let s = encode_token t in
    let x = token_written t gt s refl in
    let y = token_written u gu s e in
    holds_one s t u gt gu (subst (Holds s t) (ok_same (sym x.answer ∙ y.answer)) x.holds) y.holds
