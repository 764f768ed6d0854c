-- Fresh tokens and children are the encodings of the trees that they should be; and a fresh token is never over 4,096 bytes.
use mathlib.Core.Path.{◌≡◌, refl, sym, ap, ap₂, ◌∙◌}
use mathlib.Core.List.{List, [], ◌∷◌, ◌++◌, append_assoc, append-nil}
use Prim.Native.Nat.{ℕ, ◌+◌, ◌≤◌, ◌<◌}
use native.Mathlib.Omega.{arith}
use lib.ListN.{length, length-append}
use Rattle.cbor_keys.specs.Maps.{GoodName}
use Rattle.cbor_heads.proofs.HeadLengths.{head_one, head_two}
use Rattle.token_scope.specs.Scopes.{Scope, encode_scope, GoodScope}
use Rattle.token_scope.proofs.Lengths.{scope_short}
use Rattle.token_caveat.specs.Caveats.{Caveat, encode_caveat, GoodCaveat}
use Rattle.token.specs.Tokens.{Token, encode_caveats, token_bytes, encode_token, AllCaveats, GoodToken}
use Rattle.token.specs.Writing.{fresh_bytes, child_bytes}

-- a token without caveats
abbrev pub fresh : Scope → List ℕ → List ℕ → List ℕ → Token
fresh x tag kid tid = record { caveats = []; scope = x; tag = tag; kid = kid; tid = tid }

-- the parent with one caveat more behind its own, and another tag
abbrev pub child : Token → Caveat → List ℕ → Token
child t c tag = record { caveats = t.caveats ++ (c ∷ []); scope = t.scope; tag = tag; kid = t.kid; tid = t.tid }

pub fresh_written : (x : Scope) (tag kid tid : List ℕ) → fresh_bytes (encode_scope x) tag kid tid ≡ encode_token (fresh x tag kid tid)
unfolding encode_caveats
fresh_written x tag kid tid = refl

pub caveats_behind : (cs ds : List Caveat) → encode_caveats (cs ++ ds) ≡ encode_caveats cs ++ encode_caveats ds
unfolding encode_caveats
caveats_behind [] ds = refl
caveats_behind (c ∷ cs) ds = ap (λ (t : List ℕ). encode_caveat c ++ t) (caveats_behind cs ds) ∙ sym (append_assoc (encode_caveat c) (encode_caveats cs) (encode_caveats ds))

pub child_written : (t : Token) (c : Caveat) (tag : List ℕ)
    → child_bytes (length t.caveats) (encode_caveats t.caveats) (encode_caveat c) (encode_scope t.scope) tag t.kid t.tid ≡ encode_token (child t c tag)
unfolding encode_caveats
child_written t c tag =
    let n : length t.caveats + 1 ≡ length (t.caveats ++ (c ∷ [])) = simp length-append in
    let b : encode_caveats t.caveats ++ encode_caveat c ≡ encode_caveats (t.caveats ++ (c ∷ [])) =
    ap (λ (z : List ℕ). encode_caveats t.caveats ++ z) (sym (append-nil (encode_caveat c))) ∙ sym (caveats_behind t.caveats (c ∷ [])) in
    ap₂ (λ (k : ℕ) (z : List ℕ). token_bytes k z (encode_scope t.scope) tag t.kid t.tid) n b

all_behind : (cs : List Caveat) (c : Caveat) → AllCaveats cs → GoodCaveat c → AllCaveats (cs ++ (c ∷ []))
unfolding AllCaveats
all_behind [] c g h = (h, tt)
all_behind (d ∷ cs) c g h = (g.0, all_behind cs c g.1 h)

pub fresh_good : (x : Scope) (tag kid tid : List ℕ) → GoodScope x → length tag ≡ 32 → GoodName kid → GoodName tid → GoodToken (fresh x tag kid tid)
unfolding AllCaveats
fresh_good x tag kid tid g l k i = record { few = omega arith; each = tt; good_scope = g; tag_long = l; good_kid = k; good_tid = i }

-- a parent that is not full has a good child
pub child_good : (t : Token) (c : Caveat) (tag : List ℕ) → GoodToken t → GoodCaveat c → length tag ≡ 32 → length t.caveats < 64 → GoodToken (child t c tag)
child_good t c tag g h l n =
    record {
      few = simp length-append (omega arith);
      each = all_behind t.caveats c g.each h;
      good_scope = g.good_scope;
      tag_long = l;
      good_kid = g.good_kid;
      good_tid = g.good_tid;
    }

pub fresh_short : (x : Scope) (tag kid tid : List ℕ) → GoodScope x → length tag ≡ 32 → GoodName kid → GoodName tid → length (fresh_bytes (encode_scope x) tag kid tid) ≤ 752
unfolding token_bytes
fresh_short x tag kid tid g l k i =
    let lk = k.most in
    let li = i.most in
    simp length-append
    (omega (
      arith,
      head_one 5 6 (omega arith),
      head_one 3 1 (omega arith),
      head_one 4 0 (omega arith),
      scope_short x g,
      head_two 2 (length tag) (omega arith),
      head_one 0 1 (omega arith),
      head_one 3 3 (omega arith),
      head_two 3 (length kid) (omega arith),
      head_two 3 (length tid) (omega arith),
    ))
