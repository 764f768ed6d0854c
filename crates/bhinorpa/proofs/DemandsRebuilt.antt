-- Demand 2's last sentence: every readable, rightly tagged text is what issuing and narrowing in order would have written.
use mathlib.Core.Path.{◌≡◌, refl, sym, ap, subst, ◌∙◌}
use mathlib.Core.Bool.{Bool, true, false}
use mathlib.Core.List.{List, [], ◌∷◌, ◌++◌, append_assoc, append-nil}
use Prim.Native.Nat.{ℕ, ◌+◌, ◌*◌, ◌≤◌, ◌<◌}
use native.Mathlib.Omega.{arith}
use borrow.Author.Tests.{lt-ltb, ltb-true, ltb-false}
use lib.Dec.{ltb}
use lib.ListN.{length, length-append}
use Rattle.basis.specs.Basis.{pick, IsBytes}
use Rattle.cbor_heads.specs.Heads.{big, head}
use Rattle.cbor_strings.specs.Strings.{string}
use Rattle.hash_chain.specs.Chain.{tag_of}
use Rattle.hash_chain.proofs.ChainLaws.{tag_length, tag_behind}
use Rattle.token_scope.specs.Scopes.{encode_scope}
use Rattle.token_caveat.specs.Caveats.{Caveat, encode_caveat, GoodCaveat}
use Rattle.token.specs.Tokens.{Token, encode_caveats, token_bytes, encode_token, AllCaveats}
use Rattle.token.proofs.WritingLaws.{caveats_behind}
use Rattle.records_table.specs.Tables.{Row}
use Rattle.outcome.specs.Decisions.{Decision, granted, Carried}
use Rattle.outcome.proofs.Sizes.{short_text}
use Rattle.issue.specs.Issuing.{issue_of}
use Rattle.narrow.specs.Narrowing.{narrow_of}
use Rattle.bhinorpa.specs.Allowed.{token_text, Canonical, caveat_bytes, key_for}
use Rattle.bhinorpa.specs.NewTokens.{EncodesCaveat, Grant, Parent, child_token, Call, left_by, Narrowings, last_call, AllDone}
use Rattle.bhinorpa.specs.Verdicts.{RoomVerdict, out_short, done}
use Rattle.bhinorpa.specs.Demands.{Rebuilt, RoomEnough}
use Rattle.bhinorpa.proofs.AreBytes.{front_bytes, token_bytes_lem, parts_bytes}
use Rattle.bhinorpa.proofs.NewTokens.{tag_bytes, caveats_one_more}
use Rattle.bhinorpa.proofs.Rooms.{in_room, front_text}
use Rattle.bhinorpa.proofs.IssueIs.{issue_granted}
use Rattle.bhinorpa.proofs.NarrowIs.{narrow_granted}

pub room_enough : RoomEnough
room_enough text token c = subst (λ (x : List ℕ). length x ≤ 5462) (sym c.written) (short_text (encode_token token) c.short)

-- a call that hands out a text leaves it in a room that is always enough
left_text : (h : Decision) (text : List ℕ) → h ≡ granted text → length text ≤ 5462 → (call : Call) → 5462 ≤ length call.entry
    → Carried h call.entry call.outcome call.exit → (call.outcome.answer ≡ 0) × (left_by call ≡ text)
left_text h text e l call enough w = by (in_room h call.entry call.outcome call.exit text e w)
  where
    by : RoomVerdict text call.entry call.outcome call.exit → (call.outcome.answer ≡ 0) × (left_by call ≡ text)
    by (done m r) = (r.answer, front_text text call.entry call.outcome call.exit r)
    by (out_short m r) = let z : ⊥ = omega (arith, m, l, enough) in elim z [ ]

-- the array's head does not shrink
head_size : (n : ℕ) → n ≤ 64 → length (head 4 n) ≡ pick (ltb n 24) 1 2
unfolding head big
head_size n h = by (ltb n 24) refl
  where
    by : (b : Bool) → ltb n 24 ≡ b → length (pick b ((4 * 32 + n) ∷ []) (pick (ltb n 256) ((4 * 32 + 24) ∷ big 1 n) (pick (ltb n 65536) ((4 * 32 + 25) ∷ big 2 n) (pick (ltb n 4294967296) ((4 * 32 + 26) ∷ big 4 n) ((4 * 32 + 27) ∷ big 8 n))))) ≡ pick b 1 2
    by true p = refl
    by false p = rw (lt-ltb n 256 (omega (arith, h)))

head_grows : (m n : ℕ) → m ≤ n → n ≤ 64 → length (head 4 m) ≤ length (head 4 n)
head_grows m n h l = rw (head_size m (omega arith), head_size n l) (by (ltb m 24) refl (ltb n 24) refl)
  where
    by : (a : Bool) → ltb m 24 ≡ a → (b : Bool) → ltb n 24 ≡ b → pick a 1 2 ≤ pick b 1 2
    by true p true q = omega arith
    by true p false q = omega arith
    by false p true q = omega (arith, h, ltb-false m 24 p, ltb-true n 24 q)
    by false p false q = omega arith

all_front : (cs ds : List Caveat) → AllCaveats (cs ++ ds) → AllCaveats cs
unfolding AllCaveats
all_front [] ds g = tt
all_front (c ∷ cs) ds g = (g.0, all_front cs ds g.1)

all_at : (cs : List Caveat) (c : Caveat) (ds : List Caveat) → AllCaveats (cs ++ (c ∷ ds)) → GoodCaveat c
unfolding AllCaveats
all_at [] c ds g = g.0
all_at (d ∷ cs) c ds g = all_at cs c ds g.1

-- the token with the first of its caveats only, tagged as the chain gives
abbrev part : List Row → Token → List Caveat → Token
part rows t before =
    record { caveats = before; scope = t.scope; tag = tag_of (key_for rows t) t.tid t.kid (encode_scope t.scope) (caveat_bytes before); kid = t.kid; tid = t.tid }

module _ (rows : List Row) (text : List ℕ) (t : Token) (w : Canonical text t) where
  abbrev key : List ℕ
  key = key_for rows t

  one_more : (before : List Caveat) (c : Caveat) → child_token rows (part rows t before) c ≡ part rows t (before ++ (c ∷ []))
  one_more before c =
      ap (λ (tag : List ℕ). tagged tag)
      (sym (tag_behind key t.tid t.kid (encode_scope t.scope) (caveat_bytes before) (encode_caveat c))
      ∙ ap (tag_of key t.tid t.kid (encode_scope t.scope)) (sym (caveats_one_more before c)))
    where
      tagged : List ℕ → Token
      tagged tag = record { caveats = before ++ (c ∷ []); scope = t.scope; tag = tag; kid = t.kid; tid = t.tid }

  module _ (before rest : List Caveat) (e : t.caveats ≡ before ++ rest) where
    counted : length t.caveats ≡ length before + length rest
    counted = ap length e ∙ length-append before rest

    laid : encode_caveats t.caveats ≡ encode_caveats before ++ encode_caveats rest
    laid = ap encode_caveats e ∙ caveats_behind before rest

    part_short : length (encode_token (part rows t before)) ≤ 4096
    unfolding token_bytes
    part_short =
        let s = w.short in
        let few = w.good.few in
        let h = head_grows (length before) (length t.caveats) (omega (arith, counted)) few in
        let l : length (encode_caveats t.caveats) ≡ length (encode_caveats before) + length (encode_caveats rest) = ap length laid ∙ length-append (encode_caveats before) (encode_caveats rest) in
        let k = w.good.tag_long in
        let j = tag_length key t.tid t.kid (encode_scope t.scope) (caveat_bytes before) in
        let a : length (string 2 (tag_of key t.tid t.kid (encode_scope t.scope) (caveat_bytes before))) ≡ length (string 2 t.tag) = same_size (tag_of key t.tid t.kid (encode_scope t.scope) (caveat_bytes before)) t.tag (j ∙ sym k) in
        simp length-append (omega (arith, simp length-append at s, h, l, simp length-append at a))
      where
        same_size : (x y : List ℕ) → length x ≡ length y → length (string 2 x) ≡ length (string 2 y)
        same_size x y q = length-append (head 2 (length x)) x ∙ ap (λ (n : ℕ). length (head 2 n) + n) q ∙ sym (length-append (head 2 (length y)) y)

    part_canonical : Canonical (token_text (part rows t before)) (part rows t before)
    part_canonical =
        let g = w.good in
        let p = parts_bytes (length t.caveats) (encode_caveats t.caveats) (encode_scope t.scope) t.tag t.kid t.tid w.are_bytes in
        let tag = tag_of key t.tid t.kid (encode_scope t.scope) (caveat_bytes before) in
        let few = g.few in
        record {
          good = record {
            few = omega (arith, counted);
            each = all_front before rest (subst AllCaveats e g.each);
            good_scope = g.good_scope;
            tag_long = tag_length key t.tid t.kid (encode_scope t.scope) (caveat_bytes before);
            good_kid = g.good_kid;
            good_tid = g.good_tid;
          };
          are_bytes =
              token_bytes_lem (length before) (encode_caveats before) (encode_scope t.scope) tag t.kid t.tid
              (front_bytes (encode_caveats before) (encode_caveats rest) (subst IsBytes laid p.caveats_are)) p.scope_is
              (tag_bytes key t.tid t.kid (encode_scope t.scope) (caveat_bytes before)) p.kid_is p.tid_is;
          short = part_short;
          written = refl;
        }

-- issuing gives the part without caveats, and narrowing by the next caveat the part with it
module _ (table text : List ℕ) (rows : List Row) (t : Token) (p : Parent table text rows t) where
  abbrev out : List Caveat → List ℕ
  out before = token_text (part rows t before)

  is_grant : Grant table t.tid t.kid (encode_scope t.scope) rows t.scope
  is_grant = record { table_is = p.table_is; scope_is = record { good = p.canonical.good.good_scope; written = refl }; known = p.known }

  issued_first : issue_of table t.tid t.kid (encode_scope t.scope) ≡ granted (out [])
  unfolding caveat_bytes
  issued_first = issue_granted table t.tid t.kid (encode_scope t.scope) rows t.scope is_grant

  narrowed_next : (before : List Caveat) (c : Caveat) (rest : List Caveat) → t.caveats ≡ before ++ (c ∷ rest)
      → narrow_of table (out before) (encode_caveat c) ≡ granted (out (before ++ (c ∷ [])))
  narrowed_next before c rest e =
      let w = p.canonical in
      let u = part rows t before in
      let parent : Parent table (out before) rows u =
      record { table_is = p.table_is; canonical = part_canonical rows text t w before (c ∷ rest) e; known = p.known; tagged = refl } in
      let added : EncodesCaveat (encode_caveat c) c = record { good = all_at before c rest (subst AllCaveats e w.good.each); written = refl } in
      let few : length before < 64 = omega (arith, counted rows text t w before (c ∷ rest) e, w.good.few) in
      let same = one_more rows text t w before c in
      let short = part_short rows text t w (before ++ (c ∷ [])) rest (e ∙ sym (append_assoc before (c ∷ []) rest)) in
      narrow_granted table (out before) (encode_caveat c) rows u parent c added few (subst (λ (v : Token). length (encode_token v) ≤ 4096) (sym same) short)
      ∙ ap (λ (v : Token). granted (token_text v)) same

  out_short_enough : (before rest : List Caveat) → t.caveats ≡ before ++ rest → length (out before) ≤ 5462
  out_short_enough before rest e = room_enough (out before) (part rows t before) (part_canonical rows text t p.canonical before rest e)

  -- from a call that left the part with some of the caveats on
  narrowed_rest : (rest before : List Caveat) → t.caveats ≡ before ++ rest → (first : Call) → left_by first ≡ out before
      → (calls : List Call) → Narrowings table (left_by first) (caveat_bytes rest) calls → AllDone calls × (left_by (last_call first calls) ≡ out t.caveats)
  unfolding Narrowings caveat_bytes last_call AllDone
  narrowed_rest [] before e first l [] n = (tt, l ∙ ap out (sym (e ∙ append-nil before)))
  narrowed_rest [] before e first l (call ∷ calls) n = elim n [ ]
  narrowed_rest (c ∷ rest) before e first l [] n = elim n [ ]
  narrowed_rest (c ∷ rest) before e first l (call ∷ calls) n =
      let f = e ∙ sym (append_assoc before (c ∷ []) rest) in
      let next-granted = ap (λ (x : List ℕ). narrow_of table x (encode_caveat c)) l ∙ narrowed_next before c rest e in
      let k = left_text (narrow_of table (left_by first) (encode_caveat c)) (out (before ++ (c ∷ []))) next-granted (out_short_enough (before ++ (c ∷ [])) rest f) call n.0 n.1 in
      let m = narrowed_rest rest (before ++ (c ∷ [])) f call k.1 calls n.2 in
      ((k.0, m.0), m.1)

  -- the whole token, since its tag is the chain's
  whole_is : part rows t t.caveats ≡ t
  whole_is = ap tagged p.tagged
    where
      tagged : List ℕ → Token
      tagged tag = record { caveats = t.caveats; scope = t.scope; tag = tag; kid = t.kid; tid = t.tid }

pub rebuilt : Rebuilt
unfolding AllDone
rebuilt table text rows token p first enough w calls n =
    let k = left_text (issue_of table token.tid token.kid (encode_scope token.scope)) (out table text rows token p []) (issued_first table text rows token p) (out_short_enough table text rows token p [] token.caveats refl) first enough w in
    let m = narrowed_rest table text rows token p token.caveats [] refl first k.1 calls n in
    ((k.0, m.0), m.1 ∙ ap token_text (whole_is table text rows token p) ∙ sym p.canonical.written)
