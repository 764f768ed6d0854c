-- What reads well as a token is exactly one token within limits, written, and the answer's parts hold what is its.
use Rattle.std.specs.Prelude.{Ok, Err}
use mathlib.Core.Path.{◌≡◌, refl, ap, ap₂, subst, ◌∙◌}
use mathlib.Core.List.{List, [], ◌++◌, append_assoc, append-nil}
use Prim.Native.Nat.{ℕ, ◌+◌, ◌-◌, ◌≤◌}
use native.Mathlib.Omega.{arith}
use borrow.Author.Tests.{eqb-true}
use lib.Dec.{eqb}
use lib.ListN.{length, drop, length-drop, drop_of_length-le}
use lib.Seq.{length-take-le}
use Rattle.basis.specs.Basis.{ascii, from_to, between, IsBytes}
use Rattle.basis.specs.declared.Span.{Span}
use Rattle.basis.proofs.Pairs.{ok_same}
use Rattle.basis.proofs.Parts.{on, lies}
use Rattle.cbor_heads.specs.Defects.{Reading, bad}
use Rattle.cbor_heads.specs.Heads.{head}
use Rattle.cbor_heads.specs.Counts.{read_count, number_up_to}
use Rattle.cbor_heads.specs.declared.defect.Kind.TheVariants.{Cbor, Bounds, Unknown}
use Rattle.cbor_heads.proofs.CountLaws.{there_head, counted}
use Rattle.cbor_strings.specs.Strings.{string}
use Rattle.cbor_strings.specs.Reading.{read_run}
use Rattle.cbor_strings.proofs.RunReads.{found}
use Rattle.cbor_strings.proofs.StringLaws.{written_run}
use Rattle.cbor_values.specs.Lists.{list_of}
use Rattle.cbor_values.specs.Reading.{items_of}
use Rattle.cbor_keys.specs.Keys.{keys_of}
use Rattle.cbor_keys.specs.Reading.{wanted_key}
use Rattle.cbor_keys.specs.Fields.{name_field}
use Rattle.cbor_keys.specs.Maps.{text, entry, GoodName}
use Rattle.cbor_keys.specs.declared.Names.TheVariants.{Token as TokenKeys}
use Rattle.cbor_keys.proofs.KeyLaws.{wanted_read}
use Rattle.cbor_keys.proofs.FieldLaws.{name_field_read}
use Rattle.cbor_keys.proofs.StepLaws.{went, must_take}
use Rattle.token_scope.specs.Scopes.{Scope, encode_scope, GoodScope}
use Rattle.token_scope.specs.Reading.{scope_of}
use Rattle.token_scope.proofs.ScopeRead.{scope_read, scope_long}
use Rattle.token_caveat.specs.Caveats.{Caveat}
use Rattle.token.specs.Tokens.{Token, encode_caveats, token_bytes, encode_token, AllCaveats, GoodToken}
use Rattle.token_front.specs.Front.{two_of, front_of}
use Rattle.token_front.specs.Ends.{caveat_end}
use Rattle.token_front.specs.declared.FrontAt.{FrontAt}
use Rattle.token_back.specs.Back.{three_of, tag_field, version_field, back_of}
use Rattle.token_back.specs.Values.{tag_by, tag_at, version_at}
use Rattle.token_back.specs.declared.BackAt.{BackAt}
use Rattle.token.specs.Reading.{both_of, token_of}
use Rattle.token.specs.declared.TokenAt.{TokenAt}
use Rattle.token.proofs.CaveatLists.{caveats_read}
use Rattle.token.proofs.TokenMap.{both_then, end_then, tid_then, kid_then, v_then, r_then, r_key_then, caveats_then, c_then, map_then}
use Rattle.token.proofs.Holds.{HoldsFront, HoldsBack, Holds}

pub record IsFront (s : List ℕ) (front : FrontAt) : Type 0 where
  pub caveats : List Caveat
  pub tree : Scope
  pub each : AllCaveats caveats
  pub few : front.caveats.count ≤ 64
  pub good : GoodScope tree
  pub there :
      drop 0 s
      ≡ head 5 6 ++ (text (ascii "c") ++ (head 4 (length caveats) ++ (encode_caveats caveats ++ (text (ascii "r") ++ (encode_scope tree ++ drop front.scope.to s)))))
  pub holds : HoldsFront s caveats tree front.caveats front.scope

pub front_read : (s : List ℕ) → IsBytes s → {front : FrontAt} → front_of s ≡ Ok front → IsFront s front
unfolding front_of keys_of
front_read s b {front} e =
    let m = went (map_then s) (read_count s 0 5 6 6 Unknown) e in
    let c = counted s 0 5 6 6 Unknown m.was in
    let n : m.found.0 ≡ 6 = omega (arith, c.enough, c.few) in
    let k = went (c_then s) (wanted_key TokenKeys s m.found.1 0) m.goes in
    let l = went (caveats_then s) (read_count s k.found 4 0 64 Bounds) k.goes in
    let d = counted s k.found 4 0 64 Bounds l.was in
    let i = went (r_key_then s l.found.0 l.found.1) (items_of (caveat_end s) l.found.0 l.found.1) l.goes in
    let list = list_of l.found.0 (from_to l.found.1 i.found) in
    let r = went (r_then s list) (wanted_key TokenKeys s i.found 1) i.goes in
    let w = went (both_then list r.found) (scope_of s r.found) r.goes in
    let v = caveats_read s b l.found.0 l.found.1 i.found i.was in
    let x = scope_read s b r.found {parts = w.found.0} {next = w.found.1} w.was in
    let read = two_of list (from_to r.found w.found.1) in
    subst (IsFront s) {x = read} (ok_same {a = read} w.goes)
    (joined m.found.1 k.found l.found.1 i.found r.found w.found.1 l.found.0 v.trees x.tree v.good d.few x.good v.counted_so
    (there_head s b 0 c.headed ∙ ap (λ (k : ℕ). head 5 k ++ drop m.found.1 s) n) (wanted_read TokenKeys 0 s b m.found.1 k.was)
    (there_head s b k.found d.headed) v.there v.long (wanted_read TokenKeys 1 s b i.found r.was) x.there
    (scope_long s r.found x.tree x.good {parts = w.found.0} {next = w.found.1} w.was x.there))
  where
    joined : (a1 a2 f t r z n : ℕ) (cs : List Caveat) (x : Scope) → AllCaveats cs → n ≤ 64 → GoodScope x → length cs ≡ n
        → drop 0 s ≡ head 5 6 ++ drop a1 s → drop a1 s ≡ text (ascii "c") ++ drop a2 s → drop a2 s ≡ head 4 n ++ drop f s
        → drop f s ≡ encode_caveats cs ++ drop t s → f + length (encode_caveats cs) ≡ t → drop t s ≡ text (ascii "r") ++ drop r s
        → drop r s ≡ encode_scope x ++ drop z s → r + length (encode_scope x) ≡ z → IsFront s (two_of (list_of n (from_to f t)) (from_to r z))
    joined a1 a2 f t r z n cs x gc few gx k d0 d1 d2 d3 l3 d4 d5 l5 =
        let counted_head : drop a2 s ≡ head 4 (length cs) ++ drop f s = rw k d2 in
        record {
          caveats = cs;
          tree = x;
          each = gc;
          few = few;
          good = gx;
          there = on (head 5 6) d0 (on (text (ascii "c")) d1 (on (head 4 (length cs)) counted_head (on (encode_caveats cs) d3 (on (text (ascii "r")) d4 d5))));
          holds = record {
            counted_so = k;
            caveats_lie = d3;
            caveats_held = rw (← l3) (lies s (encode_caveats cs) (drop t s) f d3);
            scope_lies = d5;
            scope_held = rw (← l5) (lies s (encode_scope x) (drop z s) r d5);
          };
        }

-- the tag's entry
record IsTag (s : List ℕ) (at : ℕ) (part : Span) : Type 0 where
  pub tag : List ℕ
  pub long : length tag ≡ 32
  pub held : between s part ≡ tag
  pub there : drop at s ≡ text (ascii "s") ++ (string 2 tag ++ drop part.to s)

tag_read : (s : List ℕ) → IsBytes s → (at : ℕ) {part : Span} → tag_field s at ≡ Ok part → IsTag s at part
unfolding tag_field tag_at keys_of
tag_read s b at {part} e =
    let k = went (tag_at s) (wanted_key TokenKeys s at 2) e in
    by k.found (wanted_read TokenKeys 2 s b at k.was) (read_run s k.found 2 32 32) refl k.goes
  where
    by : (from : ℕ) → drop at s ≡ text (ascii "s") ++ drop from s → (x : Reading Span) → read_run s from 2 32 32 ≡ x → tag_by x ≡ Ok part → IsTag s at part
    by from k (Err d) w e = let z : ◌≡◌ {A = ℕ} 0 1 = cc in let z : ⊥ = omega arith in elim z [ ]
    by from k (Ok tag) w e =
        let w : read_run s from 2 32 32 ≡ Ok part = w ∙ e in
        let f = found s from 2 32 32 w in
        let n : part.to - part.from ≡ 32 = omega (arith, f.enough, f.most) in
        record {
          tag = between s part;
          long = length-take-le (part.to - part.from) (drop part.from s) (simp length-drop (omega (arith, f.order, f.inside))) ∙ n;
          held = refl;
          there = on (text (ascii "s")) k (written_run s from 2 32 32 b w);
        }

version_read : (s : List ℕ) → IsBytes s → (at : ℕ) {next : ℕ} → version_field s at ≡ Ok next → drop at s ≡ text (ascii "v") ++ (head 0 1 ++ drop next s)
unfolding version_field version_at keys_of
version_read s b at {next} e =
    let k = went (version_at s) (wanted_key TokenKeys s at 3) e in
    let c = went _ (number_up_to 0xffffffffffffffff s k.found) k.goes in
    let t = must_take (Ok c.found.1) (bad Unknown k.found) (never k.found) (eqb c.found.0 1) c.goes in
    let h = there_head s b k.found (counted s k.found 0 0 0xffffffffffffffff Bounds c.was).headed in
    on (text (ascii "v")) (wanted_read TokenKeys 3 s b at k.was) (h ∙ ap₂ (λ (n m : ℕ). head 0 n ++ drop m s) (eqb-true c.found.0 1 t.0) (ok_same t.1))
  where
    never : (a : ℕ) → bad Unknown a ≡ Ok next → ⊥
    never a e = let z : ◌≡◌ {A = ℕ} 0 1 = cc in omega arith

pub record IsBack (s : List ℕ) (at : ℕ) (back : BackAt) : Type 0 where
  pub tag_bytes : List ℕ
  pub kid_bytes : List ℕ
  pub tid_bytes : List ℕ
  pub long : length tag_bytes ≡ 32
  pub good_kid : GoodName kid_bytes
  pub good_tid : GoodName tid_bytes
  pub there :
      drop at s
      ≡ text (ascii "s") ++ (string 2 tag_bytes ++ (text (ascii "v") ++ (head 0 1 ++ (entry "kid" (text kid_bytes) ++ (entry "tid" (text tid_bytes) ++ [])))))
  pub holds : HoldsBack s tag_bytes kid_bytes tid_bytes back.tag back.kid back.tid

pub back_read : (s : List ℕ) → IsBytes s → (at : ℕ) {back : BackAt} → back_of s at ≡ Ok back → IsBack s at back
unfolding back_of keys_of
back_read s b at {back} e =
    let t = went (v_then s) (tag_field s at) e in
    let v = went (kid_then s t.found) (version_field s t.found.to) t.goes in
    let k = went (tid_then s t.found) (name_field TokenKeys s v.found 4) v.goes in
    let i = went (end_then s t.found k.found) (name_field TokenKeys s k.found.to 5) k.goes in
    let l = must_take (Ok (three_of t.found k.found i.found)) (bad Cbor i.found.to) (never i.found.to) (eqb i.found.to (length s)) i.goes in
    let x = tag_read s b at t.was in
    let y = name_field_read TokenKeys 4 s b v.found k.was in
    let z = name_field_read TokenKeys 5 s b k.found.to i.was in
    let n : drop i.found.to s ≡ [] = drop_of_length-le s {i = i.found.to} (omega (arith, eqb-true i.found.to (length s) l.0)) in
    let read = three_of t.found k.found i.found in
    subst (IsBack s at) {x = read} (ok_same {a = read} l.1)
    (record {
      tag_bytes = x.tag;
      kid_bytes = y.tree;
      tid_bytes = z.tree;
      long = x.long;
      good_kid = y.good;
      good_tid = z.good;
      there =
          whole x.tag y.tree z.tree t.found.to v.found k.found.to x.there (version_read s b t.found.to v.was) y.there
          (on (entry "tid" (text z.tree)) z.there n);
      holds = record { tag_held = x.held; kid_held = y.held; tid_held = z.held };
    })
  where
    never : (a : ℕ) → bad Cbor a ≡ Ok back → ⊥
    never a e = let z : ◌≡◌ {A = ℕ} 0 1 = cc in omega arith

    whole : (tb kb ib : List ℕ) (p q r : ℕ) → drop at s ≡ text (ascii "s") ++ (string 2 tb ++ drop p s) → drop p s ≡ text (ascii "v") ++ (head 0 1 ++ drop q s)
        → drop q s ≡ entry "kid" (text kb) ++ drop r s → drop r s ≡ entry "tid" (text ib) ++ []
        → drop at s ≡ text (ascii "s") ++ (string 2 tb ++ (text (ascii "v") ++ (head 0 1 ++ (entry "kid" (text kb) ++ (entry "tid" (text ib) ++ [])))))
    whole tb kb ib p q r d0 d1 d2 d3 =
        d0 ∙ ap (λ (t : List ℕ). text (ascii "s") ++ (string 2 tb ++ t)) (d1 ∙ ap (λ (t : List ℕ). text (ascii "v") ++ (head 0 1 ++ t)) (on (entry "kid" (text kb)) d2 d3))

-- a token within limits, whole, and the parts hold what is its
pub record IsToken (s : List ℕ) (parts : TokenAt) : Type 0 where
  pub tree : Token
  pub good : GoodToken tree
  pub whole : s ≡ encode_token tree
  pub holds : Holds s tree parts

both : (s : List ℕ) (front : FrontAt) (back : BackAt) → IsFront s front → IsBack s front.scope.to back → IsToken s (both_of front back)
unfolding token_bytes
both s front back x y =
    let cs = x.caveats in
    let f : List ℕ → List ℕ = λ t. head 5 6 ++ (text (ascii "c") ++ (head 4 (length cs) ++ (encode_caveats cs ++ (text (ascii "r") ++ (encode_scope x.tree ++ t))))) in
    let e = x.there ∙ ap f y.there in
    record {
      tree = record { caveats = cs; scope = x.tree; tag = y.tag_bytes; kid = y.kid_bytes; tid = y.tid_bytes };
      good = record {
        few = rw x.holds.counted_so x.few;
        each = x.each;
        good_scope = x.good;
        tag_long = y.long;
        good_kid = y.good_kid;
        good_tid = y.good_tid;
      };
      whole = simp append_assoc (simp (append_assoc, append-nil) at e);
      holds = record { front = x.holds; back = y.holds };
    }

pub token_read : (s : List ℕ) → IsBytes s → {parts : TokenAt} → token_of s ≡ Ok parts → IsToken s parts
unfolding token_of
token_read s b e =
    let f = went _ (front_of s) e in
    let r = went _ (back_of s f.found.scope.to) f.goes in
    let read = both_of f.found r.found in
    subst (IsToken s) {x = read} (ok_same {a = read} r.goes) (both s f.found r.found (front_read s b f.was) (back_read s b f.found.scope.to r.was))
