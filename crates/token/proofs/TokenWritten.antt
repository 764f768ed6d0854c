-- A token within limits that was written reads back, and the answer's parts hold exactly the token's.
use Rattle.std.specs.Prelude.{Ok}
use mathlib.Core.Path.{◌≡◌, refl, sym, ap, ◌∙◌}
use mathlib.Core.List.{List, [], ◌++◌, append_assoc, append-nil}
use Prim.Native.Nat.{ℕ, ◌+◌, ◌-◌, ◌≤◌}
use native.Mathlib.Omega.{arith}
use borrow.Author.Tests.{eq-eqb}
use lib.ListN.{length, drop, length-append, length-drop}
use Rattle.basis.specs.Basis.{ascii, from_to, between}
use Rattle.cbor_values.specs.Lists.{list_of}
use Rattle.basis.proofs.Parts.{past, ends, lies}
use Rattle.cbor_heads.specs.Heads.{head}
use Rattle.cbor_heads.specs.declared.defect.Kind.TheVariants.{Bounds, Unknown}
use Rattle.cbor_strings.specs.Strings.{string}
use Rattle.cbor_heads.proofs.CountLaws.{head_there, count}
use Rattle.cbor_heads.proofs.HeadLengths.{head_one}
use Rattle.cbor_strings.proofs.StringLaws.{read_run_written, content_there}
use Rattle.cbor_keys.specs.Keys.{keys_of}
use Rattle.cbor_keys.specs.Reading.{index_from}
use Rattle.cbor_keys.specs.Maps.{text, entry, GoodName}
use Rattle.cbor_keys.specs.declared.Names.TheVariants.{Token as TokenKeys}
use Rattle.cbor_keys.proofs.KeyLaws.{wanted_written}
use Rattle.cbor_keys.proofs.FieldLaws.{name_field_written, name_lies, number_written}
use Rattle.token_scope.specs.Scopes.{Scope, encode_scope, GoodScope}
use Rattle.token_scope.proofs.ScopeWritten.{scope_written}
use Rattle.token_caveat.specs.Caveats.{Caveat}
use Rattle.token.specs.Tokens.{Token, encode_caveats, token_bytes, encode_token, AllCaveats, GoodToken}
use Rattle.token_front.specs.Front.{two_of, front_of}
use Rattle.token_back.specs.Back.{three_of, tag_field, version_field, back_of}
use Rattle.token_back.specs.Values.{tag_at, version_at}
use Rattle.token.specs.Reading.{both_of, token_of}
use Rattle.token_front.specs.declared.FrontAt.{FrontAt}
use Rattle.token_back.specs.declared.BackAt.{BackAt}
use Rattle.token.specs.declared.TokenAt.{TokenAt}
use Rattle.token.proofs.CaveatLists.{caveats_written}
use Rattle.token.proofs.Holds.{HoldsFront, HoldsBack, Holds}

-- c and r, at the front
pub record FrontWritten (s : List ℕ) (cs : List Caveat) (x : Scope) (rest : List ℕ) : Type 0 where
  pub front : FrontAt
  pub answer : front_of s ≡ Ok front
  pub holds : HoldsFront s cs x front.caveats front.scope
  pub behind : drop front.scope.to s ≡ rest

module _ (cs : List Caveat) (gc : AllCaveats cs) (few : length cs ≤ 64) (x : Scope) (gx : GoodScope x) (s rest : List ℕ) where
  abbrev n : ℕ
  n = length cs

  abbrev kc : List ℕ
  kc = text (ascii "c")

  abbrev kr : List ℕ
  kr = text (ascii "r")

  abbrev cb : List ℕ
  cb = encode_caveats cs

  abbrev rb : List ℕ
  rb = encode_scope x

  pub front_written : drop 0 s ≡ head 5 6 ++ (kc ++ (head 4 n ++ (cb ++ (kr ++ (rb ++ rest))))) → FrontWritten s cs x rest
  unfolding front_of keys_of index_from
  front_written d0 =
      let a1 = 0 + length (head 5 6) in
      let d1 = past s (head 5 6) (kc ++ (head 4 n ++ (cb ++ (kr ++ (rb ++ rest))))) 0 d0 in
      let a2 = a1 + length kc in
      let d2 = past s kc (head 4 n ++ (cb ++ (kr ++ (rb ++ rest)))) a1 d1 in
      let a3 = a2 + length (head 4 n) in
      let d3 = past s (head 4 n) (cb ++ (kr ++ (rb ++ rest))) a2 d2 in
      let a4 = a3 + length cb in
      let d4 = past s cb (kr ++ (rb ++ rest)) a3 d3 in
      let a5 = a4 + length kr in
      let d5 = past s kr (rb ++ rest) a4 d4 in
      let a6 = a5 + length rb in
      let d6 = past s rb rest a5 d5 in
      let c0 = sym (count s 0 5 6 6 Unknown (head_there s (kc ++ (head 4 n ++ (cb ++ (kr ++ (rb ++ rest))))) 0 5 6 d0 (omega arith)) refl (omega arith) (omega arith)) in
      let c1 = wanted_written TokenKeys (ascii "c") (omega arith) 0 refl s (head 4 n ++ (cb ++ (kr ++ (rb ++ rest)))) a1 d1 in
      let c2 = sym (count s a2 4 0 64 Bounds (head_there s (cb ++ (kr ++ (rb ++ rest))) a2 4 n d2 (omega arith)) refl (omega arith) few) in
      let c3 = caveats_written cs gc s (kr ++ (rb ++ rest)) a3 d3 in
      let c4 = wanted_written TokenKeys (ascii "r") (omega arith) 1 refl s (rb ++ rest) a4 d4 in
      let w = scope_written x gx s rest a5 d5 in
      record {
        front = two_of (list_of n (from_to a3 a4)) (from_to a5 a6);
        answer = rw (c0, c1, c2, c3, c4, w.answer);
        holds = record {
          counted_so = refl;
          caveats_lie = d3 ∙ ap (λ (t : List ℕ). cb ++ t) (sym d4);
          caveats_held = lies s cb (kr ++ (rb ++ rest)) a3 d3;
          scope_lies = d5 ∙ ap (λ (t : List ℕ). rb ++ t) (sym d6);
          scope_held = lies s rb rest a5 d5;
        };
        behind = d6;
      }

-- s, v, kid and tid, with nothing behind them
pub record BackWritten (s tb kb ib : List ℕ) (at : ℕ) : Type 0 where
  pub back : BackAt
  pub answer : back_of s at ≡ Ok back
  pub holds : HoldsBack s tb kb ib back.tag back.kid back.tid

module _ (tb kb ib : List ℕ) (lt : length tb ≡ 32) (gk : GoodName kb) (gi : GoodName ib) (s : List ℕ) (at : ℕ) where
  abbrev ks : List ℕ
  ks = text (ascii "s")

  abbrev kv : List ℕ
  kv = text (ascii "v")

  abbrev kk : List ℕ
  kk = entry "kid" (text kb)

  abbrev ki : List ℕ
  ki = entry "tid" (text ib)

  tag_written : (rest : List ℕ) → drop at s ≡ ks ++ (string 2 tb ++ rest)
      → tag_field s at ≡ Ok (from_to (at + length ks + length (head 2 (length tb))) (at + length ks + length (string 2 tb)))
  unfolding tag_field tag_at keys_of index_from
  tag_written rest e =
      let a = at + length ks in
      let d = past s ks (string 2 tb ++ rest) at e in
      rw (
        wanted_written TokenKeys (ascii "s") (omega arith) 2 refl s (string 2 tb ++ rest) at e,
        read_run_written s tb rest a 2 d (omega arith) 32 32 (omega arith) (omega arith),
      )
      (ap (λ (to : ℕ). Ok (from_to (a + length (head 2 (length tb))) to)) (ends (head 2 (length tb)) tb a))

  version_written : (p : ℕ) (rest : List ℕ) → drop p s ≡ kv ++ (head 0 1 ++ rest) → version_field s p ≡ Ok (p + length kv + length (head 0 1))
  unfolding version_field version_at keys_of index_from
  version_written p rest e =
      let d = past s kv (head 0 1 ++ rest) p e in
      rw (
        wanted_written TokenKeys (ascii "v") (omega arith) 3 refl s (head 0 1 ++ rest) p e,
        number_written s rest (p + length kv) 1 0xffffffffffffffff (omega arith) (omega arith) d,
      )

  tag_lies : (p : ℕ) (rest : List ℕ) → drop p s ≡ string 2 tb ++ rest → between s (from_to (p + length (head 2 (length tb))) (p + length (string 2 tb))) ≡ tb
  tag_lies p rest e =
      let f = p + length (head 2 (length tb)) in
      let l : p + length (string 2 tb) - f ≡ length tb = rw (← ends (head 2 (length tb)) tb p) (omega arith) in
      rw l (content_there s tb rest p 2 e (omega arith))

  -- tid is the last, so that its end is the end of all
  whole : (p : ℕ) → drop p s ≡ ki ++ [] → p + length ki ≡ length s
  whole p e =
      let k = head_one 3 3 (omega arith) in
      let l : 1 ≤ length ki = simp length-append (omega arith) in
      let q : length s - p ≡ length ki = sym (length-drop p s) ∙ ap length (e ∙ append-nil ki) in
      omega arith

  pub back_written : drop at s ≡ ks ++ (string 2 tb ++ (kv ++ (head 0 1 ++ (kk ++ (ki ++ []))))) → BackWritten s tb kb ib at
  unfolding back_of keys_of index_from
  back_written d0 =
      let h = head 2 (length tb) in
      let a1 = at + length ks in
      let d1 = past s ks (string 2 tb ++ (kv ++ (head 0 1 ++ (kk ++ (ki ++ []))))) at d0 in
      let a2 = a1 + length (string 2 tb) in
      let d2 = past s (string 2 tb) (kv ++ (head 0 1 ++ (kk ++ (ki ++ [])))) a1 d1 in
      let a3 = a2 + length kv in
      let d3 = past s kv (head 0 1 ++ (kk ++ (ki ++ []))) a2 d2 in
      let a4 = a3 + length (head 0 1) in
      let d4 = past s (head 0 1) (kk ++ (ki ++ [])) a3 d3 in
      let a5 = a4 + length kk in
      let d5 = past s kk (ki ++ []) a4 d4 in
      let a6 = a5 + length ki in
      let lk = gk.most in
      let li = gi.most in
      let k1 = a4 + length (text (ascii "kid")) + length (head 3 (length kb)) in
      let i1 = a5 + length (text (ascii "tid")) + length (head 3 (length ib)) in
      let c2 = name_field_written TokenKeys 4 (ascii "kid") (omega arith) refl s (ki ++ []) a4 kb gk d4 in
      let c3 = name_field_written TokenKeys 5 (ascii "tid") (omega arith) refl s [] a5 ib gi d5 in
      let l : a6 ≡ length s = whole a5 d5 in
      record {
        back = three_of (from_to (a1 + length h) a2) (from_to k1 a5) (from_to i1 a6);
        answer = rw (tag_written (kv ++ (head 0 1 ++ (kk ++ (ki ++ [])))) d0, version_written a2 (kk ++ (ki ++ [])) d2, c2, c3, eq-eqb a6 (length s) l);
        holds = record {
          tag_held = tag_lies a1 (kv ++ (head 0 1 ++ (kk ++ (ki ++ [])))) d1;
          kid_held = name_lies s (text (ascii "kid")) kb (ki ++ []) a4 (omega arith) d4;
          tid_held = name_lies s (text (ascii "tid")) ib [] a5 (omega arith) d5;
        };
      }

-- the whole token
pub record Written (s : List ℕ) (t : Token) : Type 0 where
  pub parts : TokenAt
  pub answer : token_of s ≡ Ok parts
  pub holds : Holds s t parts

pub token_written : (t : Token) → GoodToken t → (s : List ℕ) → s ≡ encode_token t → Written s t
unfolding token_bytes token_of
token_written t g s same =
    let n = length t.caveats in
    let cb = encode_caveats t.caveats in
    let rb = encode_scope t.scope in
    let kc = text (ascii "c") in
    let kr = text (ascii "r") in
    let back : List ℕ =
    text (ascii "s") ++ (string 2 t.tag ++ (text (ascii "v") ++ (head 0 1 ++ (entry "kid" (text t.kid) ++ (entry "tid" (text t.tid) ++ []))))) in
    let e : drop 0 s ≡ head 5 6 ++ (kc ++ (head 4 n ++ (cb ++ (kr ++ (rb ++ back))))) = same ∙ simp (append_assoc, append-nil) in
    let f = front_written t.caveats g.each g.few t.scope g.good_scope s back e in
    let r = back_written t.tag t.kid t.tid g.tag_long g.good_kid g.good_tid s f.front.scope.to f.behind in
    record {
      parts = both_of f.front r.back;
      answer = rw (f.answer, r.answer);
      holds = record { front = f.holds; back = r.holds };
    }
