-- A scope within limits that was written reads back, and the answer's parts hold exactly the scope's.
use Rattle.std.specs.Prelude.{Option as Maybe, Some, None, Ok}
use Rattle.cbor_heads.specs.declared.defect.Kind.TheVariants.{Unknown}
use mathlib.Core.Path.{◌≡◌, refl, sym, ap, ◌∙◌}
use mathlib.Core.List.{List, ◌++◌, append_assoc}
use mathlib.Core.Option.{Option, some, none}
use Prim.Native.Nat.{ℕ, ◌+◌, ◌-◌, ◌≤◌}
use native.Mathlib.Nat.{add-zero}
use native.Mathlib.Omega.{arith}
use borrow.Author.Tests.{le-ltb}
use lib.ListN.{length, drop, length-append}
use Rattle.basis.specs.Limits.{Number64}
use Rattle.basis.specs.Basis.{ascii, from_to}
use Rattle.cbor_values.specs.Lists.{list_of}
use Rattle.basis.proofs.Parts.{past, ends}
use Rattle.cbor_heads.specs.Heads.{head}
use Rattle.cbor_strings.specs.declared.Class.TheVariants.{Path}
use Rattle.cbor_heads.proofs.CountLaws.{head_there, count}
use Rattle.cbor_keys.specs.Keys.{keys_of}
use Rattle.cbor_keys.specs.Reading.{index_from}
use Rattle.cbor_keys.specs.Maps.{text, entry_if, present, IfPresent}
use Rattle.cbor_keys.specs.declared.Names.TheVariants.{Scope as ScopeKeys}
use Rattle.cbor_keys.proofs.KeyLaws.{key_written, wanted_written}
use Rattle.cbor_keys.proofs.FieldLaws.{number_field_written}
use Rattle.cbor_keys.proofs.TextLaws.{text_written, text_held}
use Rattle.token_scope.specs.Scopes.{Scope, encode_methods, encode_scope, GoodMethods, GoodPath, GoodScope}
use Rattle.token_scope.specs.Reading.{three_parts, max_bytes_then, limit_then, methods_then, prefix_next, prefix_then, first_then, entries_then, scope_of}
use Rattle.basis.specs.declared.Span.{Span}
use Rattle.cbor_values.specs.declared.ListAt.{ListAt}
use Rattle.token_scope.specs.declared.ScopeAt.{ScopeAt}
use Rattle.token_scope.proofs.MethodLaws.{methods_written, methods_lie}
use Rattle.token_scope.proofs.Holds.{limit_of, Holds}

limit_written : (mb : Option ℕ) → IfPresent Number64 mb → (s rest : List ℕ) (p : Maybe Span) (m : ListAt) → drop m.span.to s ≡ entry_if "max_bytes" (head 0) mb ++ rest
    → limit_then s p (present mb) m ≡ Ok (three_parts p m (limit_of mb), m.span.to + length (entry_if "max_bytes" (head 0) mb))
unfolding limit_then max_bytes_then keys_of index_from
limit_written none g s rest p m e = ap (λ (to : ℕ). Ok (three_parts p m None, to)) (sym (add-zero m.span.to))
limit_written (some n) g s rest p m e =
    rw (number_field_written ScopeKeys 2 (ascii "max_bytes") (omega arith) refl s rest m.span.to n 0xffffffffffffffff (omega arith) g e)

module _ (ms : List (List ℕ)) (gm : GoodMethods ms) (mb : Option ℕ) (gb : IfPresent Number64 mb) (s rest : List ℕ) (p : Maybe Span) (at : ℕ) where
  abbrev tail : List ℕ
  tail = encode_methods ms ++ entry_if "max_bytes" (head 0) mb

  abbrev found : ListAt
  found = list_of (length ms) (from_to (at + length (head 4 (length ms))) (at + length (encode_methods ms)))

  -- methods and max_bytes, from the methods' value on
  tail_written : drop at s ≡ tail ++ rest
      → methods_then s p (present mb) at ≡ Ok (three_parts p found (limit_of mb), at + length tail)
  unfolding methods_then
  tail_written e =
      let l = entry_if "max_bytes" (head 0) mb in
      let f = e ∙ append_assoc (encode_methods ms) l rest in
      let d = past s (encode_methods ms) (l ++ rest) at f in
      rw (methods_written ms gm s (l ++ rest) at f)
      (limit_written mb gb s rest p found d ∙ ap (λ (to : ℕ). Ok (three_parts p found (limit_of mb), to)) (ends (encode_methods ms) l at))

-- what a reading found of a scope that stands at `at`
pub record Written (s : List ℕ) (at : ℕ) (x : Scope) : Type 0 where
  pub parts : ScopeAt
  pub answer : scope_of s at ≡ Ok (parts, at + length (encode_scope x))
  pub holds : Holds s x parts

few : (mb : Option ℕ) → present mb ≤ 1
few none = omega arith
few (some n) = omega arith

abbrev pub scope : Option (List ℕ) → List (List ℕ) → Option ℕ → Scope
scope o ms mb = record { prefix = o; methods = ms; max_bytes = mb }

module _ (ms : List (List ℕ)) (gm : GoodMethods ms) (mb : Option ℕ) (gb : IfPresent Number64 mb) (s rest : List ℕ) (at : ℕ) where
  abbrev key : List ℕ
  key = text (ascii "methods")

  abbrev list : List ℕ
  list = encode_methods ms

  abbrev limit : List ℕ
  limit = entry_if "max_bytes" (head 0) mb

  without : drop at s ≡ encode_scope (scope none ms mb) ++ rest → Written s at (scope none ms mb)
  unfolding encode_scope scope_of entries_then first_then keys_of index_from
  without e =
      let n = 0 + 1 + present mb in
      let q : n - 1 ≡ present mb = omega arith in
      let h = head 5 n in
      let m = few mb in
      let d0 : drop at s ≡ h ++ (key ++ ((list ++ limit) ++ rest)) = simp append_assoc (simp append_assoc at e) in
      let a1 = at + length h in
      let d1 = past s h (key ++ ((list ++ limit) ++ rest)) at d0 in
      let a2 = a1 + length key in
      let d2 = past s key ((list ++ limit) ++ rest) a1 d1 in
      let c = sym (count s at 5 1 3 Unknown (head_there s (key ++ ((list ++ limit) ++ rest)) at 5 n d0 (omega arith)) refl (omega arith) (omega arith)) in
      let k = key_written ScopeKeys (ascii "methods") (omega arith) 1 refl s ((list ++ limit) ++ rest) a1 d1 in
      let t = tail_written ms gm mb gb s rest None a2 d2 in
      let parts = three_parts None (list_of (length ms) (from_to (a2 + length (head 4 (length ms))) (a2 + length list))) (limit_of mb) in
      record {
        parts = parts;
        answer = rw (c, k, q) (t ∙ ap (λ (to : ℕ). Ok (parts, to)) (simp length-append (omega arith)));
        holds = record { prefix_held = tt; counted_so = refl; methods_held = methods_lie ms s (limit ++ rest) a2 (d2 ∙ append_assoc list limit rest); limit_held = refl };
      }

  within : (p : List ℕ) → GoodPath p → drop at s ≡ encode_scope (scope (some p) ms mb) ++ rest → Written s at (scope (some p) ms mb)
  unfolding encode_scope scope_of entries_then first_then prefix_then prefix_next keys_of index_from
  within p gp e =
      let n = 1 + 1 + present mb in
      let q : n - 2 ≡ present mb = omega arith in
      let h = head 5 n in
      let m = few mb in
      let lp = gp.most in
      let first = text (ascii "prefix") in
      let d0 : drop at s ≡ h ++ (first ++ (text p ++ (key ++ ((list ++ limit) ++ rest)))) = simp append_assoc (simp append_assoc at e) in
      let a1 = at + length h in
      let d1 = past s h (first ++ (text p ++ (key ++ ((list ++ limit) ++ rest)))) at d0 in
      let a2 = a1 + length first in
      let d2 = past s first (text p ++ (key ++ ((list ++ limit) ++ rest))) a1 d1 in
      let from = a2 + length (head 3 (length p)) in
      let a3 = a2 + length (text p) in
      let d3 = past s (text p) (key ++ ((list ++ limit) ++ rest)) a2 d2 in
      let a4 = a3 + length key in
      let d4 = past s key ((list ++ limit) ++ rest) a3 d3 in
      let c = sym (count s at 5 1 3 Unknown (head_there s (first ++ (text p ++ (key ++ ((list ++ limit) ++ rest)))) at 5 n d0 (omega arith)) refl (omega arith) (omega arith)) in
      let k = key_written ScopeKeys (ascii "prefix") (omega arith) 0 refl s (text p ++ (key ++ ((list ++ limit) ++ rest))) a1 d1 in
      let x = text_written Path 1 256 p gp (omega arith) s (key ++ ((list ++ limit) ++ rest)) a2 d2 in
      let w = wanted_written ScopeKeys (ascii "methods") (omega arith) 1 refl s ((list ++ limit) ++ rest) a3 d3 in
      let t = tail_written ms gm mb gb s rest (Some (from_to from a3)) a4 d4 in
      let parts = three_parts (Some (from_to from a3)) (list_of (length ms) (from_to (a4 + length (head 4 (length ms))) (a4 + length list))) (limit_of mb) in
      record {
        parts = parts;
        answer = rw (c, k, x, le-ltb n 2 (omega arith), w, q) (t ∙ ap (λ (to : ℕ). Ok (parts, to)) (simp length-append (omega arith)));
        holds = record {
          prefix_held = text_held p (omega arith) s (key ++ ((list ++ limit) ++ rest)) a2 d2;
          counted_so = refl;
          methods_held = methods_lie ms s (limit ++ rest) a4 (d4 ∙ append_assoc list limit rest);
          limit_held = refl;
        };
      }

scope_by : (o : Option (List ℕ)) (ms : List (List ℕ)) (mb : Option ℕ) → GoodScope (scope o ms mb) → (s rest : List ℕ) (at : ℕ)
    → drop at s ≡ encode_scope (scope o ms mb) ++ rest → Written s at (scope o ms mb)
scope_by none ms mb g s rest at e = without ms g.good_methods mb g.good_max_bytes s rest at e
scope_by (some p) ms mb g s rest at e = within ms g.good_methods mb g.good_max_bytes s rest at p g.good_prefix e

pub scope_written : (x : Scope) → GoodScope x → (s rest : List ℕ) (at : ℕ) → drop at s ≡ encode_scope x ++ rest → Written s at x
scope_written x g s rest at e = scope_by x.prefix x.methods x.max_bytes g s rest at e
