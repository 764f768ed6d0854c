-- What reads well as a scope is a scope within limits, written, and the answer's parts hold what is its.
use Rattle.std.specs.Prelude.{Option as Maybe, Some, None, Ok}
use Rattle.basis.proofs.Pairs.{ok_pair}
use Rattle.cbor_heads.specs.Defects.{Reading, bad, after}
use Rattle.cbor_heads.specs.declared.defect.Kind.TheVariants.{Cbor, Unknown}
use mathlib.Core.Path.{◌≡◌, refl, sym, ap, subst, ◌∙◌}
use mathlib.Core.Bool.{Bool, true, false}
use mathlib.Core.List.{List, ◌++◌, append_assoc}
use mathlib.Core.Option.{Option, some, none}
use Prim.Native.Nat.{ℕ, ◌+◌, ◌-◌}
use native.Mathlib.Omega.{arith}
use borrow.Author.Tests.{eqb-true, ltb-false}
use lib.Dec.{eqb, ltb}
use lib.ListN.{length, drop}
use Rattle.basis.specs.Limits.{Number64}
use Rattle.basis.specs.Basis.{pick, ascii, IsBytes}
use Rattle.basis.proofs.Parts.{on}
use Rattle.basis.proofs.Held.{PartHeld}
use Rattle.cbor_heads.specs.Heads.{head}
use Rattle.cbor_strings.specs.Reading.{read_string}
use Rattle.cbor_heads.specs.Counts.{read_count}
use Rattle.cbor_strings.specs.declared.Class.TheVariants.{Path}
use Rattle.cbor_heads.proofs.CountLaws.{there_head, counted}
use Rattle.cbor_keys.specs.Keys.{keys_of}
use Rattle.cbor_keys.specs.Reading.{key_at, wanted_key}
use Rattle.cbor_keys.specs.Fields.{number_field}
use Rattle.cbor_keys.specs.Maps.{text, texts, entry_if, present, IfPresent}
use Rattle.cbor_keys.specs.declared.Names.TheVariants.{Scope as ScopeKeys}
use Rattle.cbor_keys.proofs.KeyLaws.{named_read, wanted_read}
use Rattle.cbor_keys.proofs.FieldLaws.{number_field_read}
use Rattle.cbor_keys.proofs.TextLaws.{text_read}
use Rattle.cbor_keys.proofs.StepLaws.{went, must_take, must_pass}
use Rattle.token_scope.specs.Scopes.{Scope, encode_methods, encode_scope, GoodMethods, GoodScope}
use Rattle.token_scope.specs.Methods.{methods_of}
use Rattle.token_scope.specs.Reading.{three_parts, max_bytes_then, limit_then, methods_then, prefix_next, prefix_then, first_then, entries_then, scope_of}
use Rattle.basis.specs.declared.Span.{Span}
use Rattle.cbor_values.specs.declared.ListAt.{ListAt}
use Rattle.token_scope.specs.declared.ScopeAt.{ScopeAt}
use Rattle.token_scope.proofs.MethodLaws.{methods_read}
use Rattle.token_scope.proofs.Holds.{limit_of, Holds}
use Rattle.token_scope.proofs.ScopeWritten.{scope_written}

-- a scope within limits stands from `at` to `next`, and the parts hold what is its
pub record IsScope (s : List ℕ) (at : ℕ) (parts : ScopeAt) (next : ℕ) : Type 0 where
  pub tree : Scope
  pub good : GoodScope tree
  pub there : drop at s ≡ encode_scope tree ++ drop next s
  pub holds : Holds s tree parts

-- methods and max_bytes from `at` to `next`, `left` entries behind the methods
record IsTail (s : List ℕ) (at left : ℕ) (prefix : Maybe Span) (parts : ScopeAt) (next : ℕ) : Type 0 where
  pub methods : List (List ℕ)
  pub max_bytes : Option ℕ
  pub good_methods : GoodMethods methods
  pub good_max_bytes : IfPresent Number64 max_bytes
  pub left_so : present max_bytes ≡ left
  pub list : ListAt
  pub counted_so : length methods ≡ list.count
  pub held : drop list.span.from s ≡ texts methods ++ drop list.span.to s
  pub are : three_parts prefix list (limit_of max_bytes) ≡ parts
  pub there : drop at s ≡ encode_methods methods ++ (entry_if "max_bytes" (head 0) max_bytes ++ drop next s)

module _ (s : List ℕ) (b : IsBytes s) (parts : ScopeAt) (next : ℕ) where
  abbrev Ended : Reading (ScopeAt × ℕ) → Type 0
  Ended r = r ≡ Ok (parts, next)

  never : (at : ℕ) → Ended (bad Cbor at) → ⊥
  never at e = let z : ◌≡◌ {A = ℕ} 0 1 = cc in omega arith

  another : (at : ℕ) → Ended (after (λ another. bad Cbor at) (key_at ScopeKeys s at)) → ⊥
  another at e = never at (went (λ another. bad Cbor at) (key_at ScopeKeys s at) e).goes

  module _ (at : ℕ) (m : ListAt) (found : methods_of s at ≡ Ok m) (p : Maybe Span) where
    ends_there : (left : ℕ) → left ≡ 0 → Ended (Ok (three_parts p m None, m.span.to)) → IsTail s at left p parts next
    ends_there left z e =
        let v = methods_read s b at found in
        let j = (ok_pair e).0 in
        let x = (ok_pair e).1 in
        record {
          methods = v.methods;
          max_bytes = none;
          good_methods = v.good;
          good_max_bytes = tt;
          left_so = sym z;
          list = m;
          counted_so = v.few;
          held = v.begins;
          are = j;
          there = rw (← x) v.there;
        }

    max_there : (left : ℕ) → left ≡ 1 → (n q : ℕ) → number_field ScopeKeys s m.span.to 2 0xffffffffffffffff ≡ Ok (n, q)
        → Ended (Ok (three_parts p m (Some n), q)) → IsTail s at left p parts next
    unfolding keys_of
    max_there left z n q r e =
        let v = methods_read s b at found in
        let u = number_field_read ScopeKeys 2 s b m.span.to 0xffffffffffffffff r in
        let j = (ok_pair e).0 in
        let x = (ok_pair e).1 in
        record {
          methods = v.methods;
          max_bytes = some n;
          good_methods = v.good;
          good_max_bytes = omega (arith, u.few);
          left_so = sym z;
          list = m;
          counted_so = v.few;
          held = v.begins;
          are = j;
          there = rw (← x, ← u.there) v.there;
        }

    behind_methods : (left : ℕ) (y : Bool) → eqb left 0 ≡ y
        → Ended (pick y (Ok (three_parts p m None, m.span.to)) (after (max_bytes_then s p m left) (number_field ScopeKeys s m.span.to 2 0xffffffffffffffff)))
        → IsTail s at left p parts next
    unfolding max_bytes_then
    behind_methods left true y e = ends_there left (eqb-true left 0 y) e
    behind_methods left false y e =
        let w = went (max_bytes_then s p m left) (number_field ScopeKeys s m.span.to 2 0xffffffffffffffff) e in
        let n = w.found.0 in
        let q = w.found.1 in
        let l = must_take (Ok (three_parts p m (Some n), q)) (after (λ another. bad Cbor q) (key_at ScopeKeys s q)) (another q) (eqb left 1) w.goes in
        max_there left (eqb-true left 1 l.0) n q w.was l.1

  tail_read : (at : ℕ) (p : Maybe Span) (left : ℕ) → Ended (methods_then s p left at) → IsTail s at left p parts next
  unfolding methods_then limit_then
  tail_read at p left e =
      let w = went (limit_then s p left) (methods_of s at) e in
      behind_methods at w.found w.was p left (eqb left 0) refl w.goes

  -- the parts hold what the prefix and the tail are
  held_so : (at left : ℕ) (p : Maybe Span) (o : Option (List ℕ)) → PartHeld s o p → (v : IsTail s at left p parts next)
      → Holds s (record { prefix = o; methods = v.methods; max_bytes = v.max_bytes }) parts
  held_so at left p o h v =
      subst (Holds s (record { prefix = o; methods = v.methods; max_bytes = v.max_bytes })) v.are
      (record { prefix_held = h; counted_so = v.counted_so; methods_held = v.held; limit_held = refl })

  first_methods : (at n p q : ℕ) → read_count s at 5 1 3 Unknown ≡ Ok (n, p) → key_at ScopeKeys s p ≡ Ok (1, q) → Ended (methods_then s None (n - 1) q)
      → IsScope s at parts next
  unfolding encode_scope keys_of
  first_methods at n p q c d e =
      let h = counted s at 5 1 3 Unknown c in
      let v = tail_read q None (n - 1) e in
      let w : n ≡ 0 + 1 + present v.max_bytes = rw v.left_so (omega (arith, h.enough)) in
      let x = on (head 5 n) (there_head s b at h.headed) (on (text (ascii "methods")) (named_read ScopeKeys 1 s b p d) v.there) in
      record {
        tree = record { prefix = none; methods = v.methods; max_bytes = v.max_bytes };
        good = record { good_prefix = tt; good_methods = v.good_methods; good_max_bytes = v.good_max_bytes };
        there = rw (← w) (simp append_assoc (simp append_assoc at x));
        holds = held_so q (n - 1) None none tt v;
      }

  first_prefix : (at n p q : ℕ) → read_count s at 5 1 3 Unknown ≡ Ok (n, p) → key_at ScopeKeys s p ≡ Ok (0, q)
      → (part : Span) → read_string s q Path 1 256 ≡ Ok part → ltb n 2 ≡ false → (value : ℕ) → wanted_key ScopeKeys s part.to 1 ≡ Ok value
      → Ended (methods_then s (Some part) (n - 2) value) → IsScope s at parts next
  unfolding encode_scope keys_of
  first_prefix at n p q c d part f g value i e =
      let h = counted s at 5 1 3 Unknown c in
      let y = text_read Path 1 256 s b q f in
      let v = tail_read value (Some part) (n - 2) e in
      let w : n ≡ 1 + 1 + present v.max_bytes = rw v.left_so (omega (arith, ltb-false n 2 g)) in
      let x =
      on (head 5 n) (there_head s b at h.headed) (
      on (text (ascii "prefix")) (named_read ScopeKeys 0 s b p d) (
      on (text y.tree) y.there (on (text (ascii "methods")) (wanted_read ScopeKeys 1 s b part.to i) v.there)
      )
      ) in
      record {
        tree = record { prefix = some y.tree; methods = v.methods; max_bytes = v.max_bytes };
        good = record { good_prefix = y.good; good_methods = v.good_methods; good_max_bytes = v.good_max_bytes };
        there = rw (← w) (simp append_assoc (simp append_assoc at x));
        holds = held_so value (n - 2) (Some part) (some y.tree) y.held v;
      }

  prefix_first : (at n p q : ℕ) → read_count s at 5 1 3 Unknown ≡ Ok (n, p) → key_at ScopeKeys s p ≡ Ok (0, q) → Ended (prefix_then s at n q) → IsScope s at parts next
  unfolding prefix_then prefix_next
  prefix_first at n p q c d e =
      let f = went (prefix_next s at n) (read_string s q Path 1 256) e in
      let rest = after (methods_then s (Some f.found) (n - 2)) (wanted_key ScopeKeys s f.found.to 1) in
      let g = must_pass (bad Cbor at) rest (never at) (ltb n 2) f.goes in
      let i = went (methods_then s (Some f.found) (n - 2)) (wanted_key ScopeKeys s f.found.to 1) g.1 in
      first_prefix at n p q c d f.found f.was g.0 i.found i.was i.goes

  scope_first : (at n p i q : ℕ) → read_count s at 5 1 3 Unknown ≡ Ok (n, p) → key_at ScopeKeys s p ≡ Ok (i, q) → (u v : Bool) → eqb i 0 ≡ u → eqb i 1 ≡ v
      → Ended (pick u (prefix_then s at n q) (pick v (methods_then s None (n - 1) q) (bad Cbor p))) → IsScope s at parts next
  scope_first at n p i q c d true v x y e = prefix_first at n p q c (d ∙ ap (λ (j : ℕ). Ok (j, q)) (eqb-true i 0 x)) e
  scope_first at n p i q c d false true x y e = first_methods at n p q c (d ∙ ap (λ (j : ℕ). Ok (j, q)) (eqb-true i 1 y)) e
  scope_first at n p i q c d false false x y e = let z = never p e in elim z [ ]

pub scope_read : (s : List ℕ) → IsBytes s → (at : ℕ) {parts : ScopeAt} {next : ℕ} → scope_of s at ≡ Ok (parts, next)
    → IsScope s at parts next
unfolding scope_of entries_then first_then
scope_read s b at {parts} {next} e =
    let c = went (entries_then s at) (read_count s at 5 1 3 Unknown) e in
    let d = went (first_then s at c.found.0 c.found.1) (key_at ScopeKeys s c.found.1) c.goes in
    scope_first s b parts next at c.found.0 c.found.1 d.found.0 d.found.1 c.was d.was (eqb d.found.0 0) (eqb d.found.0 1) refl refl d.goes

-- where a scope that was read ends
pub scope_long : (s : List ℕ) (at : ℕ) (x : Scope) → GoodScope x → {parts : ScopeAt} {next : ℕ} → scope_of s at ≡ Ok (parts, next)
    → drop at s ≡ encode_scope x ++ drop next s → at + length (encode_scope x) ≡ next
scope_long s at x g {parts} {next} e d =
    let w = scope_written x g s (drop next s) at d in
    (ok_pair (sym w.answer ∙ e)).1
