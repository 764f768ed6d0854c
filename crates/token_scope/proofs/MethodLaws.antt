-- Method lists both ways: a list within limits that was written reads back, and what reads well is such a list, written.
use Rattle.std.specs.Prelude.{Ok}
use Rattle.basis.proofs.Pairs.{ok_same}
use Rattle.cbor_heads.specs.declared.defect.Kind.TheVariants.{Bounds}
use mathlib.Core.Path.{◌≡◌, refl, sym, ap, ap₂, subst, ◌∙◌}
use mathlib.Core.List.{List, [], ◌∷◌, ◌++◌, append_assoc}
use Prim.Native.Nat.{ℕ, zero, suc, ◌+◌}
use native.Mathlib.Nat.{add-zero}
use native.Mathlib.Omega.{arith}
use lib.ListN.{length, drop}
use Rattle.basis.specs.Basis.{from_to, IsBytes}
use Rattle.basis.specs.declared.Span.{Span}
use Rattle.basis.proofs.Parts.{past, ends}
use Rattle.cbor_values.specs.Lists.{list_of}
use Rattle.cbor_values.specs.declared.ListAt.{ListAt}
use Rattle.cbor_heads.specs.Heads.{head}
use Rattle.cbor_strings.specs.Reading.{read_string}
use Rattle.cbor_heads.specs.Counts.{read_count}
use Rattle.cbor_strings.specs.declared.Class.TheVariants.{Upper}
use Rattle.cbor_heads.proofs.CountLaws.{head_there, there_head, count, counted}
use Rattle.cbor_values.specs.Reading.{items_of}
use Rattle.cbor_keys.specs.Maps.{text, texts, GoodText}
use Rattle.token_scope.specs.Scopes.{encode_methods, AllMethods, GoodMethods}
use Rattle.cbor_keys.proofs.StepLaws.{went}
use Rattle.cbor_keys.proofs.TextLaws.{text_written, IsText, text_read, text_one}
use Rattle.token_scope.specs.Methods.{methods_by, methods_of}
use Rattle.token_scope.specs.Fields.{method_at}

method_there : (s m rest : List ℕ) (at : ℕ) → GoodText Upper 1 16 m → drop at s ≡ text m ++ rest → method_at s at ≡ Ok (at + length (text m))
method_there s m rest at g e =
    rw (text_written Upper 1 16 m g (omega arith) s rest at e)

methods_there : (ms : List (List ℕ)) → AllMethods ms → (s rest : List ℕ) (at : ℕ) → drop at s ≡ texts ms ++ rest
    → items_of (method_at s) (length ms) at ≡ Ok (at + length (texts ms))
unfolding AllMethods texts items_of
methods_there [] g s rest at e = ap Ok (sym (add-zero at))
methods_there (m ∷ ms) g s rest at e =
    let f = e ∙ append_assoc (text m) (texts ms) rest in
    rw (method_there s m (texts ms ++ rest) at g.0 f)
    (methods_there ms g.1 s rest (at + length (text m)) (past s (text m) (texts ms ++ rest) at f) ∙ ap Ok (ends (text m) (texts ms) at))

pub methods_written : (ms : List (List ℕ)) → GoodMethods ms → (s rest : List ℕ) (at : ℕ) → drop at s ≡ encode_methods ms ++ rest
    → methods_of s at ≡ Ok (list_of (length ms) (from_to (at + length (head 4 (length ms))) (at + length (encode_methods ms))))
unfolding encode_methods methods_by
methods_written ms g s rest at e =
    let l = g.few in
    let h = head 4 (length ms) in
    let f = e ∙ append_assoc h (texts ms) rest in
    let r = sym (count s at 4 0 16 Bounds (head_there s (texts ms ++ rest) at 4 (length ms) f (omega arith)) refl (omega arith) l) in
    rw (r, methods_there ms g.each s rest (at + length h) (past s h (texts ms ++ rest) at f)) (ap (λ (to : ℕ). Ok (list_of (length ms) (from_to (at + length h) to))) (ends h (texts ms) at))

-- the methods lie behind their array's head
pub methods_lie : (ms : List (List ℕ)) (s rest : List ℕ) (at : ℕ) → drop at s ≡ encode_methods ms ++ rest
    → drop (at + length (head 4 (length ms))) s ≡ texts ms ++ drop (at + length (encode_methods ms)) s
unfolding encode_methods
methods_lie ms s rest at e =
    let h = head 4 (length ms) in
    past s h (texts ms ++ drop (at + length (encode_methods ms)) s) at (e ∙ rw (past s (encode_methods ms) rest at e, append_assoc))

method_read : (s : List ℕ) → IsBytes s → (at to : ℕ) → method_at s at ≡ Ok to → (part : Span) × IsText Upper 1 16 s at part × (part.to ≡ to)
method_read s b at to e =
    let w = went (λ part. Ok part.to) (read_string s at Upper 1 16) e in
    (w.found, text_read Upper 1 16 s b at w.was, ok_same w.goes)

record AreMethods (s : List ℕ) (k at to : ℕ) : Type 0 where
  pub trees : List (List ℕ)
  pub counted_so : length trees ≡ k
  pub good : AllMethods trees
  pub there : drop at s ≡ texts trees ++ drop to s

methods_read_from : (s : List ℕ) → IsBytes s → (k at to : ℕ) → items_of (method_at s) k at ≡ Ok to → AreMethods s k at to
unfolding AllMethods texts items_of
methods_read_from s b zero at to e = record { trees = []; counted_so = refl; good = tt; there = ap (λ (i : ℕ). drop i s) (ok_same e) }
methods_read_from s b (suc k) at to e =
    let w = went (items_of (method_at s) k) (method_at s at) e in
    let r = method_read s b at w.found w.was in
    let v = r.1 in
    let vs = methods_read_from s b k w.found to w.goes in
    record {
      trees = v.tree ∷ vs.trees;
      counted_so = ap suc vs.counted_so;
      good = (v.good, vs.good);
      there = v.there ∙ ap (λ (t : List ℕ). text v.tree ++ t) (ap (λ (i : ℕ). drop i s) r.2 ∙ vs.there) ∙ sym (append_assoc (text v.tree) (texts vs.trees) (drop to s));
    }

-- a method list within limits begins at `at`, and its methods lie where they were found
pub record IsMethods (s : List ℕ) (at : ℕ) (list : ListAt) : Type 0 where
  pub methods : List (List ℕ)
  pub few : length methods ≡ list.count
  pub good : GoodMethods methods
  pub begins : drop list.span.from s ≡ texts methods ++ drop list.span.to s
  pub there : drop at s ≡ encode_methods methods ++ drop list.span.to s

pub methods_read : (s : List ℕ) → IsBytes s → (at : ℕ) {list : ListAt} → methods_of s at ≡ Ok list → IsMethods s at list
unfolding methods_by encode_methods
methods_read s b at e =
    let a = went (methods_by s) (read_count s at 4 0 16 Bounds) e in
    let n = a.found.0 in
    let f = a.found.1 in
    let w = went (λ to. Ok (list_of n (from_to f to))) (items_of (method_at s) n f) a.goes in
    let c = counted s at 4 0 16 Bounds a.was in
    let v = methods_read_from s b n f w.found w.was in
    let h = there_head s b at c.headed in
    subst (IsMethods s at) (ok_same w.goes)
    (record {
      methods = v.trees;
      few = v.counted_so;
      good = record { few = rw v.counted_so c.few; each = v.good };
      begins = v.there;
      there = rw (v.counted_so, append_assoc, ← v.there) h;
    })

-- one list for one encoding: as many methods within limits, written at the front of one string, are the same
pub methods_one : (xs ys : List (List ℕ)) → AllMethods xs → AllMethods ys → length xs ≡ length ys → (t u : List ℕ) → texts xs ++ t ≡ texts ys ++ u → xs ≡ ys
unfolding AllMethods texts
methods_one [] [] g h l t u e = refl
methods_one [] (y ∷ ys) g h l t u e = let z : ⊥ = omega arith in elim z [ ]
methods_one (x ∷ xs) [] g h l t u e = let z : ⊥ = omega arith in elim z [ ]
methods_one (x ∷ xs) (y ∷ ys) g h l t u e =
    let lx = g.0.most in
    let ly = h.0.most in
    let f = sym (append_assoc (text x) (texts xs) t) ∙ e ∙ append_assoc (text y) (texts ys) u in
    let o = text_one x y (omega arith) (omega arith) (texts xs ++ t) (texts ys ++ u) f in
    ap₂ ◌∷◌ o.0 (methods_one xs ys g.1 h.1 (omega arith) t u o.1)
