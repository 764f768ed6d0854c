-- One scope for one encoding: what the parts hold settles the scope, and so does its encoding.
use Rattle.std.specs.Prelude.{Ok}
use Rattle.basis.proofs.Pairs.{ok_pair, some_same}
use Rattle.cbor_heads.specs.Defects.{Reading}
use mathlib.Core.Path.{◌≡◌, refl, sym, ap, ap₂, subst, ◌∙◌}
use mathlib.Core.List.{List, ◌++◌}
use mathlib.Core.Option.{Option, some, none}
use Prim.Native.Nat.{ℕ}
use native.Mathlib.Omega.{arith}
use lib.ListN.{drop}
use Rattle.basis.proofs.Parts.{one_rest}
use Rattle.token_scope.specs.Scopes.{Scope, encode_scope, GoodScope}
use Rattle.basis.proofs.Held.{part_held_one}
use Rattle.token_scope.specs.declared.ScopeAt.{ScopeAt}
use Rattle.token_scope.proofs.MethodLaws.{methods_one}
use Rattle.token_scope.proofs.Holds.{limit_of, Holds}
use Rattle.token_scope.proofs.ScopeWritten.{scope, scope_written}

limit_one : (o p : Option ℕ) → limit_of o ≡ limit_of p → o ≡ p
limit_one none none e = refl
limit_one none (some n) e = let z : ◌≡◌ {A = ℕ} 0 1 = cc in let z : ⊥ = omega arith in elim z [ ]
limit_one (some n) none e = let z : ◌≡◌ {A = ℕ} 0 1 = cc in let z : ⊥ = omega arith in elim z [ ]
limit_one (some n) (some m) e = ap some (some_same e)

-- the parts settle the scope
module _ (s : List ℕ) (x y : Scope) (gx : GoodScope x) (gy : GoodScope y) {a b : ScopeAt} {n m : ℕ} where
  pub holds_one : Holds s x a → Holds s y b → ◌≡◌ {A = Reading (ScopeAt × ℕ)} (Ok (a, n)) (Ok (b, m)) → x ≡ y
  holds_one hx hy e =
      let j = (ok_pair e).0 in
      let h = subst (Holds s x) j hx in
      let q = part_held_one s x.prefix y.prefix b.prefix h.prefix_held hy.prefix_held in
      let r =
      methods_one x.methods y.methods gx.good_methods.each gy.good_methods.each (h.counted_so ∙ sym hy.counted_so) (drop b.methods.span.to s)
      (drop b.methods.span.to s) (sym h.methods_held ∙ hy.methods_held) in
      let v = limit_one x.max_bytes y.max_bytes (h.limit_held ∙ sym hy.limit_held) in
      ap₂ (λ (o : Option (List ℕ)) (r : List (List ℕ) × Option ℕ). scope o r.0 r.1) q (ap₂ (λ (a : List (List ℕ)) (b : Option ℕ). (a, b)) r v)

-- one scope for one encoding, whatever stands behind
pub scope_one : (x y : Scope) → GoodScope x → GoodScope y → (t u : List ℕ) → encode_scope x ++ t ≡ encode_scope y ++ u → (x ≡ y) × (t ≡ u)
scope_one x y gx gy t u e =
    let s = encode_scope x ++ t in
    let a = scope_written x gx s t 0 refl in
    let b = scope_written y gy s u 0 e in
    let q = holds_one s x y gx gy a.holds b.holds (sym a.answer ∙ b.answer) in
    (q, one_rest (encode_scope x) (encode_scope y) t u (ap encode_scope q) e)
