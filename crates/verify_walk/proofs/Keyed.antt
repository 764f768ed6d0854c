-- The checks behind the key: what each of them decides, in the terms that the code has.
use mathlib.Core.Path.{◌≡◌}
use mathlib.Core.Bool.{true, false}
use mathlib.Core.List.{List}
use Prim.Native.Nat.{ℕ}
use native.Mathlib.Omega.{arith}
use borrow.Author.Tests.{eq-eqb, ne_eqb}
use lib.ListN.{length-drop, length-take}
use Rattle.basis.specs.Basis.{between}
use Rattle.basis.specs.Same.{same_of}
use Rattle.hash_chain.specs.Inner.{FirstOf}
use Rattle.records_request.specs.declared.RequestAt.{RequestAt}
use Rattle.token.specs.declared.TokenAt.{TokenAt}
use Rattle.verify_walk.specs.Walking.{so_far, walked_of, scope_answered, tenant_judged, tag_judged, link_first, key_judged}
use Rattle.verify_walk.specs.Ready.{Ready}
use Rattle.verify_walk.specs.Walking.{Walked}

pub first_ready : (key s : List ℕ) (p : TokenAt) {tid kid scope : List ℕ} → Ready key s p → tid ≡ between s p.tid → kid ≡ between s p.kid → scope ≡ between s p.scope
    → FirstOf key tid kid scope
first_ready key s p w et ek es =
    let l = w.walkable.short in
    record {
      keyed = w.walkable.key_long;
      tenant = rw et w.tid_short;
      named = rw ek w.kid_short;
      scoped = rw es (simp (length-take, length-drop) (omega arith));
    }

module _ (key s : List ℕ) (p : TokenAt) (body : List ℕ) (q : RequestAt) {tid first tag : List ℕ} {w : Walked} (et : tid ≡ between s p.tid)
    (ef : first ≡ link_first key s p) (ew : w ≡ walked_of s p.caveats key body q tid first) (eg : tag ≡ between s p.tag) where
  whole : tag_judged tag tid (between body q.tenant) (scope_answered s p.scope.from body q) w ≡ key_judged key s p body q
  unfolding key_judged
  whole = rw (eg, ew, ef, et)

  pub other_tag : same_of w.link tag ≡ false → 8 ≡ key_judged key s p body q
  other_tag e = rw e at whole

  module _ (e : same_of w.link tag ≡ true) {tenant : List ℕ} (en : tenant ≡ between body q.tenant) where
    right_tag : tenant_judged tid tenant (scope_answered s p.scope.from body q) w.answer ≡ key_judged key s p body q
    right_tag = rw en (rw e at whole)

    pub other_tenant : same_of tid tenant ≡ false → 9 ≡ key_judged key s p body q
    unfolding tenant_judged
    other_tenant f = rw f at right_tag

    module _ (f : same_of tid tenant ≡ true) {answer : ℕ} (g : answer ≡ scope_answered s p.scope.from body q) where
      own_tenant : so_far answer w.answer ≡ key_judged key s p body q
      unfolding tenant_judged
      own_tenant = rw (f, ← g) at right_tag

      pub scope_fails : (answer ≡ 0 → ⊥) → answer ≡ key_judged key s p body q
      unfolding so_far
      scope_fails h = rw (ne_eqb answer 0 h) at own_tenant

      pub scope_holds : answer ≡ 0 → w.answer ≡ key_judged key s p body q
      unfolding so_far
      scope_holds h = rw (eq-eqb answer 0 h) at own_tenant
