-- A reading that ended well went well at each step: what the step found, and that the rest ended so.
use Rattle.std.specs.Prelude.{Ok, Err}
use Rattle.cbor_heads.specs.Defects.{Reading, after}
use mathlib.Core.Path.{◌≡◌, refl}
use mathlib.Core.Bool.{Bool, true, false}
use Prim.Native.Nat.{ℕ}
use native.Mathlib.Omega.{arith}
use Rattle.basis.specs.Basis.{pick}

pub record Went {A B : Type 0} (rest : A → Reading B) (i : Reading A) (x : B) : Type 0 where
  pub found : A
  pub was : i ≡ Ok found
  pub goes : rest found ≡ Ok x

pub went : {A B : Type 0} (rest : A → Reading B) (i : Reading A) {x : B} → after rest i ≡ Ok x → Went rest i x
went rest (Err d) e = let z : ◌≡◌ {A = ℕ} 0 1 = cc in let z : ⊥ = omega arith in elim z [ ]
went rest (Ok a) e = record { found = a; was = refl; goes = e }

-- a test of which one side is no way to x
module _ {A : Type 0} {x : A} (a b : A) where
  pub must_take : (b ≡ x → ⊥) → (t : Bool) → pick t a b ≡ x → (t ≡ true) × (a ≡ x)
  must_take never true e = (refl, e)
  must_take never false e = let z = never e in elim z [ ]

  pub must_pass : (a ≡ x → ⊥) → (t : Bool) → pick t a b ≡ x → (t ≡ false) × (b ≡ x)
  must_pass never true e = let z = never e in elim z [ ]
  must_pass never false e = (refl, e)
