-- A test that holds of every number below n, by computation: how a table's rule is proved once.
use mathlib.Core.Path.{◌≡◌, refl}
use mathlib.Core.Bool.{Bool, true, false}
use Prim.Native.Nat.{ℕ, zero, suc, ◌<◌}
use native.Mathlib.Omega.{arith}
use lib.Dec.{eqb}
use borrow.Author.Tests.{eqb-true, eqb-false}
use Rattle.basis.specs.Basis.{pick}

unfoldable pub all : ℕ → (ℕ → Bool) → Bool
all zero f = true
all (suc n) f = pick (f n) (all n f) false

pub all_at : (n : ℕ) (f : ℕ → Bool) → all n f ≡ true → (i : ℕ) → i < n → f i ≡ true
unfolding all
all_at zero f e i h = let z : ⊥ = omega arith in elim z [ ]
all_at (suc n) f e i h = by (f n) refl (eqb i n) refl e (all_at n f)
  where
    by : (b : Bool) → f n ≡ b → (c : Bool) → eqb i n ≡ c → pick b (all n f) false ≡ true
        → (all n f ≡ true → (i : ℕ) → i < n → f i ≡ true) → f i ≡ true
    by true p true q e r = rw (eqb-true i n q) p
    by true p false q e r = r e i (omega (arith, eqb-false i n q))
    by false p c q e r = let z : ◌≡◌ {A = Bool} false true = e in cc
