-- The order that std has of byte strings, and so of pairs of ids, is that of the rows.
use mathlib.Core.Path.{◌≡◌, refl}
use mathlib.Core.Bool.{Bool, true, false, not, ◌&&◌, ◌||◌}
use mathlib.Core.List.{List, [], ◌∷◌}
use Prim.Native.Nat.{ℕ}
use native.Mathlib.Omega.{arith}
use borrow.Author.Tests.{ltb-true, ltb-false, eq-eqb, ne_eqb}
use lib.Dec.{ltb}
use Rattle.std.proofs.Common.{Ordering}
use Rattle.std.specs.Ordering.{nat_cmp, ordering_then, is_ge}
use Rattle.std.specs.declared.cmp.Ordering.TheVariants.{Less, Equal, Greater}
use Rattle.std.specs.Cmp.Lexicographic.{slice_cmp}
use Rattle.basis.specs.Basis.{pick}
use Rattle.basis.specs.Same.{same_of}
use Rattle.records_table.specs.Order.{before_of, ascends}

abbrev compared : Bool → Bool → Ordering
compared before same = pick before Less (pick same Equal Greater)

pub strings : (x y : List ℕ) → slice_cmp nat_cmp x y ≡ compared (before_of x y) (same_of x y)
unfolding before_of
strings [] [] = refl
strings [] (b ∷ t) = refl
strings (a ∷ s) [] = refl
strings (a ∷ s) (b ∷ t) = by (ltb a b) refl (ltb b a) refl (strings s t)
  where
    by : (u : Bool) → ltb a b ≡ u → (v : Bool) → ltb b a ≡ v → slice_cmp nat_cmp s t ≡ compared (before_of s t) (same_of s t)
        → slice_cmp nat_cmp (a ∷ s) (b ∷ t) ≡ compared (before_of (a ∷ s) (b ∷ t)) (same_of (a ∷ s) (b ∷ t))
    by true p v q m = rw (p)
    by false p true q m = let h = ltb-true b a q in rw (p, q, ne_eqb a b (omega arith))
    by false p false q m =
        let g = ltb-false a b p in
        let h = ltb-false b a q in
        rw (p, q, eq-eqb a b (omega arith)) m

-- tid first, then kid
pub pairs : (t k u l : List ℕ) {o : Ordering} → o ≡ ordering_then (slice_cmp nat_cmp t u) (slice_cmp nat_cmp k l) → ascends t k u l ≡ not (is_ge o)
unfolding ascends
pairs t k u l e = rw (e, strings t u, strings k l) (by (before_of t u) (same_of t u) (before_of k l) (same_of k l))
  where
    by : (a b c d : Bool) → (a || (b && c)) ≡ not (is_ge (ordering_then (compared a b) (compared c d)))
    by true b c d = refl
    by false false c d = refl
    by false true true d = refl
    by false true false true = refl
    by false true false false = refl
