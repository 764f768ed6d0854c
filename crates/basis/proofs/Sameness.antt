-- Strings that are found the same are equal, and equal ones are found the same; and the walk that finds it.
use mathlib.Core.Path.{◌≡◌, refl, ap, ap₂, subst}
use mathlib.Core.Bool.{Bool, true, false, ◌&&◌}
use mathlib.Core.List.{List, [], ◌∷◌}
use Prim.Native.Nat.{ℕ, ◌+◌, ◌≤◌, ◌<◌}
use native.Mathlib.Numerals.{add-one}
use native.Mathlib.Omega.{arith}
use borrow.Author.Tests.{eqb-true, eq-eqb, ne_eqb}
use lib.Dec.{eqb}
use lib.ListN.{length, drop, get_or, drop_of_length-le}
use lib.Seq.{drop-cons}
use Rattle.basis.specs.Same.{same_of}

pub same_equal : (s t : List ℕ) → same_of s t ≡ true → s ≡ t
same_equal [] [] e = refl
same_equal [] (b ∷ t) e = let z : ◌≡◌ {A = ℕ} 0 1 = cc in let z : ⊥ = omega arith in elim z [ ]
same_equal (a ∷ s) [] e = let z : ◌≡◌ {A = ℕ} 0 1 = cc in let z : ⊥ = omega arith in elim z [ ]
same_equal (a ∷ s) (b ∷ t) e = by (eqb a b) refl (same_equal s t) e where
  by : (u : Bool) → eqb a b ≡ u → (same_of s t ≡ true → s ≡ t) → (u && same_of s t) ≡ true → a ∷ s ≡ b ∷ t
  by true p h q = ap₂ ◌∷◌ (eqb-true a b p) (h q)
  by false p h q = let z : ◌≡◌ {A = ℕ} 0 1 = cc in let z : ⊥ = omega arith in elim z [ ]

same_self : (s : List ℕ) → same_of s s ≡ true
same_self [] = refl
same_self (a ∷ s) = rw (eq-eqb a a refl) (same_self s)

pub equal_same : (s t : List ℕ) → s ≡ t → same_of s t ≡ true
equal_same s t e = subst (λ u. same_of s u ≡ true) e (same_self s)

-- the first i bytes are the same, and the rest decides
pub record Alike (s t : List ℕ) (i : ℕ) : Type 0 where
  pub equal_lengths : length s ≡ length t
  pub inside : i ≤ length s
  pub rest : same_of (drop i s) (drop i t) ≡ same_of s t

pub other_length : (s t : List ℕ) → (length s ≡ length t → ⊥) → false ≡ same_of s t
other_length s t h = by (same_of s t) refl where
  by : (u : Bool) → same_of s t ≡ u → false ≡ u
  by false e = refl
  by true e = let z = h (ap length (same_equal s t e)) in elim z [ ]

pub alike_none : (s t : List ℕ) → length s ≡ length t → Alike s t 0
alike_none s t l = record { equal_lengths = l; inside = omega arith; rest = refl }

module _ (s t : List ℕ) (i : ℕ) (w : Alike s t i) where
  pub alike_all : length s ≤ i → true ≡ same_of s t
  alike_all h = let g : length t ≤ i = omega (arith, w.equal_lengths) in rw (drop_of_length-le s h, drop_of_length-le t g) at w.rest

  module _ (h : i < length s) where
    in_t : i < length t
    in_t = omega (arith, w.equal_lengths)

    pub differ : (get_or s i 0 ≡ get_or t i 0 → ⊥) → false ≡ same_of s t
    differ d = rw (drop-cons s i 0 h, drop-cons t i 0 in_t, ne_eqb _ _ d) at w.rest

    pub alike_one : get_or s i 0 ≡ get_or t i 0 → Alike s t (i + 1)
    alike_one e = record {
      equal_lengths = w.equal_lengths;
      inside = omega arith;
      rest = rw add-one (rw (drop-cons s i 0 h, drop-cons t i 0 in_t, eq-eqb _ _ e) at w.rest);
    }
