-- The walk of first_bits_agree: what the bytes not yet compared decide is what all of them decide.
use Rattle.std.proofs.Common.{◌≡◌, ℕ, ◌+◌, ◌-◌, ◌/◌, ◌^◌, ◌≤◌, ◌<◌, false, List, [], ◌∷◌, length, arith}
use mathlib.Core.Path.{sym, ◌∙◌}
use mathlib.Core.Logic.{◌⊎◌, inl, inr}
use borrow.Author.Tests.{lt-ltb, le-ltb, eq-eqb, ne_eqb}
use lib.Dec.{eqb}
use Rattle.token_cidr.specs.Bits.{agree_of}

-- xs and ys are what is left of x and y
pub record Compared (x y : List ℕ) (n : ℕ) (xs ys : List ℕ) (left : ℕ) : Type 0 where
  pub rest : agree_of xs ys left ≡ agree_of x y n
  pub even : length xs + length y ≡ length ys + length x

module _ {x y xs ys u v : List ℕ} {n left a b : ℕ} (t : Compared x y n xs ys left) (p : xs ≡ a ∷ u) (q : ys ≡ b ∷ v) where
  pub last_byte : left < 8 → eqb (a / 2 ^ (8 - left)) (b / 2 ^ (8 - left)) ≡ agree_of x y n
  unfolding agree_of
  last_byte l = rw (p, q, lt-ltb _ _ l) at t.rest

  pub differs : 8 ≤ left → (a ≡ b → ⊥) → false ≡ agree_of x y n
  unfolding agree_of
  differs l d = rw (p, q, le-ltb _ _ l, ne_eqb _ _ d) at t.rest

  pub compared_one : 8 ≤ left → a ≡ b → Compared x y n u v (left - 8)
  unfolding agree_of
  compared_one l e = record {
    rest = rw (p, q, le-ltb _ _ l, eq-eqb _ _ e) at t.rest;
    even = omega (arith, rw (p, q) at t.even);
  }

-- where one of them has ended, nothing was left to compare, or both have
module _ {x y : List ℕ} {n : ℕ} where
  pub none_left : (xs ys : List ℕ) {left : ℕ} → Compared x y n xs ys left → (xs ≡ []) ⊎ (ys ≡ []) → left ≡ 0 → eqb left 0 ≡ agree_of x y n
  unfolding agree_of
  none_left [] [] t o z = eq-eqb _ _ z ∙ t.rest
  none_left [] (b ∷ ys) t o z = t.rest
  none_left (a ∷ xs) [] t o z = t.rest
  none_left (a ∷ xs) (b ∷ ys) t (inl e) z = cc
  none_left (a ∷ xs) (b ∷ ys) t (inr e) z = cc

  pub some_left : (xs ys : List ℕ) {left : ℕ} → Compared x y n xs ys left → (xs ≡ []) ⊎ (ys ≡ []) → (left ≡ 0 → ⊥) → eqb (length x) (length y) ≡ agree_of x y n
  unfolding agree_of
  some_left [] [] t o z = eq-eqb _ _ (omega (arith, t.even)) ∙ t.rest
  some_left [] (b ∷ ys) t o z = ne_eqb _ _ (λ e. omega (arith, t.even)) ∙ sym (ne_eqb _ _ z) ∙ t.rest
  some_left (a ∷ xs) [] t o z = ne_eqb _ _ (λ e. omega (arith, t.even)) ∙ sym (ne_eqb _ _ z) ∙ t.rest
  some_left (a ∷ xs) (b ∷ ys) t (inl e) z = cc
  some_left (a ∷ xs) (b ∷ ys) t (inr e) z = cc
