-- The comparison byte by byte is the comparison of the first n bits, for strings of bytes of any length.
use mathlib.Core.Path.{◌≡◌, refl, sym, ap, ap₂, ◌∙◌}
use mathlib.Core.Bool.{Bool, true, false}
use mathlib.Core.List.{List, [], ◌∷◌, ◌++◌, tail}
use Prim.Native.Nat.{ℕ, zero, suc, ◌+◌, ◌-◌, ◌*◌, ◌/◌, ◌%◌, ◌^◌, ◌≤◌, ◌<◌}
use native.Mathlib.Nat.{mod-eq_of_lt, add_comm}
use native.Mathlib.Omega.{arith}
use borrow.Author.Tests.{ltb-true, ltb-false, eqb-true, eq-eqb}
use lib.Dec.{ltb, eqb}
use lib.ListN.{length, take, drop}
use lib.Pow.{shr-shr, shr_lt, mod-pow-add}
use lib.Seq.{take-nil, take-append-le, take-append-add, take_at, drop_at}
use Rattle.basis.specs.Basis.{pick, IsBytes}
use Rattle.token_cidr.specs.Bits.{bits_of, bits, Agree, agree_of}

length_bits : (k b : ℕ) → length (bits_of k b) ≡ k
unfolding bits_of
length_bits zero b = refl
length_bits (suc k) b = ap suc (length_bits k b)

-- the first n of n + m bits are the bits of the number without its last m
take_bits : (n m b : ℕ) → take n (bits_of (n + m) b) ≡ bits_of n (b / 2 ^ m)
unfolding bits_of
take_bits zero m b = refl
take_bits (suc n) m b =
    let w : suc n + m ≡ suc (n + m) = omega arith in
    ap (λ k. take (suc n) (bits_of k b)) w ∙ ap₂ ◌∷◌ (ap (λ q. q % 2) (rw (shr-shr b m n, add_comm m n))) (take_bits n m b)

abbrev front : List ℕ → ℕ
front [] = 0
front (c ∷ s) = c

same_bits : (n a b : ℕ) → bits_of n a ≡ bits_of n b → a % 2 ^ n ≡ b % 2 ^ n
unfolding bits_of
same_bits zero a b e = omega arith
same_bits (suc n) a b e =
    let w : suc n ≡ 1 + n = omega arith in
    rw w (mod-pow-add a 1 n ∙ ap₂ (λ h l. h * 2 ^ n + l) (ap front e) (same_bits n a b (ap tail e)) ∙ sym (mod-pow-add b 1 n))

-- n of eight bits, as numbers
module _ (n a b : ℕ) (l : n ≤ 8) where
  high_to : a / 2 ^ (8 - n) ≡ b / 2 ^ (8 - n) → take n (bits_of 8 a) ≡ take n (bits_of 8 b)
  high_to e =
      let w : n + (8 - n) ≡ 8 = omega arith in
      ap (λ k. take n (bits_of k a)) (sym w) ∙ take_bits n (8 - n) a ∙ ap (bits_of n) e ∙ sym (take_bits n (8 - n) b) ∙ ap (λ k. take n (bits_of k b)) w

  high_from : a < 256 → b < 256 → take n (bits_of 8 a) ≡ take n (bits_of 8 b) → a / 2 ^ (8 - n) ≡ b / 2 ^ (8 - n)
  high_from p q e =
      let w : n + (8 - n) ≡ 8 = omega arith in
      let f : bits_of n (a / 2 ^ (8 - n)) ≡ bits_of n (b / 2 ^ (8 - n)) =
      sym (take_bits n (8 - n) a) ∙ ap (λ k. take n (bits_of k a)) w ∙ e ∙ ap (λ k. take n (bits_of k b)) (sym w) ∙ take_bits n (8 - n) b in
      sym (mod-eq_of_lt (shr_lt n (8 - n) (rw w p))) ∙ same_bits n _ _ f ∙ mod-eq_of_lt (shr_lt n (8 - n) (rw w q))

module _ (a n : ℕ) (x : List ℕ) where
  few : n ≤ 8 → take n (bits (a ∷ x)) ≡ take n (bits_of 8 a)
  unfolding bits
  few l = take-append-le n (bits_of 8 a) (bits x) (omega (arith, length_bits 8 a))

  many : 8 ≤ n → take n (bits (a ∷ x)) ≡ bits_of 8 a ++ take (n - 8) (bits x)
  unfolding bits
  many l =
      let w : n ≡ length (bits_of 8 a) + (n - 8) = omega (arith, length_bits 8 a) in
      ap (λ k. take k (bits (a ∷ x))) w ∙ take-append-add (bits_of 8 a) (bits x) (n - 8)

module _ (a b n : ℕ) (x y : List ℕ) where
  to_step : (agree_of x y (n - 8) ≡ true → Agree x y (n - 8)) → agree_of (a ∷ x) (b ∷ y) n ≡ true → Agree (a ∷ x) (b ∷ y) n
  unfolding Agree agree_of
  to_step h e = by (ltb n 8) refl (eqb a b) refl e where
    by : (t : Bool) → ltb n 8 ≡ t → (u : Bool) → eqb a b ≡ u
        → pick t (eqb (a / 2 ^ (8 - n)) (b / 2 ^ (8 - n))) (pick u (agree_of x y (n - 8)) false) ≡ true → Agree (a ∷ x) (b ∷ y) n
    by true p u q e =
        let l : n ≤ 8 = omega (arith, ltb-true n 8 p) in
        few a n x l ∙ high_to n a b l (eqb-true _ _ e) ∙ sym (few b n y l)
    by false p true q e =
        let l = ltb-false n 8 p in
        many a n x l ∙ ap₂ ◌++◌ (ap (bits_of 8) (eqb-true a b q)) (h e) ∙ sym (many b n y l)
    by false p false q e = let z : ◌≡◌ {A = ℕ} 0 1 = cc in let z : ⊥ = omega arith in elim z [ ]

  from_step : a < 256 → b < 256 → (Agree x y (n - 8) → agree_of x y (n - 8) ≡ true) → Agree (a ∷ x) (b ∷ y) n → agree_of (a ∷ x) (b ∷ y) n ≡ true
  unfolding Agree agree_of
  from_step p q h e = by (ltb n 8) refl where
    by : (t : Bool) → ltb n 8 ≡ t → agree_of (a ∷ x) (b ∷ y) n ≡ true
    by true r =
        let l : n ≤ 8 = omega (arith, ltb-true n 8 r) in
        rw r (eq-eqb _ _ (high_from n a b l p q (sym (few a n x l) ∙ e ∙ few b n y l)))
    by false r =
        let l = ltb-false n 8 r in
        let f = sym (many a n x l) ∙ e ∙ many b n y l in
        let s = bits_of 8 a in let t = bits_of 8 b in let u = take (n - 8) (bits x) in let v = take (n - 8) (bits y) in
        let g : s ≡ t = sym (take_at s u 8 (length_bits 8 a)) ∙ ap (take 8) f ∙ take_at t v 8 (length_bits 8 b) in
        let m : a ≡ b = omega (arith, same_bits 8 a b g) in
        rw (r, eq-eqb a b m) (h (sym (drop_at s u 8 (length_bits 8 a)) ∙ ap (drop 8) f ∙ drop_at t v 8 (length_bits 8 b)))

-- where one string has ended, the bits agree only when none are asked for
ended : (b n : ℕ) (y : List ℕ) → [] ≡ take n (bits (b ∷ y)) → eqb n 0 ≡ true
unfolding bits bits_of
ended b zero y e = refl
ended b (suc n) y e = let z : 0 ≡ suc (length (take n _)) = ap length e in let z : ⊥ = omega arith in elim z [ ]

pub agree_bits : (x y : List ℕ) (n : ℕ) → agree_of x y n ≡ true → Agree x y n
unfolding agree_of Agree bits
agree_bits [] [] n e = refl
agree_bits [] (b ∷ y) n e = rw (eqb-true n 0 e)
agree_bits (a ∷ x) [] n e = rw (eqb-true n 0 e)
agree_bits (a ∷ x) (b ∷ y) n e = to_step a b n x y (agree_bits x y (n - 8)) e

pub bits_agree : (x y : List ℕ) (n : ℕ) → IsBytes x → IsBytes y → Agree x y n → agree_of x y n ≡ true
unfolding agree_of Agree bits
bits_agree [] [] n p q e = refl
bits_agree [] (b ∷ y) n p q e = ended b n y (sym (take-nil n) ∙ e)
bits_agree (a ∷ x) [] n p q e = ended a n x (sym (take-nil n) ∙ sym e)
bits_agree (a ∷ x) (b ∷ y) n p q e = from_step a b n x y (p 0) (q 0) (bits_agree x y (n - 8) (λ i. p (suc i)) (λ i. q (suc i))) e
