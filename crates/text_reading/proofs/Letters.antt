-- Letters and their six bits: the code's table is the alphabet's, and each leads back to the other.
use mathlib.Core.Path.{◌≡◌, refl}
use mathlib.Core.Bool.{Bool, true, false}
use mathlib.Core.List.{List, [], ◌∷◌}
use Prim.Native.Nat.{ℕ, ◌≤◌, ◌<◌}
use native.Mathlib.Omega.{arith}
use borrow.Author.Tests.{eqb-true}
use lib.Dec.{eqb}
use lib.ListN.{length, get_or}
use Rattle.basis.specs.Bytes.{index_of, index_after}
use Rattle.basis.proofs.All.{all, all_at}
use Rattle.text_writing.specs.Base64url.{alphabet, letter_of}
use Rattle.text_reading.specs.declared.TheConstants.{DIGITS}
use Rattle.text_reading.specs.Reading.{digit_of}

-- computed over all bytes
pub table_is : (c : ℕ) → c < 256 → get_or DIGITS c 0 ≡ digit_of c
unfolding all digit_of index_of index_after
table_is c h = eqb-true (get_or DIGITS c 0) (digit_of c) (all_at 256 (λ c. eqb (get_or DIGITS c 0) (digit_of c)) refl c h)

-- and over all letters
pub digit_letter : (v : ℕ) → v < 64 → digit_of (letter_of v) ≡ v
unfolding all digit_of letter_of index_of index_after
digit_letter v h = eqb-true (digit_of (letter_of v)) v (all_at 64 (λ v. eqb (digit_of (letter_of v)) v) refl v h)

index_le : (c : ℕ) (s : List ℕ) → index_of c s ≤ length s
unfolding index_of index_after
index_le c [] = omega arith
index_le c (x ∷ s) = by (eqb x c) (index_le c s)
  where
    by : (b : Bool) → index_of c s ≤ length s → index_after b (index_of c s) ≤ length (x ∷ s)
    by true h = omega arith
    by false h = omega arith

-- no character has more than 64
pub digit_le : (c : ℕ) → digit_of c ≤ 64
unfolding digit_of
digit_le c = index_le c alphabet

index_back : (c : ℕ) (s : List ℕ) → index_of c s < length s → get_or s (index_of c s) 0 ≡ c
unfolding index_of index_after
index_back c [] h = let z : ⊥ = omega arith in elim z [ ]
index_back c (x ∷ s) h = by (eqb x c) refl h (index_back c s)
  where
    by : (b : Bool) → eqb x c ≡ b → index_after b (index_of c s) < length (x ∷ s) → (index_of c s < length s → get_or s (index_of c s) 0 ≡ c)
        → get_or (x ∷ s) (index_after b (index_of c s)) 0 ≡ c
    by true e h r = eqb-true x c e
    by false e h r = r (omega arith)

pub letter_digit : (c : ℕ) → digit_of c < 64 → letter_of (digit_of c) ≡ c
unfolding digit_of letter_of
letter_digit c h = index_back c alphabet h
