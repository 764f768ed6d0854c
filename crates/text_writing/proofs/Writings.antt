-- The text of bytes group by group, and how long it is.
use Rattle.std.proofs.Common.{◌≡◌, refl, ◌∙◌, ℕ, zero, suc, ◌+◌, ◌/◌, ◌%◌, ◌<◌, min, List, [], ◌∷◌, ◌++◌, arith, length}
use Rattle.text_writing.specs.Base64url.{base64url, tail_length, text_length}
use Rattle.text_writing.proofs.Groups.{Grouped}

-- a letter for each byte, and one more for each group of three that is begun
begun : (n : ℕ) → n + (n / 3 + min 1 (n % 3)) ≡ text_length n
begun n = let t = tail (n % 3) (omega arith) in omega arith
  where
    tail : (left : ℕ) → left < 3 → left + min 1 left ≡ tail_length left
    tail zero h = refl
    tail (suc zero) h = refl
    tail (suc (suc zero)) h = refl
    tail (suc (suc (suc n))) h = absurd (omega arith)

length_begun : (bytes : List ℕ) → length (base64url bytes) ≡ length bytes + (length bytes / 3 + min 1 (length bytes % 3))
unfolding base64url
length_begun [] = refl
length_begun (x ∷ []) = refl
length_begun (x ∷ y ∷ []) = refl
length_begun (x ∷ y ∷ z ∷ t) = omega (arith, length_begun t)

pub text_length_lem : (bytes : List ℕ) → length (base64url bytes) ≡ text_length (length bytes)
text_length_lem bytes = length_begun bytes ∙ begun (length bytes)

-- whole groups in front
text_append : (s t : List ℕ) → length s % 3 ≡ 0 → base64url (s ++ t) ≡ base64url s ++ base64url t
unfolding base64url
text_append [] t h = refl
text_append (x ∷ []) t h = absurd (omega arith)
text_append (x ∷ y ∷ []) t h = absurd (omega arith)
text_append (x ∷ y ∷ z ∷ s) t h = rw (text_append s t (omega arith))

pub grouped : Grouped base64url 3 4
grouped = record { whole = λ k s h. omega (arith, length_begun s); append = text_append }
