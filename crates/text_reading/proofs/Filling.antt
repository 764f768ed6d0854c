-- The bytes of a text group by group, and how many they are.
use Rattle.std.proofs.Common.{◌≡◌, refl, ℕ, ◌*◌, ◌/◌, ◌%◌, ◌<◌, List, [], ◌∷◌, ◌++◌, None, arith, length, take, drop, get_or, take-append-drop}
use Rattle.std.specs.Simd.{first_chunks}
use Rattle.text_writing.proofs.Groups.{Grouped, group_at}
use Rattle.text_reading.specs.Reading.{bad_at, bytes_of, byte_length}
use Rattle.text_reading.proofs.Judging.{letters_parts}

pub bytes_length : (text : List ℕ) → length (bytes_of text) ≡ byte_length (length text)
unfolding bytes_of
bytes_length [] = refl
bytes_length (a ∷ []) = refl
bytes_length (a ∷ b ∷ []) = refl
bytes_length (a ∷ b ∷ c ∷ []) = refl
bytes_length (a ∷ b ∷ c ∷ d ∷ t) = omega (arith, bytes_length t)

-- whole groups in front
bytes_append : (s t : List ℕ) → length s % 4 ≡ 0 → bytes_of (s ++ t) ≡ bytes_of s ++ bytes_of t
unfolding bytes_of
bytes_append [] t h = refl
bytes_append (a ∷ []) t h = absurd (omega arith)
bytes_append (a ∷ b ∷ []) t h = absurd (omega arith)
bytes_append (a ∷ b ∷ c ∷ []) t h = absurd (omega arith)
bytes_append (a ∷ b ∷ c ∷ d ∷ s) t h = rw (bytes_append s t (omega arith))

pub grouped : Grouped bytes_of 4 3
grouped = record { whole = λ k s h. omega (arith, bytes_length s); append = bytes_append }

-- the letters of a text that is taken apart are letters
pub letters_behind : (text : List ℕ) (j : ℕ) → bad_at text ≡ None → bad_at (drop j text) ≡ None
letters_behind text j e = (letters_parts (take j text) (drop j text) (rw take-append-drop e)).1

pub letters_inside : (text : List ℕ) (k : ℕ) → bad_at text ≡ None → k < length text / 4
    → bad_at (get_or (first_chunks 4 (length text / 4) text) k []) ≡ None
letters_inside text k e h =
    let t = drop (k * 4) text in
    rw (group_at 4 (length text / 4) k text [] h) ((letters_parts (take 4 t) (drop 4 t) (rw take-append-drop (letters_behind text (k * 4) e))).0)
