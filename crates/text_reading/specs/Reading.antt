-- Reading. Reading a text: its first defect by document 02's rule for places (the first bad character; else a wrong length, at the end;
-- else unused bits, at the last character), or the bytes that it stands for.
use Rattle.std.specs.Prelude.{◌≡◌, Bool, List, [], ◌∷◌, ℕ, ◌+◌, ◌-◌, ◌*◌, ◌/◌, ◌%◌, length, leb, eqb, position, Option, Some, None, Result, Ok, Err}
use Rattle.basis.specs.Bytes.{index_of}
use Rattle.basis.specs.Basis.{pick, over}
use Rattle.answers.specs.declared.Answer.{Answer}
use Rattle.answers.specs.declared.Answer.TheVariants.{ParseB64, ParseBounds}
use Rattle.text_writing.specs.Base64url.{alphabet}
use Rattle.text_reading.specs.declared.Undecoded.{Undecoded}
use Rattle.text_reading.specs.declared.Undecoded.TheVariants.{Bad, Short}

-- the six bits of a letter; 64 for a character that is none
unfoldable pub digit_of : ℕ → ℕ
digit_of c = index_of c alphabet

-- a bad character is no letter
abbrev pub is_bad : ℕ → Bool
is_bad c = leb 64 (digit_of c)

-- where the first bad character stands
abbrev pub bad_at : List ℕ → Option ℕ
bad_at = position is_bad

-- the unused low bits of the last letter: four where one byte is left over, two where two are
unfoldable pub unused_of : List ℕ → ℕ
unused_of [] = 0
unused_of (a ∷ []) = 0
unused_of (a ∷ b ∷ []) = digit_of b % 16
unused_of (a ∷ b ∷ c ∷ []) = digit_of c % 4
unused_of (a ∷ b ∷ c ∷ d ∷ t) = unused_of t

-- the bytes that n letters stand for
abbrev pub byte_length : ℕ → ℕ
byte_length n = n / 4 * 3 + n % 4 * 3 / 4

-- a bad character comes before all else
abbrev pub bad_or : Option ℕ → Result ℕ ℕ → Result ℕ ℕ
bad_or (Some at) other = Err at
bad_or None other = other

-- how many bytes a text stands for, or where its first defect is
unfoldable pub judged_of : List ℕ → Result ℕ ℕ
judged_of text =
    bad_or (bad_at text)
    (pick (eqb (length text % 4) 1) (Err (length text))
    (pick (eqb (unused_of text) 0) (Ok (byte_length (length text))) (Err (length text - 1))))

-- the bytes of the letters
unfoldable pub bytes_of : List ℕ → List ℕ
bytes_of [] = []
bytes_of (a ∷ []) = []
bytes_of (a ∷ b ∷ []) = (digit_of a * 4 + digit_of b / 16) ∷ []
bytes_of (a ∷ b ∷ c ∷ []) = (digit_of a * 4 + digit_of b / 16) ∷ (digit_of b % 16 * 16 + digit_of c / 4) ∷ []
bytes_of (a ∷ b ∷ c ∷ d ∷ t) =
    (digit_of a * 4 + digit_of b / 16) ∷ (digit_of b % 16 * 16 + digit_of c / 4) ∷ (digit_of c % 4 * 64 + digit_of d) ∷ bytes_of t

-- the answer for a room of so many bytes: a defect of the text comes before a room that is too short
unfoldable pub decoded_of : Result ℕ ℕ → ℕ → Result ℕ Undecoded
decoded_of (Err at) room = Err (Bad at)
decoded_of (Ok n) room = pick (leb n room) (Ok n) (Err Short)

-- document 01, "Numbers and names": "parse.b64", and a text over its limit is "parse.bounds"
abbrev pub undecoded_answer : Undecoded → Answer
undecoded_answer (Bad at) = ParseB64
undecoded_answer Short = ParseBounds

-- only whole bytes are written; a refusal leaves the room as it was
unfoldable pub left_of : Result ℕ Undecoded → List ℕ → List ℕ → List ℕ
left_of (Ok n) bytes entry = over bytes entry
left_of (Err e) bytes entry = entry

pub record Filled (text entry : List ℕ) (r : Result ℕ Undecoded) (exit : List ℕ) : Type 0 where
  pub answer : r ≡ decoded_of (judged_of text) (length entry)
  pub content : exit ≡ left_of r (bytes_of text) entry
