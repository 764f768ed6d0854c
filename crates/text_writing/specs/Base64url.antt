-- Meaning. Base64URL without padding, as RFC 4648 section 5 has it: bytes to text. Document 01, "Token bytes".
use Rattle.std.specs.Prelude.{List, [], ◌∷◌, ℕ, ◌+◌, ◌*◌, ◌/◌, ◌%◌, eqb, get_or}
use Rattle.basis.specs.Basis.{pick, ascii}

-- RFC 4648, table 2
abbrev pub alphabet : List ℕ
alphabet = ascii "ABCDEFGHIJKLMNOPQRSTUVWXYZabcdefghijklmnopqrstuvwxyz0123456789-_"

unfoldable pub letter_of : ℕ → ℕ
letter_of v = get_or alphabet v 0

-- three bytes are four letters of six bits each; of one or two bytes left over, the unused low bits of the last letter are zero
unfoldable pub base64url : List ℕ → List ℕ
base64url [] = []
base64url (x ∷ []) = letter_of (x / 4) ∷ letter_of (x % 4 * 16) ∷ []
base64url (x ∷ y ∷ []) = letter_of (x / 4) ∷ letter_of (x % 4 * 16 + y / 16) ∷ letter_of (y % 16 * 4) ∷ []
base64url (x ∷ y ∷ z ∷ t) = letter_of (x / 4) ∷ letter_of (x % 4 * 16 + y / 16) ∷ letter_of (y % 16 * 4 + z / 64) ∷ letter_of (z % 64) ∷ base64url t

-- 01: "For n bytes the text has 4 x (n / 3) characters, plus 0, 2 or 3 where n leaves 0, 1 or 2."
abbrev pub tail_length : ℕ → ℕ
tail_length left = pick (eqb left 0) 0 (pick (eqb left 1) 2 3)

abbrev pub text_length : ℕ → ℕ
text_length n = 4 * (n / 3) + tail_length (n % 3)
