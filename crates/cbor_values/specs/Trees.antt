-- Meaning. What a custom caveat's value is, as a tree, and how it is written. Document 01, "Token bytes": "an integer of either sign, byte
-- string, text (UTF-8 by RFC 3629), true, false, null, or arrays inside arrays, four deep at most".
use Rattle.std.specs.Prelude.{◌≡◌, true, List, [], ◌++◌, ℕ, zero, suc, ◌≤◌, length}
use Rattle.basis.specs.Limits.{Number64}
use Rattle.cbor_heads.specs.Majors.{unsigned, byte_string, text_string, negative as negative_major, simple as simple_major, array as array_major, simple_false, simple_null}
use Rattle.cbor_heads.specs.Heads.{head}
use Rattle.cbor_strings.specs.Strings.{string}
use Rattle.cbor_values.specs.Utf8.{utf8}

mutual
  -- `negative n` stands for -1 - n; `simple` is one of false, true, null, by its number
  pub data Value : Type 0 where
    number : ℕ → Value
    negative : ℕ → Value
    bytes : List ℕ → Value
    text : List ℕ → Value
    simple : ℕ → Value
    array : Values → Value

  pub data Values : Type 0 where
    none : Values
    more : Value → Values → Values

unfoldable pub count : Values → ℕ
count none = 0
count (more v vs) = suc (count vs)

unfoldable mutual
  pub encode : Value → List ℕ
  encode (number n) = head unsigned n
  encode (negative n) = head negative_major n
  encode (bytes c) = string byte_string c
  encode (text c) = string text_string c
  encode (simple n) = head simple_major n
  encode (array vs) = head array_major (count vs) ++ encodes vs

  pub encodes : Values → List ℕ
  encodes none = []
  encodes (more v vs) = encode v ++ encodes vs

-- a tree within limits, with at most so many arrays inside each other; numbers, lengths and counts have 64 bits
unfoldable mutual
  pub Good : Value → ℕ → Type 0
  Good (number n) d = Number64 n
  Good (negative n) d = Number64 n
  Good (bytes c) d = Number64 (length c)
  Good (text c) d = Number64 (length c) × (utf8 c ≡ true)
  Good (simple n) d = (simple_false ≤ n) × (n ≤ simple_null)
  Good (array vs) zero = ⊥
  Good (array vs) (suc d) = Number64 (count vs) × AllGood vs d

  pub AllGood : Values → ℕ → Type 0
  AllGood none d = Unit {0}
  AllGood (more v vs) d = Good v d × AllGood vs d
