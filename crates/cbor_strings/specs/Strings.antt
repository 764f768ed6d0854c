-- Meaning. Strings: how one is written, and the classes of content. Document 01, "Token bytes": "tid, kid, tenant, ns, name: 1 to 64 of
-- letters, digits, "-", ".", "_". aud: 1 to 128 bytes 0x21 to 0x7e. Prefix and path_prefix: 1 to 256 such bytes, first "/"."
use Rattle.std.specs.Prelude.{Bool, not, ◌&&◌, ◌||◌, List, ◌++◌, ℕ, length, get_or, leb, eqb}
use Rattle.std.specs.List.{list_all}
use Rattle.cbor_heads.specs.Heads.{head}
use Rattle.cbor_strings.specs.Paths.{slash, is_rewritten}
use Rattle.cbor_strings.specs.declared.Class.{Class}
use Rattle.cbor_strings.specs.declared.Class.TheVariants.{Name, Printable, Path, Upper, Hex}

-- a string as it is written: major type 2 for bytes, 3 for text
abbrev pub string : ℕ → List ℕ → List ℕ
string major content = head major (length content) ++ content

-- from a to b, both in
abbrev pub within : ℕ → ℕ → ℕ → Bool
within a b c = leb a c && leb c b

-- 01: "letters, digits, "-", ".", "_""
unfoldable pub is_name : ℕ → Bool
is_name c = within 65 90 c || within 97 122 c || within 48 57 c || eqb c 45 || eqb c 46 || eqb c 95

-- 01: "bytes 0x21 to 0x7e"
unfoldable pub is_printable : ℕ → Bool
is_printable c = within 0x21 0x7e c

-- 01: "letters A-Z"
unfoldable pub is_upper : ℕ → Bool
is_upper c = within 65 90 c

-- 01: "lowercase hex digits"
unfoldable pub is_hex : ℕ → Bool
is_hex c = within 48 57 c || within 97 102 c

-- 01: a path is printable bytes, "first "/""; 02, M-106: and nothing that a proxy rewrites, in all three places
unfoldable pub content_of : Class → List ℕ → Bool
content_of Name s = list_all is_name s
content_of Printable s = list_all is_printable s
content_of Path s = eqb (get_or s 0 0) slash && list_all is_printable s && not (is_rewritten s)
content_of Upper s = list_all is_upper s
content_of Hex s = list_all is_hex s
