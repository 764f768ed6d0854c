-- Inner. A token's bytes in the two halves in which they are written, and how many there are.
use Rattle.std.specs.Prelude.{List, ◌++◌, ℕ, ◌+◌, length}
use Rattle.basis.specs.Limits.{token_version}
use Rattle.cbor_heads.specs.Majors.{unsigned, byte_string, array, map}
use Rattle.cbor_heads.specs.Heads.{head}
use Rattle.cbor_strings.specs.Strings.{string}
use Rattle.cbor_keys.specs.Maps.{text}
use Rattle.basis.specs.Basis.{ascii}
use Rattle.token_writing.specs.declared.Parts.{Parts}

-- c and r
unfoldable pub front_bytes : ℕ → List ℕ → List ℕ → List ℕ → List ℕ
front_bytes n caveats caveat scope =
    head map 6 ++ text (ascii "c") ++ head array n ++ caveats ++ caveat ++ text (ascii "r") ++ scope

-- s, v, kid and tid
unfoldable pub back_bytes : List ℕ → List ℕ → List ℕ → List ℕ
back_bytes tag kid tid =
    text (ascii "s") ++ string byte_string tag ++ (text (ascii "v") ++ head unsigned token_version ++ text (ascii "kid")) ++ text kid ++ text (ascii "tid") ++ text tid

-- by the lengths of its parts, the caveats' told; a head is as long for one major type as for another
abbrev pub token_length : ℕ → ℕ → Parts → ℕ
token_length n caveats parts =
    let scope = length parts.scope.now in
    let tag = length parts.tag.now in
    let kid = length parts.kid.now in
    let tid = length parts.tid.now in
    18 + (length (head unsigned n) + length (head unsigned tag)) + (length (head unsigned kid) + length (head unsigned tid)) + caveats + scope + tag + kid + tid
