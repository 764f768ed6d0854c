-- Meaning. What a token is, which tokens are within limits, and how one is written. Document 01, "Token bytes": "token, all six: c, r, s,
-- v, kid, tid. v is 1; s is 32 bytes; c is an array of 0 to 64 caveats."
use Rattle.std.specs.Prelude.{◌≡◌, List, [], ◌∷◌, ◌++◌, ℕ, ◌≤◌, length}
use Rattle.basis.specs.Limits.{caveats_most, tag_length, token_version}
use Rattle.cbor_heads.specs.Majors.{map, array, byte_string, unsigned}
use Rattle.cbor_heads.specs.Heads.{head}
use Rattle.cbor_strings.specs.Strings.{string}
use Rattle.cbor_keys.specs.Maps.{text, entry, GoodName}
use Rattle.token_scope.specs.Scopes.{Scope, encode_scope, GoodScope}
use Rattle.token_caveat.specs.Caveats.{Caveat, encode_caveat, GoodCaveat}

pub record Token : Type 0 where
  pub caveats : List Caveat
  pub scope : Scope
  pub tag : List ℕ
  pub kid : List ℕ
  pub tid : List ℕ

unfoldable pub encode_caveats : List Caveat → List ℕ
encode_caveats [] = []
encode_caveats (c ∷ cs) = encode_caveat c ++ encode_caveats cs

-- a token around the bytes of its parts: n caveats, scope, tag, kid, tid
unfoldable pub token_bytes : ℕ → List ℕ → List ℕ → List ℕ → List ℕ → List ℕ → List ℕ
token_bytes n caveats scope tag kid tid =
    head map 6
    ++ (entry "c" (head array n ++ caveats)
    ++ (entry "r" scope
    ++ (entry "s" (string byte_string tag)
    ++ (entry "v" (head unsigned token_version)
    ++ (entry "kid" (text kid)
    ++ entry "tid" (text tid))))))

abbrev pub encode_token : Token → List ℕ
encode_token t = token_bytes (length t.caveats) (encode_caveats t.caveats) (encode_scope t.scope) t.tag t.kid t.tid

unfoldable pub AllCaveats : List Caveat → Type 0
AllCaveats [] = Unit {0}
AllCaveats (c ∷ cs) = GoodCaveat c × AllCaveats cs

pub record GoodToken (t : Token) : Type 0 where
  pub few : length t.caveats ≤ caveats_most
  pub each : AllCaveats t.caveats
  pub good_scope : GoodScope t.scope
  pub tag_long : length t.tag ≡ tag_length
  pub good_kid : GoodName t.kid
  pub good_tid : GoodName t.tid
