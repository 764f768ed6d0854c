-- Reading. Need not be believed: it ends where `read_token` does (`token_map`), and the laws fix its parts. A token as it lies. From the top:
-- its front, c and r; then its back, s, v, kid and tid.
use Rattle.std.specs.Prelude.{List, ℕ, Ok}
use Rattle.cbor_heads.specs.Defects.{◌>>=◌, Reading, after}
use Rattle.token_front.specs.Front.{front_of}
use Rattle.token_front.specs.declared.FrontAt.{FrontAt}
use Rattle.token_back.specs.Back.{back_of}
use Rattle.token_back.specs.declared.BackAt.{BackAt}
use Rattle.token.specs.declared.TokenAt.{TokenAt}

abbrev pub both_of : FrontAt → BackAt → TokenAt
both_of front back = record { caveats = front.caveats; scope = front.scope; tag = back.tag; kid = back.kid; tid = back.tid }

-- the whole
unfoldable pub token_of : List ℕ → Reading TokenAt
token_of s = do
  front ← front_of s
  back ← back_of s front.scope.to
  Ok (both_of front back)

-- where the token ends, or its defect
abbrev pub token_end : Reading TokenAt → Reading ℕ
token_end = after (λ token. Ok token.tid.to)
