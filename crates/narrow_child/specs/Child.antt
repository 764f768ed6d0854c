-- Reading. Need not be believed: the demands' theorems fix it. The child, behind the checks of its parent. Document 01, "Numbers and
-- names": ".. the caveat's reading as 31, 32, 33 for 4, 5, 6, then 34, 35, 36." The last one is the room's: see Decisions of `outcome`.
use Rattle.token_caveat_values.specs.declared.CaveatAt.{CaveatAt}
use Rattle.std.specs.Prelude.{List, ℕ, ◌+◌, eqb, leb, ltb, length, Ok, Err}
use Rattle.basis.specs.Basis.{pick, between}
use Rattle.cbor_heads.specs.Defects.{Reading, kind_number}
use Rattle.basis.specs.Limits.{token_most, caveats_most}
use Rattle.text_writing.specs.Base64url.{base64url}
use Rattle.hash_chain.specs.Chain.{next_link}
use Rattle.token.specs.Writing.{child_bytes}
use Rattle.token.specs.declared.TokenAt.{TokenAt}
use Rattle.outcome.specs.Decisions.{Decision, refused, granted}

-- 35: "At most 4,096 decoded bytes"
unfoldable pub sized : List ℕ → Decision
sized bytes = pick (ltb token_most (length bytes)) (refused 35) (granted (base64url bytes))

-- 34; then the child: one caveat more behind the parent's, tagged with the next link
unfoldable pub child_of : List ℕ → List ℕ → List ℕ → TokenAt → List ℕ → Decision
child_of key link s p caveat =
    pick (leb caveats_most p.caveats.count) (refused 34)
    (sized
    (child_bytes p.caveats.count (between s p.caveats.span) caveat (between s p.scope) (next_link key link caveat) (between s p.kid)
    (between s p.tid)))

-- "the caveat's reading as 31, 32, 33 for 4, 5, 6"; bytes left over are 31
unfoldable pub caveat_added : List ℕ → List ℕ → List ℕ → TokenAt → List ℕ → Reading (CaveatAt × ℕ) → Decision
caveat_added key link s p caveat (Err d) = refused (kind_number d.kind + 27)
caveat_added key link s p caveat (Ok (part, next)) = pick (eqb next (length caveat)) (child_of key link s p caveat) (refused 31)
