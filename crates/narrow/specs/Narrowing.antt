-- Reading. Need not be believed: the demands' theorems fix it. Narrow, check by check. Document 01, "Numbers and names": "Narrow: 1, text
-- length, 3, reading, 7, 8, the caveat's reading as 31, 32, 33 for 4, 5, 6, then 34, 35, 36." What stands behind 8 is the child's: see
-- Child of `narrow_child`.
use Rattle.std.specs.Prelude.{List, ℕ, eqb, ltb, length, Ok, Err, Result}
use Rattle.basis.specs.Basis.{pick, between}
use Rattle.basis.specs.Same.{same_of}
use Rattle.cbor_heads.specs.Defects.{Reading, kind_number}
use Rattle.basis.specs.Limits.{key_length, text_most, token_most}
use Rattle.text_reading.specs.Reading.{judged_of, bytes_of, decoded_of, undecoded_answer}
use Rattle.text_reading.specs.declared.Undecoded.{Undecoded}
use Rattle.answers.specs.Answers.{number_of}
use Rattle.token_caveat.specs.Reading.{caveat_of}
use Rattle.token.specs.Reading.{token_of}
use Rattle.records_table.specs.Reading.{table_ok}
use Rattle.verify_walk.specs.Walking.{link_first, links_of}
use Rattle.verify.specs.Verifying.{key_of}
use Rattle.token.specs.declared.TokenAt.{TokenAt}
use Rattle.narrow_child.specs.Child.{caveat_added}
use Rattle.outcome.specs.Decisions.{Decision, refused}

-- the last link of the parent's chain, which is its tag and the link that the child's is made of
abbrev pub last_link : List ℕ → List ℕ → TokenAt → List ℕ
last_link key s p = links_of s p.caveats key (link_first key s p)

-- 8
unfoldable pub tag_narrowed : List ℕ → List ℕ → TokenAt → List ℕ → Decision
tag_narrowed key s p caveat =
    pick (same_of (last_link key s p) (between s p.tag)) (caveat_added key (last_link key s p) s p caveat (caveat_of caveat)) (refused 8)

-- 7
unfoldable pub key_narrowed : List ℕ → List ℕ → TokenAt → List ℕ → Decision
key_narrowed key s p caveat = pick (eqb (length key) key_length) (tag_narrowed key s p caveat) (refused 7)

-- 4 to 6
unfoldable pub token_narrowed : List ℕ → List ℕ → List ℕ → Reading TokenAt → Decision
token_narrowed table s caveat (Err d) = refused (kind_number d.kind)
token_narrowed table s caveat (Ok p) = key_narrowed (key_of table s p) s p caveat

unfoldable pub bytes_narrowed : List ℕ → List ℕ → List ℕ → Decision
bytes_narrowed table s caveat = token_narrowed table s caveat (token_of s)

-- 3; that the bytes of 5,462 characters do not fit cannot be
unfoldable pub decoded_narrowed : List ℕ → List ℕ → List ℕ → Result ℕ Undecoded → Decision
decoded_narrowed table text caveat (Err e) = refused (number_of (undecoded_answer e))
decoded_narrowed table text caveat (Ok n) = bytes_narrowed table (bytes_of text) caveat

-- "text length"
unfoldable pub text_narrowed : List ℕ → List ℕ → List ℕ → Decision
text_narrowed table text caveat = pick (ltb text_most (length text)) (refused 5) (decoded_narrowed table text caveat (decoded_of (judged_of text) token_most))

-- 1
unfoldable pub narrow_of : List ℕ → List ℕ → List ℕ → Decision
narrow_of table text caveat = pick (table_ok table) (text_narrowed table text caveat) (refused 1)
