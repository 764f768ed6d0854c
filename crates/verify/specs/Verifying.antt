-- Reading. Need not be believed: the demands' theorems fix it. Verify, check by check. Document 01, "Numbers and names": "Verify: 1, 2,
-- text over 5,462 characters (5), 3, reading (4 to 6), 7, 8, 9, scope method, path, bytes (10 to 12), caveats in token order." What stands
-- behind 7 is in Walking of `verify_walk`.
use Rattle.cbor_heads.specs.Defects.{Reading, kind_number}
use Rattle.std.specs.Prelude.{List, ℕ, eqb, ltb, length, Option, Some, None, Result, Ok, Err}
use Rattle.basis.specs.Basis.{pick, between}
use Rattle.basis.specs.Limits.{key_length, rows_most, text_most, token_most}
use Rattle.text_reading.specs.Reading.{judged_of, bytes_of, decoded_of, undecoded_answer}
use Rattle.text_reading.specs.declared.Undecoded.{Undecoded}
use Rattle.answers.specs.Answers.{number_of}
use Rattle.token.specs.Reading.{token_of}
use Rattle.records_table.specs.Reading.{table_ok, find_from}
use Rattle.records_request.specs.Reading.{request_of}
use Rattle.records_request.specs.declared.RequestAt.{RequestAt}
use Rattle.token.specs.declared.TokenAt.{TokenAt}
use Rattle.verify_walk.specs.Walking.{key_judged}

-- 7: keys are 32 bytes, and none is found where there is no such row
unfoldable pub key_found : List ℕ → List ℕ → TokenAt → List ℕ → RequestAt → ℕ
key_found key s p body q = pick (eqb (length key) key_length) (key_judged key s p body q) 7

abbrev pub key_of : List ℕ → List ℕ → TokenAt → List ℕ
key_of table s p = find_from rows_most table (between s p.tid) (between s p.kid) 0

-- 4 to 6
unfoldable pub token_judged : List ℕ → List ℕ → List ℕ → RequestAt → Reading TokenAt → ℕ
token_judged table s body q (Err d) = kind_number d.kind
token_judged table s body q (Ok p) = key_found (key_of table s p) s p body q

unfoldable pub bytes_judged : List ℕ → List ℕ → List ℕ → RequestAt → ℕ
bytes_judged table s body q = token_judged table s body q (token_of s)

-- 3; that the bytes of 5,462 characters do not fit cannot be
unfoldable pub decoded_judged : List ℕ → List ℕ → List ℕ → RequestAt → Result ℕ Undecoded → ℕ
decoded_judged table text body q (Err e) = number_of (undecoded_answer e)
decoded_judged table text body q (Ok n) = bytes_judged table (bytes_of text) body q

-- "text over 5,462 characters (5)", before any character is looked at
unfoldable pub text_judged : List ℕ → List ℕ → List ℕ → RequestAt → ℕ
text_judged table text body q = pick (ltb text_most (length text)) 5 (decoded_judged table text body q (decoded_of (judged_of text) token_most))

-- 2
unfoldable pub request_judged : List ℕ → List ℕ → List ℕ → Option RequestAt → ℕ
request_judged table body text None = 2
request_judged table body text (Some q) = text_judged table text body q

-- 1
unfoldable pub verify_of : List ℕ → List ℕ → List ℕ → ℕ
verify_of table request token = pick (table_ok table) (request_judged table request token (request_of request)) 1
