-- Reading. Need not be believed: the demands' theorems fix it. Issue, check by check. Document 01, "Numbers and names": "Issue: 1, the
-- scope's reading (4 to 6), 7 (also for a tid or kid of wrong form), 36." The last one is the room's: see Decisions of `outcome`.
use Rattle.token_scope.specs.declared.ScopeAt.{ScopeAt}
use Rattle.std.specs.Prelude.{List, ℕ, eqb, length, Ok, Err}
use Rattle.basis.specs.Basis.{pick}
use Rattle.cbor_heads.specs.Defects.{Reading, kind_number}
use Rattle.basis.specs.Limits.{key_length, rows_most}
use Rattle.text_writing.specs.Base64url.{base64url}
use Rattle.hash_chain.specs.Chain.{first_link}
use Rattle.token_scope.specs.Reading.{scope_of}
use Rattle.token.specs.Writing.{fresh_bytes}
use Rattle.records_table.specs.Reading.{table_ok, find_from}
use Rattle.outcome.specs.Decisions.{Decision, refused, granted}

-- 7; then the text of a fresh token, tagged with the first link
unfoldable pub issue_with : List ℕ → List ℕ → List ℕ → List ℕ → Decision
issue_with key tid kid scope = pick (eqb (length key) key_length) (granted (base64url (fresh_bytes scope (first_link key tid kid scope) kid tid))) (refused 7)

-- 4 to 6: the bytes are one scope, and nothing is left over
unfoldable pub issue_then : List ℕ → List ℕ → List ℕ → List ℕ → Reading (ScopeAt × ℕ) → Decision
issue_then table tid kid scope (Err d) = refused (kind_number d.kind)
issue_then table tid kid scope (Ok (parts, next)) = pick (eqb next (length scope)) (issue_with (find_from rows_most table tid kid 0) tid kid scope) (refused 4)

-- 1
unfoldable pub issue_of : List ℕ → List ℕ → List ℕ → List ℕ → Decision
issue_of table tid kid scope = pick (table_ok table) (issue_then table tid kid scope (scope_of scope 0)) (refused 1)
