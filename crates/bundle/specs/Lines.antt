-- Meaning. A bundle judged, line by line. Document 01, "House records": "Bundle on standard input, up to 65,536 bytes: kind 16 a table, 32
-- a request, 48 a token. .. One line per token, "allow" or "deny " and the name. Every line ends with byte 0x0a."
use Rattle.std.specs.Prelude.{◌≡◌, List, [], ◌∷◌, ◌++◌, ℕ, zero, suc, eqb, leb, ltb, length, Option, Some, None}
use Rattle.basis.specs.Basis.{pick, ascii, between, over}
use Rattle.basis.specs.Limits.{table_kind, request_kind, token_kind, bundle_most}
use Rattle.answers.specs.Answers.{name_of, answer_of}
use Rattle.answers.specs.declared.Answer.{Answer}
use Rattle.records.specs.Reading.{read_record}
use Rattle.records.specs.declared.RecordAt.{RecordAt}
use Rattle.verify.specs.Verifying.{verify_of}

-- the name on a line. A number that no answer has would print as "?", which is no answer's name (`unnamed`); it does not arise:
-- `verify_named` shows that verify's number is always an answer's, and that the line names that answer
abbrev pub name_in : Option Answer → List ℕ
name_in (Some a) = name_of a
name_in None = ascii "?"

unfoldable pub line_words : ℕ → List ℕ
line_words n = pick (eqb n 0) (ascii "allow") (ascii "deny " ++ name_in (answer_of n))

unfoldable pub line : ℕ → List ℕ
line n = line_words n ++ (0x0a ∷ [])

abbrev pub bad_line : List ℕ
bad_line = ascii "bundle.bad" ++ (0x0a ∷ [])

-- "Later tables and requests replace earlier ones. .. At a cut record or other kind: "bundle.bad" and stop"; `rest` goes on behind the record
unfoldable pub kind_then : (List ℕ → List ℕ → ℕ → List ℕ) → List ℕ → List ℕ → List ℕ → RecordAt → List ℕ
kind_then rest s table request found =
    pick (eqb found.kind table_kind) (rest (between s found.body) request found.body.to)
    (pick (eqb found.kind request_kind) (rest table (between s found.body) found.body.to)
    (pick (eqb found.kind token_kind) (line (verify_of table request (between s found.body)) ++ rest table request found.body.to) bad_line))

-- so many records at most from a place on, under this table and this request; a cut one ends them
unfoldable pub record_then : (List ℕ → List ℕ → ℕ → List ℕ) → List ℕ → List ℕ → List ℕ → Option RecordAt → List ℕ
record_then rest s table request None = bad_line
record_then rest s table request (Some found) = kind_then rest s table request found

unfoldable pub lines_from : ℕ → List ℕ → List ℕ → List ℕ → ℕ → List ℕ
lines_from zero s table request at = []
lines_from (suc k) s table request at = pick (eqb at (length s)) [] (record_then (lines_from k s) s table request (read_record s at))

-- a record has at least four bytes, so that 65,536 bytes hold so many at most
abbrev pub records_most : ℕ
records_most = 16384

-- "Before any, the table is empty and the request counts as malformed": so does an empty one. "a longer input gives that line only"
unfoldable pub lines_of : List ℕ → List ℕ
lines_of input = pick (ltb bundle_most (length input)) bad_line (lines_from records_most input [] [] 0)

-- 16,384 lines of at most 27 bytes, "deny caveat.custom.unknown" and the byte 0x0a
abbrev pub enough : ℕ
enough = 442368

-- the lines are written over the front of a room that is always enough; in a shorter one nothing is
pub record LinesWritten (input entry : List ℕ) (count : Option ℕ) (exit : List ℕ) : Type 0 where
  pub counted : count ≡ pick (leb enough (length entry)) (Some (length (lines_of input))) None
  pub content : exit ≡ pick (leb enough (length entry)) (over (lines_of input) entry) entry
