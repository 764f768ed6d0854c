-- Document 01, "Examples on the line": "Bundle 00 00 30 00 00 00 10 00 05 prints "deny ctx.bad", then "bundle.bad"." By computation.
use mathlib.Core.Path.{◌≡◌, refl}
use mathlib.Core.List.{List, [], ◌∷◌, ◌++◌}
use Prim.Native.Nat.{ℕ}
use Rattle.basis.specs.Basis.{ascii}
use Rattle.records.specs.Records.{little_of}
use Rattle.records.specs.Reading.{run_at, little_at, read_record}
use Rattle.records_table.specs.Reading.{ok_from, table_ok}
use Rattle.records_request.specs.Reading.{fixed_at, request_of}
use Rattle.verify.specs.Verifying.{request_judged, verify_of}
use Rattle.answers.specs.Answers.{answer_of}
use Rattle.bundle.specs.Lines.{line_words, line, kind_then, record_then, lines_from, lines_of}

-- before any request, whatever the token
pub unasked : (token : List ℕ) → verify_of [] [] token ≡ 2
unfolding verify_of request_judged table_ok ok_from request_of fixed_at little_at run_at
unasked token = refl

pub bundle_example :
    lines_of (0x00 ∷ 0x00 ∷ 0x30 ∷ 0x00 ∷ 0x00 ∷ 0x00 ∷ 0x10 ∷ 0x00 ∷ 0x05 ∷ []) ≡ ascii "deny ctx.bad" ++ (0x0a ∷ ascii "bundle.bad" ++ (0x0a ∷ []))
unfolding answer_of line_words line kind_then record_then lines_from lines_of little_of run_at little_at read_record verify_of request_judged table_ok ok_from request_of fixed_at
bundle_example = refl
