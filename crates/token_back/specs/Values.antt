-- Reading. The values of s and v. Document 01, "Reading order": "the token's v a well-formed unsigned number other than 1:
-- schema.unknown_field; a v of another type is parse.cbor"; "s and digest have none [no length range] either: a wrong length is
-- parse.cbor".
use Rattle.std.specs.Prelude.{List, ℕ, eqb, Ok, Err}
use Rattle.basis.specs.Basis.{pick}
use Rattle.basis.specs.Limits.{tag_length, number_most, token_version}
use Rattle.basis.specs.declared.Span.{Span}
use Rattle.cbor_heads.specs.Counts.{number_up_to}
use Rattle.cbor_heads.specs.Defects.{◌>>=◌, Reading, bad, after}
use Rattle.cbor_heads.specs.Majors.{byte_string}
use Rattle.cbor_heads.specs.declared.defect.Kind.TheVariants.{Cbor, Unknown}
use Rattle.cbor_strings.specs.Reading.{read_run}

-- any defect of the tag is parse.cbor, its length too
abbrev pub tag_by : Reading Span → Reading Span
tag_by (Err d) = bad Cbor d.at
tag_by (Ok tag) = Ok tag

-- s
unfoldable pub tag_at : List ℕ → ℕ → Reading Span
tag_at s at = tag_by (read_run s at byte_string tag_length tag_length)

-- v
unfoldable pub version_at : List ℕ → ℕ → Reading ℕ
version_at s at = do
  (n, next) ← number_up_to number_most s at
  pick (eqb n token_version) (Ok next) (bad Unknown at)
