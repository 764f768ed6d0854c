-- Reading. A string, at a place. Document 01, "Reading order": "bad head or type, parse.cbor; length outside its range, parse.bounds; bytes
-- missing, parse.cbor; bad content, parse.cbor". First its head and length, then its bytes, then their class.
use Rattle.std.specs.Prelude.{List, ℕ, ◌+◌, ◌-◌, length, ltb, eqb, Ok}
use Rattle.basis.specs.Basis.{pick, from_to, between}
use Rattle.basis.specs.declared.Span.{Span}
use Rattle.cbor_heads.specs.Majors.{text_string}
use Rattle.cbor_heads.specs.Defects.{Reading, bad, after}
use Rattle.cbor_heads.specs.declared.defect.Kind.TheVariants.{Cbor, Bounds}
use Rattle.cbor_heads.specs.Reading.{read_head}
use Rattle.cbor_heads.specs.declared.Head.{Head}
use Rattle.cbor_strings.specs.declared.Class.{Class}
use Rattle.cbor_strings.specs.Strings.{content_of}

-- a string of the major type wanted with `low` to `high` bytes, in `size` bytes, whose head stands at `at`
unfoldable pub run_by : ℕ → ℕ → ℕ → ℕ → ℕ → Head → Reading Span
run_by size at major low high h =
    pick (eqb h.major major)
    (pick (ltb h.value low) (bad Bounds at)
    (pick (ltb high h.value) (bad Bounds at)
    (pick (ltb (size - h.next) h.value) (bad Cbor at) (Ok (from_to h.next (h.next + h.value))))))
    (bad Cbor at)

abbrev pub read_run : List ℕ → ℕ → ℕ → ℕ → ℕ → Reading Span
read_run s at major low high = after (run_by (length s) at major low high) (read_head s at)

-- bad content carries the first byte of the content
unfoldable pub content_by : Class → List ℕ → Span → Reading Span
content_by class s part = pick (content_of class (between s part)) (Ok part) (bad Cbor part.from)

-- a text string
abbrev pub read_string : List ℕ → ℕ → Class → ℕ → ℕ → Reading Span
read_string s at class low high = after (content_by class s) (read_run s at text_string low high)
