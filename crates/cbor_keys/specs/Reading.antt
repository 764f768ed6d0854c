-- Reading. A key, or a name of t, at a place. Document 01, "Reading order": "Its key not known: schema.unknown_field; known but repeated,
-- out of order, or with a required key passed over ..: parse.cbor. .. Keys and t have no length range of their own, and any content that is
-- not a known name is schema.unknown_field." From the top: a text of any length; which name of its place it is, and where it is none, Unknown
-- at the key; where another is wanted, Cbor at the key.
use Rattle.std.specs.Prelude.{List, [], ◌∷◌, ℕ, suc, eqb, Option, Some, None, Ok}
use Prim.Native.String.{String}
use Rattle.basis.specs.Basis.{pick, ascii, between}
use Rattle.basis.specs.Same.{same_of}
use Rattle.basis.specs.Limits.{number_most}
use Rattle.basis.specs.declared.Span.{Span}
use Rattle.cbor_heads.specs.Defects.{Reading, bad, after}
use Rattle.cbor_heads.specs.declared.defect.Kind.TheVariants.{Cbor, Unknown}
use Rattle.cbor_heads.specs.Majors.{text_string}
use Rattle.cbor_strings.specs.Reading.{read_run}
use Rattle.cbor_keys.specs.declared.Names.{Names}
use Rattle.cbor_keys.specs.Keys.{keys_of}

-- the index of the first name that the content is, if it is one
unfoldable pub index_from : ℕ → List ℕ → List String → Option ℕ
index_from i c [] = None
index_from i c (n ∷ ns) = pick (same_of c (ascii n)) (Some i) (index_from (suc i) c ns)

abbrev pub index_of_key : Names → List ℕ → Option ℕ
index_of_key names c = index_from 0 c (keys_of names)

abbrev pub known_by : ℕ → ℕ → Option ℕ → Reading (ℕ × ℕ)
known_by at to None = bad Unknown at
known_by at to (Some index) = Ok (index, to)

unfoldable pub key_by : Names → List ℕ → ℕ → Span → Reading (ℕ × ℕ)
key_by names s at part = known_by at part.to (index_of_key names (between s part))

abbrev pub key_at : Names → List ℕ → ℕ → Reading (ℕ × ℕ)
key_at names s at = after (key_by names s at) (read_run s at text_string 0 number_most)

-- where the key wanted ends; another that is known is out of its place
unfoldable pub wanted_by : ℕ → ℕ → (ℕ × ℕ) → Reading ℕ
wanted_by at want (index, next) = pick (eqb index want) (Ok next) (bad Cbor at)

abbrev pub wanted_key : Names → List ℕ → ℕ → ℕ → Reading ℕ
wanted_key names s at want = after (wanted_by at want) (key_at names s at)
