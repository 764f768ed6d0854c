-- Reading. The one reading of a map, number and place of its first defect included. Document 01, "Reading order": "A map with more entries
-- than it has known keys: schema.unknown_field; fewer than it requires: parse.cbor. Its key not known: schema.unknown_field; known but
-- repeated, out of order, or with a required key passed over or absent at the end: parse.cbor." Token, scope, caveat, rate and custom are
-- this reading with their keys. From the top: the head and its count; then, entry by entry, the key, whether it may stand there, and its
-- value; behind the last, whether a required key is absent. A count and an absent key are defects of the map's head, a key out of place one
-- of that key.
use Rattle.std.specs.Prelude.{Ok, Bool, true, false, List, [], ◌∷◌, ℕ, zero, suc, ◌+◌, ◌-◌, eqb, ltb, length}
use Rattle.basis.specs.Basis.{pick}
use Rattle.basis.specs.declared.Span.{Span}
use Rattle.cbor_heads.specs.Defects.{Reading, bad, after}
use Rattle.cbor_heads.specs.declared.defect.Kind.TheVariants.{Cbor}
use Rattle.cbor_heads.specs.Counts.{map_with}
use Rattle.cbor_keys.specs.Reading.{key_at}
use Rattle.cbor_keys.specs.declared.Names.{Names}

-- what a map says of a key: whether it is required, and how its value is read, given where the values before it begin (the last one first) and
-- where it begins itself. The value of v is the one that looks back: it is read as the t before it says
pub record Field : Type 0 where
  pub required : Bool
  pub value : List ℕ → ℕ → Reading ℕ

abbrev pub required : (ℕ → Reading ℕ) → Field
required value = record { required = true; value = λ before. value }

abbrev pub optional : (ℕ → Reading ℕ) → Field
optional value = record { required = false; value = λ before. value }

-- where a value ends, or its defect
abbrev pub content_end : Reading Span → Reading ℕ
content_end = after (λ part. Ok part.to)

abbrev pub pair_end : {A : Type 0} → Reading (A × ℕ) → Reading ℕ
pair_end = after (λ (found, next). Ok next)

unfoldable pub required_of : List Field → ℕ
required_of [] = 0
required_of (f ∷ fs) = pick f.required 1 0 + required_of fs

-- the i-th of these fields and those behind it, if no required one is passed over
unfoldable pub field_at : {A : Type 0} → A → (Field → List Field → A) → ℕ → List Field → A
field_at none some i [] = none
field_at none some zero (f ∷ fs) = some f fs
field_at none some (suc i) (f ∷ fs) = pick f.required none (field_at none some i fs)

-- a value, and the entries behind it
abbrev pub field_then : (List Field → List ℕ → ℕ → Reading ℕ) → List ℕ → ℕ → Field → List Field → Reading ℕ
field_then rest before at f fs = after (rest fs (at ∷ before)) (f.value before at)

-- a key that is known; `i` is the first index that has not been passed, and `fields` are those from it on
abbrev pub entry_then : (ℕ → List Field → List ℕ → ℕ → Reading ℕ) → ℕ → List Field → List ℕ → ℕ → (ℕ × ℕ) → Reading ℕ
entry_then rest i fields before at (index, next) = pick (ltb index i) (bad Cbor at) (field_at (bad Cbor at) (field_then (rest (suc index)) before next) (index - i) fields)

-- so many entries of the map at `map`
unfoldable pub entries_of : Names → List ℕ → ℕ → ℕ → ℕ → List Field → List ℕ → ℕ → Reading ℕ
entries_of names s map zero i fields before at = pick (eqb (required_of fields) 0) (Ok at) (bad Cbor map)
entries_of names s map (suc k) i fields before at = after (entry_then (entries_of names s map k) i fields before at) (key_at names s at)

-- `names` are the known keys, and `fields` what the map says of them
abbrev pub read_map : Names → List Field → List ℕ → ℕ → Reading ℕ
read_map names fields s at = after (λ (n, next). entries_of names s at n 0 fields [] next) (map_with (required_of fields) (length fields) s at)
