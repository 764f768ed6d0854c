-- Reading. A number, or the count of an array or a map, within limits: the one reading of it. Document 01, "Reading order": "A map with
-- more entries than it has known keys: schema.unknown_field; fewer than it requires: parse.cbor"; "Array count over its limit, .. rate
-- number over range: parse.bounds". `above` is the kind for too many. From the top: its head, its type, too few, too many.
use Rattle.std.specs.Prelude.{List, ℕ, ltb, eqb, Result, Ok, Err}
use Rattle.basis.specs.Basis.{pick}
use Rattle.cbor_heads.specs.Majors.{unsigned, array, map}
use Rattle.cbor_heads.specs.Defects.{Reading, bad, after, numbered}
use Rattle.cbor_heads.specs.Reading.{read_head}
use Rattle.cbor_heads.specs.declared.Head.{Head}
use Rattle.cbor_heads.specs.declared.defect.Kind.{Kind}
use Rattle.cbor_heads.specs.declared.defect.NumberedDefect.{NumberedDefect}
use Rattle.cbor_heads.specs.declared.defect.Kind.TheVariants.{Cbor, Bounds, Unknown}

-- the number and the place behind it
unfoldable pub count_by : ℕ → ℕ → ℕ → ℕ → Kind → Head → Reading (ℕ × ℕ)
count_by at major least most above h =
    pick (eqb h.major major)
    (pick (ltb h.value least) (bad Cbor at)
    (pick (ltb most h.value) (bad above at) (Ok (h.value, h.next))))
    (bad Cbor at)

abbrev pub read_count : List ℕ → ℕ → ℕ → ℕ → ℕ → Kind → Reading (ℕ × ℕ)
read_count s at major least most above = after (count_by at major least most above) (read_head s at)

-- the same for a caller with numbers of its own, of which `above` is that for too many
abbrev pub by_number : ℕ → Reading (ℕ × ℕ) → Result (ℕ × ℕ) NumberedDefect
by_number above (Ok found) = Ok found
by_number above (Err d) = Err (numbered above d)

abbrev pub count_numbered : List ℕ → ℕ → ℕ → ℕ → ℕ → ℕ → Result (ℕ × ℕ) NumberedDefect
count_numbered s at major least most above = by_number above (read_count s at major least most Bounds)

-- "A map with more entries than it has known keys: schema.unknown_field; fewer than it requires: parse.cbor"
abbrev pub map_with : ℕ → ℕ → List ℕ → ℕ → Reading (ℕ × ℕ)
map_with required known s at = read_count s at map required known Unknown

-- "Array count over its limit ..: parse.bounds"
abbrev pub array_up_to : ℕ → List ℕ → ℕ → Reading (ℕ × ℕ)
array_up_to most s at = read_count s at array 0 most Bounds

-- "rate number over range: parse.bounds"
abbrev pub number_up_to : ℕ → List ℕ → ℕ → Reading (ℕ × ℕ)
number_up_to most s at = read_count s at unsigned 0 most Bounds
