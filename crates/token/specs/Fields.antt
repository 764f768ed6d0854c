-- Reading. A token is the one reading of maps (ReadMap of `cbor_keys`) with these keys, and nothing behind it. Document 01, "Token bytes":
-- "token, all six: c, r, s, v, kid, tid. v is 1; s is 32 bytes; c is an array of 0 to 64 caveats"; "Reading order": "One reading, left to
-- right; the first defect is the answer. .. All else, and bytes left over: parse.cbor."
use Rattle.std.specs.Prelude.{List, [], ◌∷◌, ℕ, ◌+◌, eqb, length, drop, Ok, Err}
use Rattle.basis.specs.Basis.{pick}
use Rattle.basis.specs.Limits.{caveats_most}
use Rattle.cbor_heads.specs.Defects.{Reading, bad, after}
use Rattle.cbor_heads.specs.Counts.{array_up_to}
use Rattle.cbor_heads.specs.declared.defect.Kind.TheVariants.{Cbor}
use Rattle.cbor_values.specs.Reading.{items_of}
use Rattle.cbor_keys.specs.Fields.{name_at}
use Rattle.cbor_keys.specs.ReadMap.{Field, required, content_end, read_map}
use Rattle.cbor_keys.specs.declared.Names.TheVariants.{Token as TokenKeys}
use Rattle.token_scope.specs.Fields.{read_scope}
use Rattle.token_caveat.specs.Fields.{read_caveat}
use Rattle.token_back.specs.Values.{tag_at, version_at}

-- "Each caveat is read .. where it lies in the middle of the decoded token": from its first byte on, its places counted in the token
abbrev pub moved_to : ℕ → Reading ℕ → Reading ℕ
moved_to at (Err d) = bad d.kind (at + d.at)
moved_to at (Ok n) = Ok (at + n)

abbrev pub read_caveat_at : List ℕ → ℕ → Reading ℕ
read_caveat_at s at = moved_to at (read_caveat (drop at s))

-- "Array count over its limit ..: parse.bounds"
abbrev pub read_caveats : List ℕ → ℕ → Reading ℕ
read_caveats s at = after (λ (count, from). items_of (read_caveat_at s) count from) (array_up_to caveats_most s at)

abbrev pub token_fields : List ℕ → List Field
token_fields s =
    required (read_caveats s)
    ∷ required (read_scope s)
    ∷ required (λ at. content_end (tag_at s at))
    ∷ required (version_at s)
    ∷ required (λ at. content_end (name_at s at))
    ∷ required (λ at. content_end (name_at s at))
    ∷ []

-- nothing stands behind the map
abbrev pub whole_then : List ℕ → ℕ → Reading ℕ
whole_then s to = pick (eqb to (length s)) (Ok to) (bad Cbor to)

abbrev pub read_token : List ℕ → Reading ℕ
read_token s = after (whole_then s) (read_map TokenKeys (token_fields s) s 0)
