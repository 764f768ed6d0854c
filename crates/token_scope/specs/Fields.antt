-- Reading. A scope is the one reading of maps (ReadMap of `cbor_keys`) with these keys. Document 01, "Token bytes": "scope r: prefix (may be
-- absent), methods, max_bytes (may be absent)."
use Rattle.std.specs.Prelude.{List, [], ◌∷◌, ℕ}
use Rattle.basis.specs.Limits.{path_most, method_most, methods_most, number_most}
use Rattle.cbor_heads.specs.Defects.{Reading, after}
use Rattle.cbor_heads.specs.Counts.{array_up_to, number_up_to}
use Rattle.cbor_strings.specs.Reading.{read_string}
use Rattle.cbor_strings.specs.declared.Class.TheVariants.{Path, Upper}
use Rattle.cbor_values.specs.Reading.{items_of}
use Rattle.cbor_keys.specs.ReadMap.{Field, required, optional, content_end, pair_end, read_map}
use Rattle.cbor_keys.specs.declared.Names.TheVariants.{Scope as ScopeKeys}

-- 01: "Method lists: 0 to 16 of 1 to 16 letters A-Z"; "Array count over its limit ..: parse.bounds". The array's head and its count; then each
-- method, a string
abbrev pub method_at : List ℕ → ℕ → Reading ℕ
method_at s at = content_end (read_string s at Upper 1 method_most)

abbrev pub read_methods : List ℕ → ℕ → Reading ℕ
read_methods s at = after (λ (count, from). items_of (method_at s) count from) (array_up_to methods_most s at)

abbrev pub scope_fields : List ℕ → List Field
scope_fields s =
    optional (λ at. content_end (read_string s at Path 1 path_most))
    ∷ required (read_methods s)
    ∷ optional (λ at. pair_end (number_up_to number_most s at))
    ∷ []

abbrev pub read_scope : List ℕ → ℕ → Reading ℕ
read_scope s = read_map ScopeKeys (scope_fields s) s
