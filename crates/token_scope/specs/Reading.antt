-- Reading. Need not be believed: it ends where `read_scope` does (`scope_map`), and the laws fix its parts. A scope as it lies, entry by
-- entry, as the code reads it. From the top: the map's head, of one to three entries; the first key, which is prefix or methods; behind a
-- prefix, methods; behind the methods, max_bytes, if an entry is left; behind max_bytes nothing may be left.
use Rattle.std.specs.Prelude.{List, ℕ, ◌-◌, eqb, ltb, Option, Some, None, Ok}
use Rattle.basis.specs.Basis.{pick}
use Rattle.basis.specs.Limits.{path_most, number_most}
use Rattle.basis.specs.declared.Span.{Span}
use Rattle.cbor_heads.specs.Defects.{Reading, bad, after}
use Rattle.cbor_heads.specs.declared.defect.Kind.TheVariants.{Cbor}
use Rattle.cbor_heads.specs.Counts.{map_with}
use Rattle.cbor_strings.specs.Reading.{read_string}
use Rattle.cbor_strings.specs.declared.Class.TheVariants.{Path}
use Rattle.cbor_values.specs.declared.ListAt.{ListAt}
use Rattle.cbor_keys.specs.Indexes.{scope_prefix, scope_methods, scope_max_bytes}
use Rattle.cbor_keys.specs.Reading.{key_at, wanted_key}
use Rattle.cbor_keys.specs.Fields.{number_field}
use Rattle.cbor_keys.specs.ReadMap.{pair_end}
use Rattle.cbor_keys.specs.declared.Names.TheVariants.{Scope as ScopeKeys}
use Rattle.token_scope.specs.Methods.{methods_of}
use Rattle.token_scope.specs.declared.ScopeAt.{ScopeAt}

-- the three parts of a scope
abbrev pub three_parts : Option Span → ListAt → Option ℕ → ScopeAt
three_parts prefix methods limit = record { prefix = prefix; methods = methods; max_bytes = limit }

-- max_bytes is the last key: another behind it is out of its place
unfoldable pub max_bytes_then : List ℕ → Option Span → ListAt → ℕ → (ℕ × ℕ) → Reading (ScopeAt × ℕ)
max_bytes_then s prefix methods left (n, next) =
    pick (eqb left 1) (Ok (three_parts prefix methods (Some n), next)) (after (λ another. bad Cbor next) (key_at ScopeKeys s next))

-- behind the methods, where `left` entries are left
unfoldable pub limit_then : List ℕ → Option Span → ℕ → ListAt → Reading (ScopeAt × ℕ)
limit_then s prefix left methods =
    pick (eqb left 0) (Ok (three_parts prefix methods None, methods.span.to))
    (after (max_bytes_then s prefix methods left) (number_field ScopeKeys s methods.span.to scope_max_bytes number_most))

-- the methods' value, behind which `left` entries follow
unfoldable pub methods_then : List ℕ → Option Span → ℕ → ℕ → Reading (ScopeAt × ℕ)
methods_then s prefix left at = after (limit_then s prefix left) (methods_of s at)

-- behind the prefix, in a map of n entries at `at`
unfoldable pub prefix_next : List ℕ → ℕ → ℕ → Span → Reading (ScopeAt × ℕ)
prefix_next s at n prefix =
    pick (ltb n 2) (bad Cbor at) (after (methods_then s (Some prefix) (n - 2)) (wanted_key ScopeKeys s prefix.to scope_methods))

unfoldable pub prefix_then : List ℕ → ℕ → ℕ → ℕ → Reading (ScopeAt × ℕ)
prefix_then s at n next = after (prefix_next s at n) (read_string s next Path 1 path_most)

-- the first key, which stands at `first`
unfoldable pub first_then : List ℕ → ℕ → ℕ → ℕ → (ℕ × ℕ) → Reading (ScopeAt × ℕ)
first_then s at n first (index, next) =
    pick (eqb index scope_prefix) (prefix_then s at n next) (pick (eqb index scope_methods) (methods_then s None (n - 1) next) (bad Cbor first))

unfoldable pub entries_then : List ℕ → ℕ → (ℕ × ℕ) → Reading (ScopeAt × ℕ)
entries_then s at (n, first) = after (first_then s at n first) (key_at ScopeKeys s first)

unfoldable pub scope_of : List ℕ → ℕ → Reading (ScopeAt × ℕ)
scope_of s at = after (entries_then s at) (map_with 1 3 s at)

-- where it ends, or its defect
abbrev pub scope_end : Reading (ScopeAt × ℕ) → Reading ℕ
scope_end = pair_end
