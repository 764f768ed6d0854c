-- Meaning. What a scope is, which scopes are within limits, and how one is written. Document 01, "Token bytes": "scope r: prefix (may be
-- absent), methods, max_bytes (may be absent)".
use Rattle.std.specs.Prelude.{List, [], ◌∷◌, ◌++◌, ℕ, ◌+◌, ◌≤◌, length}
use Rattle.std.proofs.Math.Option.{Option}
use Rattle.basis.specs.Limits.{method_most, methods_most, path_most, Number64}
use Rattle.cbor_heads.specs.Majors.{unsigned, array, map}
use Rattle.cbor_heads.specs.Heads.{head}
use Rattle.cbor_strings.specs.declared.Class.TheVariants.{Path, Upper}
use Rattle.cbor_keys.specs.Maps.{text, texts, entry, entry_if, present, IfPresent, GoodText}

-- a method list keeps its order and its repeats
pub record Scope : Type 0 where
  pub prefix : Option (List ℕ)
  pub methods : List (List ℕ)
  pub max_bytes : Option ℕ

unfoldable pub encode_methods : List (List ℕ) → List ℕ
encode_methods ms = head array (length ms) ++ texts ms

unfoldable pub encode_scope : Scope → List ℕ
encode_scope s =
    head map (present s.prefix + 1 + present s.max_bytes)
    ++ (entry_if "prefix" text s.prefix
    ++ (entry "methods" (encode_methods s.methods)
    ++ entry_if "max_bytes" (head unsigned) s.max_bytes))

-- 01: "1 to 16 letters A-Z"
unfoldable pub AllMethods : List (List ℕ) → Type 0
AllMethods [] = Unit {0}
AllMethods (m ∷ ms) = GoodText Upper 1 method_most m × AllMethods ms

-- 01: "Method lists: 0 to 16 of" these
pub record GoodMethods (ms : List (List ℕ)) : Type 0 where
  pub few : length ms ≤ methods_most
  pub each : AllMethods ms

-- 01: "Prefix and path_prefix: 1 to 256 such bytes, first "/""
abbrev pub GoodPath : List ℕ → Type 0
GoodPath = GoodText Path 1 path_most

pub record GoodScope (s : Scope) : Type 0 where
  pub good_prefix : IfPresent GoodPath s.prefix
  pub good_methods : GoodMethods s.methods
  pub good_max_bytes : IfPresent Number64 s.max_bytes
