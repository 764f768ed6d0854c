-- Reading. The key wanted and the value behind it, for the values that several maps have: names and numbers.
use Rattle.std.specs.Prelude.{List, ℕ}
use Rattle.basis.specs.declared.Span.{Span}
use Rattle.basis.specs.Limits.{name_most}
use Rattle.cbor_heads.specs.Defects.{Reading, after}
use Rattle.cbor_heads.specs.Counts.{number_up_to}
use Rattle.cbor_strings.specs.Reading.{read_string}
use Rattle.cbor_strings.specs.declared.Class.TheVariants.{Name}
use Rattle.cbor_keys.specs.Reading.{wanted_key}
use Rattle.cbor_keys.specs.declared.Names.{Names}

-- 01: "tid, kid, tenant, ns, name: 1 to 64 of letters, digits, "-", ".", "_""
abbrev pub name_at : List ℕ → ℕ → Reading Span
name_at s at = read_string s at Name 1 name_most

abbrev pub name_field : Names → List ℕ → ℕ → ℕ → Reading Span
name_field names s at want = after (name_at s) (wanted_key names s at want)

abbrev pub number_field : Names → List ℕ → ℕ → ℕ → ℕ → Reading (ℕ × ℕ)
number_field names s at want most = after (number_up_to most s) (wanted_key names s at want)
