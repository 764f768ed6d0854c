-- Reading. Need not be believed: it ends where `read_methods` does (`methods_list`), and the laws fix its parts. A method list as it lies.
-- From the top: the array's head and its count; then each method, a string.
use Rattle.std.specs.Prelude.{List, ℕ, Ok}
use Rattle.basis.specs.Basis.{from_to}
use Rattle.basis.specs.Limits.{methods_most}
use Rattle.cbor_heads.specs.Defects.{Reading, after}
use Rattle.cbor_heads.specs.Counts.{array_up_to}
use Rattle.cbor_values.specs.Reading.{items_of}
use Rattle.cbor_values.specs.Lists.{list_of}
use Rattle.cbor_values.specs.declared.ListAt.{ListAt}
use Rattle.token_scope.specs.Fields.{method_at}

-- how many there are, where the first begins and where the last ends
unfoldable pub methods_by : List ℕ → (ℕ × ℕ) → Reading ListAt
methods_by s (count, from) = after (λ to. Ok (list_of count (from_to from to))) (items_of (method_at s) count from)

abbrev pub methods_of : List ℕ → ℕ → Reading ListAt
methods_of s at = after (methods_by s) (array_up_to methods_most s at)

-- where it ends, or its defect
abbrev pub methods_end : Reading ListAt → Reading ℕ
methods_end = after (λ methods. Ok methods.span.to)
