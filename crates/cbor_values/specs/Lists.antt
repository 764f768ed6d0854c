-- Inner. A list as it lies: how many items there are, and from where to where.
use Rattle.std.specs.Prelude.{ℕ}
use Rattle.basis.specs.declared.Span.{Span}
use Rattle.cbor_values.specs.declared.ListAt.{ListAt}

abbrev pub list_of : ℕ → Span → ListAt
list_of count part = record { count = count; span = part }
