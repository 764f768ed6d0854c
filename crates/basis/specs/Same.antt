-- Meaning. Whether two strings of bytes are the same: they are as long, and so are their bytes one by one.
use Rattle.std.specs.Prelude.{Bool, List, ℕ}
use Rattle.std.specs.Str.{bytes_eq}

abbrev pub same_of : List ℕ → List ℕ → Bool
same_of = bytes_eq
