-- Meaning. The major types (RFC 8949, 3.1) and the simple values (3.3) that are read or written.
use Rattle.std.specs.Prelude.{ℕ}

abbrev pub unsigned : ℕ
unsigned = 0

abbrev pub negative : ℕ
negative = 1

abbrev pub byte_string : ℕ
byte_string = 2

abbrev pub text_string : ℕ
text_string = 3

abbrev pub array : ℕ
array = 4

abbrev pub map : ℕ
map = 5

abbrev pub simple : ℕ
simple = 7

-- the simple values
abbrev pub simple_false : ℕ
simple_false = 20

abbrev pub simple_true : ℕ
simple_true = 21

abbrev pub simple_null : ℕ
simple_null = 22
