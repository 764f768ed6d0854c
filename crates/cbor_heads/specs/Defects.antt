-- Meaning. What may be wrong with what is read: one of three kinds, which document 01 numbers 4, 5 and 6 ("Numbers and names"), and the
-- place of the item at fault. And one reading, left to right ("Reading order"): "the first defect is the answer".
use Rattle.std.specs.Prelude.{ℕ, Result, Ok, Err}
use Rattle.answers.specs.Answers.{number_of}
use Rattle.answers.specs.declared.Answer.{Answer}
use Rattle.answers.specs.declared.Answer.TheVariants.{ParseCbor, ParseBounds, SchemaUnknownField}
use Rattle.cbor_heads.specs.declared.defect.Kind.{Kind}
use Rattle.cbor_heads.specs.declared.defect.Kind.TheVariants.{Cbor, Bounds, Unknown}
use Rattle.cbor_heads.specs.declared.defect.Defect.{Defect}
use Rattle.cbor_heads.specs.declared.defect.NumberedDefect.{NumberedDefect}

-- what a reading gives: what was read, or the first defect
abbrev pub Reading : Type 0 → Type 0
Reading A = Result A Defect

abbrev pub defect : Kind → ℕ → Defect
defect kind at = record { kind = kind; at = at }

abbrev pub bad : {A : Type 0} → Kind → ℕ → Reading A
bad kind at = Err (defect kind at)

-- a step that is right hands what it found to the rest, and a step's defect is the answer of the whole
abbrev pub after : {A B : Type 0} → (A → Reading B) → Reading A → Reading B
after rest (Err d) = Err d
after rest (Ok found) = rest found

-- the same, for a reading told step by step
infixl 10 ◌>>=◌
abbrev pub ◌>>=◌ : {A B : Type 0} → Reading A → (A → Reading B) → Reading B
r >>= rest = after rest r

-- "parse.cbor", "parse.bounds", "schema.unknown_field"
abbrev pub kind_answer : Kind → Answer
kind_answer Cbor = ParseCbor
kind_answer Bounds = ParseBounds
kind_answer Unknown = SchemaUnknownField

-- 4, 5 and 6
abbrev pub kind_number : Kind → ℕ
kind_number kind = number_of (kind_answer kind)

-- as a caller with numbers of its own is told it: too many by its number, any other defect by document 01's
abbrev pub number_by : ℕ → Kind → ℕ
number_by above Cbor = kind_number Cbor
number_by above Bounds = above
number_by above Unknown = kind_number Unknown

abbrev pub numbered : ℕ → Defect → NumberedDefect
numbered above d = record { number = number_by above d.kind; at = d.at }
