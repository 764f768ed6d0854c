-- Reading. Need not be believed: the laws fix it both ways (`table_written`, `table_read`, `find_finds`), since it has one defect. A key
-- table, and the lookup. From the top: row by row to the end, 64 at most; of each row the record and its kind, tid, kid, and 32 bytes of key
-- behind which the body ends; and its ids stand behind those of the row before. The lookup goes over the same rows.
use Rattle.std.specs.Prelude.{Bool, true, false, List, [], ℕ, zero, suc, ◌-◌, eqb, ltb, length, Option, Some, None}
use Rattle.std.specs.Option.{option_map_or}
use Rattle.basis.specs.Basis.{pick, from_to, between}
use Rattle.basis.specs.declared.Span.{Span}
use Rattle.basis.specs.Limits.{key_length, name_most, row_kind, rows_most}
use Rattle.cbor_strings.specs.declared.Class.TheVariants.{Name}
use Rattle.records.specs.Reading.{◌and_then◌, text_at, read_record}
use Rattle.records_table.specs.Order.{ascends, same_ids}
use Rattle.records_table.specs.declared.RowAt.{RowAt}

-- the three parts of a row
abbrev pub row_with : Span → Span → Span → RowAt
row_with tid kid key = record { tid = tid; kid = kid; key = key }

-- a row: 32 bytes of key are left behind kid, and no more
unfoldable pub read_row : List ℕ → ℕ → Option RowAt
read_row s at =
    read_record s at and_then λ found.
    pick (eqb found.kind row_kind) (
    text_at s 1 Name 1 name_most found.body.from and_then λ tid.
    text_at s 1 Name 1 name_most tid.to and_then λ kid.
    pick (ltb found.body.to kid.to) None (
    pick (eqb (found.body.to - kid.to) key_length) (Some (row_with tid kid (from_to kid.to found.body.to))) None)) None

-- a row behind the one with ids t and k
unfoldable pub row_after : List ℕ → List ℕ → List ℕ → ℕ → Option RowAt
row_after s t k at = read_row s at and_then λ row. pick (ascends t k (between s row.tid) (between s row.kid)) (Some row) None

-- at most so many rows from a place on, the first behind that with ids t and k; a row ends where its key does
unfoldable pub ok_from : ℕ → List ℕ → List ℕ → List ℕ → ℕ → Bool
ok_from zero s t k at = eqb at (length s)
ok_from (suc n) s t k at =
    pick (eqb at (length s)) true (option_map_or (λ row. ok_from n s (between s row.tid) (between s row.kid) row.key.to) (row_after s t k at) false)

unfoldable pub table_ok : List ℕ → Bool
table_ok s = ok_from rows_most s [] [] 0

-- where the key lies of the row with these ids, among at most so many rows from a place on
unfoldable pub key_from : ℕ → List ℕ → List ℕ → List ℕ → ℕ → Option Span
key_from zero s tid kid at = None
key_from (suc n) s tid kid at =
    read_row s at and_then λ row. pick (same_ids (between s row.tid) (between s row.kid) tid kid) (Some row.key) (key_from n s tid kid row.key.to)

-- the key's bytes, and the place where it lies in the table
unfoldable pub find_from : ℕ → List ℕ → List ℕ → List ℕ → ℕ → List ℕ
find_from n s tid kid at = option_map_or (between s) (key_from n s tid kid at) []

unfoldable pub place_from : ℕ → List ℕ → List ℕ → List ℕ → ℕ → ℕ
place_from n s tid kid at = option_map_or (λ key. key.from) (key_from n s tid kid at) 0

unfoldable pub lookup_of : List ℕ → List ℕ → List ℕ → List ℕ
lookup_of s tid kid = pick (table_ok s) (find_from rows_most s tid kid 0) []

unfoldable pub lookup_place : List ℕ → List ℕ → List ℕ → ℕ
lookup_place s tid kid = pick (table_ok s) (place_from rows_most s tid kid 0) 0
