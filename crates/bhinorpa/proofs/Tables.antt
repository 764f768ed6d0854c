-- A table's bytes are those of one good table exactly where the reading takes them.
use mathlib.Core.Path.{◌≡◌, refl, sym, ap, ◌∙◌}
use mathlib.Core.Bool.{Bool, true, false}
use mathlib.Core.List.{List}
use Prim.Native.Nat.{ℕ}
use native.Mathlib.Omega.{arith}
use Rattle.basis.specs.Basis.{pick, IsBytes}
use Rattle.records_table.specs.Tables.{Row}
use Rattle.records_table.specs.Reading.{table_ok}
use Rattle.records_table.proofs.TableLaws.{table_written, table_read}
use Rattle.bhinorpa.specs.Allowed.{EncodesTable}
use Rattle.bhinorpa.specs.Verdicts.{NoTable}

pub good_table : (table : List ℕ) (rows : List Row) → EncodesTable table rows → table_ok table ≡ true
good_table table rows t = ap table_ok t.written ∙ table_written rows t.good

pub bad_table : (table : List ℕ) → IsBytes table → NoTable table → table_ok table ≡ false
bad_table table b h = by (table_ok table) refl
  where
    by : (u : Bool) → table_ok table ≡ u → u ≡ false
    by false e = refl
    by true e = let t = table_read table b e in let z = h t.rows (record { good = t.good; written = t.whole }) in elim z [ ]

-- every table's bytes have rows, or are no table's
pub data TableIs (table : List ℕ) : Type 0 where
  no_table : NoTable table → TableIs table
  one_table : (rows : List Row) → EncodesTable table rows → TableIs table

pub table_is : (table : List ℕ) → IsBytes table → TableIs table
table_is table b = by (table_ok table) refl
  where
    none : table_ok table ≡ false → NoTable table
    none e rows t = let z : ◌≡◌ {A = ℕ} 0 1 = ap (λ (u : Bool). pick u 1 0) (sym e ∙ good_table table rows t) in omega arith

    by : (u : Bool) → table_ok table ≡ u → TableIs table
    by false e = no_table (none e)
    by true e = let t = table_read table b e in one_table t.rows (record { good = t.good; written = t.whole })
