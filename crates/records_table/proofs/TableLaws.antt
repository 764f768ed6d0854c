-- Tables both ways: a good one that was written is found good and its rows are found, and what is found good is such a table, written.
use mathlib.Core.Path.{◌≡◌, refl, sym, ap, ◌∙◌}
use mathlib.Core.Bool.{Bool, true, false}
use mathlib.Core.List.{List, [], ◌∷◌, ◌++◌}
use Prim.Native.Nat.{ℕ, zero, suc, ◌-◌, ◌≤◌}
use native.Mathlib.Omega.{arith}
use borrow.Author.Tests.{eqb-true, eq-eqb, ne_eqb, le-ltb, lt-ltb}
use lib.Dec.{eqb}
use lib.ListN.{length, drop, length-drop, drop_of_length-le}
use Rattle.std.specs.Prelude.{Option, Some, None}
use Rattle.std.specs.Option.{option_map_or}
use Rattle.basis.specs.declared.Span.{Span}
use Rattle.basis.specs.Basis.{pick, between, IsBytes}
use Rattle.basis.proofs.Parts.{on}
use Rattle.records.specs.Records.{little, record_bytes}
use Rattle.records.specs.Reading.{run_at, little_at, read_record}
use Rattle.records_table.specs.Order.{same_ids}
use Rattle.records_table.specs.Tables.{Row, encode_row, encode_table, GoodFrom, GoodTable, has_row, key_in}
use Rattle.records_table.specs.Reading.{read_row, row_after, ok_from, table_ok, key_from, find_from, lookup_of}
use Rattle.records_table.specs.declared.RowAt.{RowAt}
use Rattle.records_table.proofs.Rows.{row_written, row_read}
use Rattle.records_table.proofs.Walks.{ended, ordered}

-- nothing is left only at the end
at_end : (s : List ℕ) (at : ℕ) → at ≤ length s → drop at s ≡ [] → at ≡ length s
at_end s at i e = let l : length s - at ≡ 0 = sym (length-drop at s) ∙ ap length e in omega arith

-- a row is not nothing
not_end : (s : List ℕ) (at : ℕ) (r : Row) (t : List ℕ) → drop at s ≡ encode_row r ++ t → at ≡ length s → ⊥
unfolding encode_row record_bytes little
not_end s at r t e z =
    let l = sym (length-drop at s) ∙ ap length e in
    omega (arith, l)

ok_written : (rs : List Row) (n : ℕ) → length rs ≤ n → (t k : List ℕ) → GoodFrom t k rs → (s : List ℕ) (at : ℕ) → at ≤ length s → drop at s ≡ encode_table rs → ok_from n s t k at ≡ true
unfolding GoodFrom encode_table ok_from row_after
ok_written [] n l t k g s at i e = ended n s t k at (at_end s at i e)
ok_written (r ∷ rs) zero l t k g s at i e = let z : ⊥ = omega arith in elim z [ ]
ok_written (r ∷ rs) (suc n) l t k g s at i e =
    let w = row_written r g.0 s (encode_table rs) at i e in
    let m = ok_written rs n (omega arith) r.tid r.kid g.2 s w.row.key.to w.inside w.behind in
    rw (ne_eqb at (length s) (not_end s at r (encode_table rs) e), w.answer, w.tid_held, w.kid_held, g.1, w.tid_held, w.kid_held) m

pub table_written : (rs : List Row) → GoodTable rs → table_ok (encode_table rs) ≡ true
unfolding table_ok
table_written rs g = ok_written rs 64 g.few [] [] g.rows (encode_table rs) 0 (omega arith) refl

-- rows from a place on
record AreRows (n : ℕ) (s t k : List ℕ) (at : ℕ) : Type 0 where
  pub rows : List Row
  pub few : length rows ≤ n
  pub good : GoodFrom t k rows
  pub there : drop at s ≡ encode_table rows

none_left : (n : ℕ) (s t k : List ℕ) (at : ℕ) → at ≡ length s → AreRows n s t k at
unfolding GoodFrom encode_table
none_left n s t k at z = record { rows = []; few = omega arith; good = tt; there = drop_of_length-le s {i = at} (omega arith) }

ok_read : (s : List ℕ) → IsBytes s → (n : ℕ) (t k : List ℕ) (at : ℕ) → ok_from n s t k at ≡ true → AreRows n s t k at
unfolding ok_from GoodFrom encode_table
ok_read s b zero t k at e = none_left 0 s t k at (eqb-true at (length s) e)
ok_read s b (suc n) t k at e = by (eqb at (length s)) refl e (ok_read s b n)
  where
    went : (r : Option RowAt) → row_after s t k at ≡ r → option_map_or (λ row. ok_from n s (between s row.tid) (between s row.kid) row.key.to) r false ≡ true
        → ((t k : List ℕ) (at : ℕ) → ok_from n s t k at ≡ true → AreRows n s t k at) → AreRows (suc n) s t k at
    went None p e m = cc
    went (Some row) p e m =
        let o = ordered s t k at p in
        let r = row_read s b at o.0 in
        let v = m (between s row.tid) (between s row.kid) row.key.to e in
        record {
          rows = r.tree ∷ v.rows;
          few = omega (arith, v.few);
          good = (r.good, rw (← r.tid_held, ← r.kid_held) o.1, rw (← r.tid_held, ← r.kid_held) v.good);
          there = on (encode_row r.tree) r.there v.there;
        }

    by : (u : Bool) → eqb at (length s) ≡ u
        → pick u true (option_map_or (λ row. ok_from n s (between s row.tid) (between s row.kid) row.key.to) (row_after s t k at) false) ≡ true
        → ((t k : List ℕ) (at : ℕ) → ok_from n s t k at ≡ true → AreRows n s t k at) → AreRows (suc n) s t k at
    by true p e m = none_left (suc n) s t k at (eqb-true at (length s) p)
    by false p e m = went (row_after s t k at) refl e m

-- a good table, whole
pub record IsTable (s : List ℕ) : Type 0 where
  pub rows : List Row
  pub good : GoodTable rows
  pub whole : s ≡ encode_table rows

pub table_read : (s : List ℕ) → IsBytes s → table_ok s ≡ true → IsTable s
unfolding table_ok
table_read s b e = let r = ok_read s b 64 [] [] 0 e in record { rows = r.rows; good = record { few = r.few; rows = r.good }; whole = r.there }

-- no row begins at the end
no_row : (s : List ℕ) (at : ℕ) → at ≡ length s → read_row s at ≡ None
unfolding read_row read_record little_at run_at
no_row s at z = rw (le-ltb (length s) at (omega arith), lt-ltb (length s - at) 2 (omega arith))

key_or_rest : (s : List ℕ) (key : Span) (rest : Option Span) {k m : List ℕ} → between s key ≡ k → option_map_or (between s) rest [] ≡ m → (b : Bool)
    → option_map_or (between s) (pick b (Some key) rest) [] ≡ pick b k m
key_or_rest s key rest e f true = e
key_or_rest s key rest e f false = f

find_written : (rs : List Row) (n : ℕ) → length rs ≤ n → (t k : List ℕ) → GoodFrom t k rs → (s tid kid : List ℕ) (at : ℕ) → at ≤ length s → drop at s ≡ encode_table rs
    → find_from n s tid kid at ≡ key_in rs tid kid
unfolding GoodFrom encode_table find_from key_from key_in
find_written [] zero l t k g s tid kid at i e = refl
find_written [] (suc n) l t k g s tid kid at i e = rw (no_row s at (at_end s at i e))
find_written (r ∷ rs) zero l t k g s tid kid at i e = let z : ⊥ = omega arith in elim z [ ]
find_written (r ∷ rs) (suc n) l t k g s tid kid at i e =
    let w = row_written r g.0 s (encode_table rs) at i e in
    let m = find_written rs n (omega arith) r.tid r.kid g.2 s tid kid w.row.key.to w.inside w.behind in
    rw (w.answer, w.tid_held, w.kid_held) (key_or_rest s w.row.key (key_from n s tid kid w.row.key.to) w.key_held m (same_ids r.tid r.kid tid kid))

-- in a table that was judged before, and by itself
pub find_finds : (rs : List Row) → GoodTable rs → (tid kid : List ℕ) → find_from 64 (encode_table rs) tid kid 0 ≡ key_in rs tid kid
find_finds rs g tid kid = find_written rs 64 g.few [] [] g.rows (encode_table rs) tid kid 0 (omega arith) refl

-- the lookup finds the row's key, and nothing where there is no such row
pub lookup_finds : (rs : List Row) → GoodTable rs → (tid kid : List ℕ) → lookup_of (encode_table rs) tid kid ≡ key_in rs tid kid
unfolding lookup_of
lookup_finds rs g tid kid = rw (table_written rs g) (find_finds rs g tid kid)

-- a key is found, and has 32 bytes, exactly where there is a row
row_key : (rs : List Row) (t k : List ℕ) → GoodFrom t k rs → (tid kid : List ℕ) → eqb (length (key_in rs tid kid)) 32 ≡ has_row rs tid kid
unfolding GoodFrom key_in has_row
row_key [] t k g tid kid = refl
row_key (r ∷ rs) t k g tid kid = by (same_ids r.tid r.kid tid kid) (row_key rs r.tid r.kid g.2 tid kid)
  where
    by : (b : Bool) → eqb (length (key_in rs tid kid)) 32 ≡ has_row rs tid kid
        → eqb (length (pick b r.key (key_in rs tid kid))) 32 ≡ pick b true (has_row rs tid kid)
    by true m = eq-eqb (length r.key) 32 g.0.key_long
    by false m = m

pub key_of_row : (rs : List Row) → GoodTable rs → (tid kid : List ℕ) → eqb (length (key_in rs tid kid)) 32 ≡ has_row rs tid kid
key_of_row rs g tid kid = row_key rs [] [] g.rows tid kid
