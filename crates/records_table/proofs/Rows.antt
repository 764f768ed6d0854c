-- Rows both ways: a good one that was written is found, and what is found is a good one, written; its parts lie inside.
use mathlib.Core.Path.{◌≡◌, refl, sym, ap, subst, ◌∙◌}
use mathlib.Core.List.{List, ◌++◌, append_assoc}
use Prim.Native.Nat.{ℕ, ◌+◌, ◌-◌, ◌≤◌}
use native.Mathlib.Omega.{arith}
use borrow.Author.Tests.{ltb-false, eqb-true, le-ltb, eq-eqb}
use lib.Dec.{eqb, ltb}
use lib.ListN.{length, drop, length-append, length-drop, take-append-drop}
use lib.Seq.{drop-drop, length-take-le}
use Rattle.std.specs.Prelude.{Some}
use Rattle.std.proofs.lemmas.Option.{option_and_then_some}
use Rattle.basis.specs.Basis.{from_to, between, IsBytes}
use Rattle.basis.specs.declared.Span.{Span}
use Rattle.records.specs.declared.RecordAt.{RecordAt}
use Rattle.basis.proofs.Pairs.{some_same}
use Rattle.basis.proofs.Parts.{past, lies, on, one_front}
use Rattle.cbor_strings.specs.declared.Class.TheVariants.{Name}
use Rattle.records.specs.Records.{counted, record_bytes}
use Rattle.records.specs.Reading.{text_at, read_record}
use Rattle.records.proofs.Ways.{taken, passed}
use Rattle.records.proofs.Runs.{ends_inside}
use Rattle.records.proofs.Fields.{counted_length, text_written, text_behind, text_inside, text_lies, IsText, text_read, record_written, record_body_lem, IsRecord, record_read}
use Rattle.records_table.specs.Tables.{Row, encode_row, GoodRow}
use Rattle.records_table.specs.Reading.{row_with, read_row}
use Rattle.records_table.specs.declared.RowAt.{RowAt}

-- ids that lie inside the table
pub record IdsInside (s : List ℕ) (row : RowAt) : Type 0 where
  pub tid_order : row.tid.from ≤ row.tid.to
  pub tid_inside : row.tid.to ≤ length s
  pub kid_order : row.kid.from ≤ row.kid.to
  pub kid_inside : row.kid.to ≤ length s

-- a good row stands at `at` and ends where its key does
pub record IsRow (s : List ℕ) (at : ℕ) (row : RowAt) : Type 0 where
  pub tree : Row
  pub good : GoodRow tree
  pub tid_held : between s row.tid ≡ tree.tid
  pub kid_held : between s row.kid ≡ tree.kid
  pub key_held : between s row.key ≡ tree.key
  pub ids : IdsInside s row
  pub key_order : row.key.from ≤ row.key.to
  pub inside : row.key.to ≤ length s
  pub there : drop at s ≡ encode_row tree ++ drop row.key.to s

module _ (s : List ℕ) (b : IsBytes s) (at : ℕ) where
  joined : (found : RecordAt) (tid kid : Span) → found.kind ≡ 1 → IsRecord s at found → IsText 1 Name 1 64 s found.body.from tid → IsText 1 Name 1 64 s tid.to kid
      → kid.to ≤ found.body.to → found.body.to - kid.to ≡ 32 → IsRow s at (row_with tid kid (from_to kid.to found.body.to))
  unfolding encode_row
  joined found tid kid one r x y h n =
      let l = kid.to in
      let to = found.body.to in
      let key = between s (from_to l to) in
      let z : l + (to - l) ≡ to = omega arith in
      let d : drop l s ≡ key ++ drop to s = sym (take-append-drop (to - l) (drop l s)) ∙ ap (λ (t : List ℕ). key ++ t) (drop-drop (to - l) l s ∙ ap (λ (i : ℕ). drop i s) z) in
      let body = counted 1 x.tree ++ (counted 1 y.tree ++ key) in
      let f : between s found.body ++ drop to s ≡ body ++ drop to s =
      sym r.held ∙ on (counted 1 x.tree) x.there (on (counted 1 y.tree) y.there d)
      ∙ sym (append_assoc (counted 1 x.tree) (counted 1 y.tree ++ key) (drop to s) ∙ ap (λ (t : List ℕ). counted 1 x.tree ++ t) (append_assoc (counted 1 y.tree) key (drop to s))) in
      let q = one_front (between s found.body) body (drop to s) f in
      let kl : length key ≡ 32 = length-take-le (to - l) (drop l s) (simp length-drop (omega (arith, r.inside))) ∙ n in
      record {
        tree = record { tid = x.tree; kid = y.tree; key = key };
        good = record { good_tid = x.good; good_kid = y.good; key_long = kl };
        tid_held = x.held;
        kid_held = y.held;
        key_held = refl;
        ids = record { tid_order = x.order; tid_inside = x.inside; kid_order = y.order; kid_inside = y.inside };
        key_order = h;
        inside = r.inside;
        there = rw one at r.there ∙ ap (λ (t : List ℕ). record_bytes 1 t ++ drop to s) q;
      }

  pub row_read : {row : RowAt} → read_row s at ≡ Some row → IsRow s at row
  unfolding read_row
  row_read {row} e =
      option_and_then_some _ (read_record s at) row e (λ r was goes.
      let k = taken (eqb r.kind 1) goes in
      option_and_then_some _ (text_at s 1 Name 1 64 r.body.from) row k.1 (λ tid was_tid goes.
      option_and_then_some _ (text_at s 1 Name 1 64 tid.to) row goes (λ kid was_kid goes.
      let p = passed (ltb r.body.to kid.to) goes in
      let q = taken (eqb (r.body.to - kid.to) 32) p.1 in
      subst (IsRow s at) (some_same q.1)
      (joined r tid kid (eqb-true r.kind 1 k.0) (record_read s b at was) (text_read 1 Name 1 64 s b r.body.from was_tid) (text_read 1 Name 1 64 s b tid.to was_kid)
      (ltb-false r.body.to kid.to p.0) (eqb-true (r.body.to - kid.to) 32 q.0)))))

-- what a reading finds of a good row that stands at `at`, with t behind it
pub record Written (s : List ℕ) (r : Row) (t : List ℕ) (at : ℕ) : Type 0 where
  pub row : RowAt
  pub answer : read_row s at ≡ Some row
  pub tid_held : between s row.tid ≡ r.tid
  pub kid_held : between s row.kid ≡ r.kid
  pub key_held : between s row.key ≡ r.key
  pub inside : row.key.to ≤ length s
  pub behind : drop row.key.to s ≡ t

pub row_written : (r : Row) → GoodRow r → (s t : List ℕ) (at : ℕ) → at ≤ length s → drop at s ≡ encode_row r ++ t → Written s r t at
unfolding encode_row read_row
row_written r g s t at i e =
    let x = counted 1 r.tid in
    let y = counted 1 r.kid in
    let body = x ++ (y ++ r.key) in
    let lt = g.good_tid.most in
    let lk = g.good_kid.most in
    let lx : length x ≡ 1 + length r.tid = counted_length 1 r.tid in
    let ly : length y ≡ 1 + length r.kid = counted_length 1 r.kid in
    let ll : length body ≡ length x + (length y + 32) = length-append x (y ++ r.key) ∙ ap (λ (n : ℕ). length x + n) (length-append y r.key ∙ ap (λ (n : ℕ). length y + n) g.key_long) in
    let c = record_written 1 body (omega arith) (omega arith) s t at i e in
    let f = at + 2 + 2 in
    let q = record_body_lem 1 body s t at i e in
    let d0 : drop f s ≡ x ++ (y ++ (r.key ++ t)) = simp append_assoc at q.0 in
    let a = text_written 1 Name 1 64 r.tid (omega arith) (omega arith) g.good_tid s (y ++ (r.key ++ t)) f q.1 d0 in
    let e1 = f + 1 + length r.tid in
    let d1 = text_behind 1 r.tid s (y ++ (r.key ++ t)) f d0 in
    let i1 = text_inside 1 r.tid s (y ++ (r.key ++ t)) f q.1 d0 in
    let b = text_written 1 Name 1 64 r.kid (omega arith) (omega arith) g.good_kid s (r.key ++ t) e1 i1 d1 in
    let e2 = e1 + 1 + length r.kid in
    let d2 = text_behind 1 r.kid s (r.key ++ t) e1 d1 in
    let i2 = text_inside 1 r.kid s (r.key ++ t) e1 i1 d1 in
    let to = f + length body in
    let z : to ≡ e2 + length r.key = omega (arith, ll, g.key_long) in
    let w : to - e2 ≡ 32 = omega (arith, z, g.key_long) in
    record {
      row = row_with (from_to (f + 1) e1) (from_to (e1 + 1) e2) (from_to e2 to);
      answer = rw (c, a, b, le-ltb to e2 (omega arith), eq-eqb (to - e2) 32 w);
      tid_held = text_lies 1 r.tid s (y ++ (r.key ++ t)) f d0;
      kid_held = text_lies 1 r.kid s (r.key ++ t) e1 d1;
      key_held = rw z (lies s r.key t e2 d2);
      inside = omega (arith, z, ends_inside s r.key t e2 i2 d2);
      behind = rw z (past s r.key t e2 d2);
    }
