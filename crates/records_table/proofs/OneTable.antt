-- One table for one encoding, and in a good table one row for one pair of ids.
use mathlib.Core.Path.{◌≡◌, refl, sym, ap, ap₂, subst, ◌∙◌}
use mathlib.Core.Bool.{Bool, true, false, ◌&&◌, ◌||◌}
use mathlib.Core.List.{List, [], ◌∷◌, ◌++◌}
use mathlib.Core.Logic.{◌⊎◌, inl, inr}
use Prim.Native.Nat.{ℕ, zero, suc, ◌<◌}
use native.Mathlib.Omega.{arith}
use borrow.Author.Tests.{lt-ltb, le-ltb, ltb-true, ltb-false}
use lib.Dec.{ltb}
use lib.ListN.{length, get_or}
use Rattle.basis.specs.Basis.{pick, between}
use Rattle.basis.specs.Same.{same_of}
use Rattle.basis.proofs.Pairs.{some_same}
use Rattle.basis.proofs.Parts.{one_rest}
use Rattle.basis.proofs.Sameness.{same_equal, equal_same}
use Rattle.records.specs.Records.{little, record_bytes}
use Rattle.records_table.specs.Order.{before_of, ascends}
use Rattle.records_table.specs.Tables.{Row, encode_row, encode_table, GoodRow, GoodFrom, GoodTable}
use Rattle.records_table.specs.declared.RowAt.{RowAt}
use Rattle.records_table.proofs.Rows.{row_written}

row_one : (r q : Row) → GoodRow r → GoodRow q → (t u : List ℕ) → encode_row r ++ t ≡ encode_row q ++ u → (r ≡ q) × (t ≡ u)
row_one r q gr gq t u e =
    let s = encode_row r ++ t in
    let x = row_written r gr s t 0 (omega arith) refl in
    let y = row_written q gq s u 0 (omega arith) e in
    let p = some_same (sym x.answer ∙ y.answer) in
    let tid = sym x.tid_held ∙ ap (λ (r : RowAt). between s r.tid) p ∙ y.tid_held in
    let kid = sym x.kid_held ∙ ap (λ (r : RowAt). between s r.kid) p ∙ y.kid_held in
    let key = sym x.key_held ∙ ap (λ (r : RowAt). between s r.key) p ∙ y.key_held in
    let o = build tid kid key in
    (o, one_rest (encode_row r) (encode_row q) t u (ap encode_row o) e)
  where
    build : {a b c d e f : List ℕ} → a ≡ d → b ≡ e → c ≡ f → ◌≡◌ {A = Row} (record { tid = a; kid = b; key = c }) (record { tid = d; kid = e; key = f })
    build p q r = rw (p, q, r)

not_nothing : (r : Row) (t : List ℕ) → encode_row r ++ t ≡ [] → ⊥
unfolding encode_row record_bytes little
not_nothing r t e = let l = ap length e in omega (arith, l)

rows_one : (rs qs : List Row) (t k u l : List ℕ) → GoodFrom t k rs → GoodFrom u l qs → encode_table rs ≡ encode_table qs → rs ≡ qs
unfolding GoodFrom encode_table
rows_one [] [] t k u l g h e = refl
rows_one [] (q ∷ qs) t k u l g h e = let z = not_nothing q (encode_table qs) (sym e) in elim z [ ]
rows_one (r ∷ rs) [] t k u l g h e = let z = not_nothing r (encode_table rs) e in elim z [ ]
rows_one (r ∷ rs) (q ∷ qs) t k u l g h e =
    let o = row_one r q g.0 h.0 (encode_table rs) (encode_table qs) e in
    ap₂ ◌∷◌ o.0 (rows_one rs qs r.tid r.kid q.tid q.kid g.2 h.2 o.1)

pub table_one : (rs qs : List Row) → GoodTable rs → GoodTable qs → encode_table rs ≡ encode_table qs → rs ≡ qs
table_one rs qs g h e = rows_one rs qs [] [] [] [] g.rows h.rows e

-- strictly: nothing stands before itself, and what stands before something that stands before a third stands before the third
before_not_self : (x : List ℕ) → before_of x x ≡ false
unfolding before_of
before_not_self [] = refl
before_not_self (a ∷ x) = rw (le-ltb a a (omega arith)) (before_not_self x)

-- the first bytes decide, unless they are the same
split : (a b : ℕ) (x y : List ℕ) → before_of (a ∷ x) (b ∷ y) ≡ true → (a < b) ⊎ ((a ≡ b) × (before_of x y ≡ true))
unfolding before_of
split a b x y e = by (ltb a b) refl (ltb b a) refl e
  where
    by : (u : Bool) → ltb a b ≡ u → (v : Bool) → ltb b a ≡ v → pick u true (pick v false (before_of x y)) ≡ true → (a < b) ⊎ ((a ≡ b) × (before_of x y ≡ true))
    by true p v q e = inl (ltb-true a b p)
    by false p true q e = cc
    by false p false q e = inr (omega (arith, ltb-false a b p, ltb-false b a q), e)

first : (a b : ℕ) (x y : List ℕ) → a < b → before_of (a ∷ x) (b ∷ y) ≡ true
unfolding before_of
first a b x y h = rw (lt-ltb a b h)

same_first : (a b : ℕ) (x y : List ℕ) → a ≡ b → before_of x y ≡ true → before_of (a ∷ x) (b ∷ y) ≡ true
unfolding before_of
same_first a b x y z e = rw (le-ltb a b (omega arith), le-ltb b a (omega arith)) e

before_trans : (x y z : List ℕ) → before_of x y ≡ true → before_of y z ≡ true → before_of x z ≡ true
unfolding before_of
before_trans [] [] [] p q = p
before_trans [] (b ∷ y) [] p q = q
before_trans [] y (c ∷ z) p q = refl
before_trans (a ∷ x) [] z p q = cc
before_trans (a ∷ x) (b ∷ y) [] p q = q
before_trans (a ∷ x) (b ∷ y) (c ∷ z) p q = by (split a b x y p) (split b c y z q) (before_trans x y z)
  where
    by : (a < b) ⊎ ((a ≡ b) × (before_of x y ≡ true)) → (b < c) ⊎ ((b ≡ c) × (before_of y z ≡ true)) → (before_of x y ≡ true → before_of y z ≡ true → before_of x z ≡ true)
        → before_of (a ∷ x) (c ∷ z) ≡ true
    by (inl u) (inl v) m = first a c x z (omega arith)
    by (inl u) (inr v) m = first a c x z (omega (arith, v.0))
    by (inr u) (inl v) m = first a c x z (omega (arith, u.0))
    by (inr u) (inr v) m = same_first a c x z (u.0 ∙ v.0) (m u.1 v.1)

-- the same of rows: the tids decide, unless they are the same
row_split : (t k u l : List ℕ) → ascends t k u l ≡ true → (before_of t u ≡ true) ⊎ ((t ≡ u) × (before_of k l ≡ true))
unfolding ascends
row_split t k u l e = by (before_of t u) refl (same_of t u) refl e
  where
    by : (a : Bool) → before_of t u ≡ a → (b : Bool) → same_of t u ≡ b → (a || (b && before_of k l)) ≡ true → (before_of t u ≡ true) ⊎ ((t ≡ u) × (before_of k l ≡ true))
    by true p b q e = inl p
    by false p true q e = inr (same_equal t u q, e)
    by false p false q e = cc

tids_first : (t k u l : List ℕ) → before_of t u ≡ true → ascends t k u l ≡ true
unfolding ascends
tids_first t k u l e = rw e

then_kids : (t k u l : List ℕ) → t ≡ u → before_of k l ≡ true → ascends t k u l ≡ true
unfolding ascends
then_kids t k u l z e = let n : before_of t u ≡ false = subst (λ v. before_of t v ≡ false) z (before_not_self t) in rw (n, equal_same t u z) e

row_trans : (t k u l v m : List ℕ) → ascends t k u l ≡ true → ascends u l v m ≡ true → ascends t k v m ≡ true
row_trans t k u l v m p q = by (row_split t k u l p) (row_split u l v m q)
  where
    by : (before_of t u ≡ true) ⊎ ((t ≡ u) × (before_of k l ≡ true)) → (before_of u v ≡ true) ⊎ ((u ≡ v) × (before_of l m ≡ true)) → ascends t k v m ≡ true
    by (inl a) (inl b) = tids_first t k v m (before_trans t u v a b)
    by (inl a) (inr b) = tids_first t k v m (subst (λ w. before_of t w ≡ true) b.0 a)
    by (inr a) (inl b) = tids_first t k v m (subst (λ w. before_of w v ≡ true) (sym a.0) b)
    by (inr a) (inr b) = then_kids t k v m (a.0 ∙ b.0) (before_trans k l m a.1 b.1)

row_not_self : (t k : List ℕ) → ascends t k t k ≡ true → ⊥
unfolding ascends
row_not_self t k e =
    let f : ascends t k t k ≡ false = rw (before_not_self t, equal_same t t refl) (before_not_self k) in
    cc

-- every row stands behind the one before all of them
all_behind : (rs : List Row) (t k : List ℕ) → GoodFrom t k rs → (d : Row) (i : ℕ) → i < length rs → ascends t k (get_or rs i d).tid (get_or rs i d).kid ≡ true
unfolding GoodFrom
all_behind [] t k g d i h = let z : ⊥ = omega arith in elim z [ ]
all_behind (r ∷ rs) t k g d zero h = g.1
all_behind (r ∷ rs) t k g d (suc i) h =
    row_trans t k r.tid r.kid (get_or rs i d).tid (get_or rs i d).kid g.1 (all_behind rs r.tid r.kid g.2 d i (omega arith))

differ : (r q : Row) → ascends r.tid r.kid q.tid q.kid ≡ true → r.tid ≡ q.tid → r.kid ≡ q.kid → ⊥
differ r q e a b = row_not_self r.tid r.kid (subst (λ v. ascends r.tid r.kid r.tid v ≡ true) (sym b) (subst (λ u. ascends r.tid r.kid u q.kid ≡ true) (sym a) e))

rows_differ : (rs : List Row) (t k : List ℕ) → GoodFrom t k rs → (d : Row) (i j : ℕ) → i < length rs → j < length rs → (get_or rs i d).tid ≡ (get_or rs j d).tid
    → (get_or rs i d).kid ≡ (get_or rs j d).kid → i ≡ j
unfolding GoodFrom
rows_differ [] t k g d i j h l a b = let z : ⊥ = omega arith in elim z [ ]
rows_differ (r ∷ rs) t k g d zero zero h l a b = refl
rows_differ (r ∷ rs) t k g d zero (suc j) h l a b = let z = differ r (get_or rs j d) (all_behind rs r.tid r.kid g.2 d j (omega arith)) a b in elim z [ ]
rows_differ (r ∷ rs) t k g d (suc i) zero h l a b = let z = differ r (get_or rs i d) (all_behind rs r.tid r.kid g.2 d i (omega arith)) (sym a) (sym b) in elim z [ ]
rows_differ (r ∷ rs) t k g d (suc i) (suc j) h l a b = ap suc (rows_differ rs r.tid r.kid g.2 d i j (omega arith) (omega arith) a b)

-- two places of a good table with the same ids are one place
pub one_row : (rs : List Row) → GoodTable rs → (d : Row) (i j : ℕ) → i < length rs → j < length rs → (get_or rs i d).tid ≡ (get_or rs j d).tid → (get_or rs i d).kid ≡ (get_or rs j d).kid
    → i ≡ j
one_row rs g d i j h l a b = rows_differ rs [] [] g.rows d i j h l a b
