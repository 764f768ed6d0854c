-- Counts both ways: what is written within limits is read, what is read was written so; and one law for each way out of the code.
use mathlib.Core.Path.{◌≡◌, refl, sym, ap, ◌∙◌}
use mathlib.Core.Bool.{Bool, true, false}
use mathlib.Core.List.{List, ◌++◌}
use Prim.Native.Nat.{ℕ, ◌+◌, ◌^◌, ◌≤◌, ◌<◌}
use native.Mathlib.Omega.{arith}
use borrow.Author.Tests.{le-ltb, eq-eqb, ltb-false, eqb-true}
use lib.Dec.{ltb, eqb}
use lib.ListN.{length, drop}
use lib.Seq.{drop-drop}
use Rattle.basis.specs.Basis.{pick, IsBytes}
use Rattle.basis.proofs.Pairs.{ok_pair}
use Rattle.cbor_heads.specs.Heads.{head}
use Rattle.cbor_heads.specs.Reading.{got, head_at, read_head}
use Rattle.cbor_heads.specs.Counts.{count_by, read_count, by_number, count_numbered}
use Rattle.cbor_heads.specs.declared.Head.{Head}
use Rattle.cbor_heads.specs.declared.defect.Kind.{Kind}
use Rattle.cbor_heads.specs.declared.defect.Kind.TheVariants.{Cbor, Bounds}
use Rattle.cbor_heads.specs.Defects.{Reading, bad, after}
use Rattle.std.specs.Prelude.{Ok, Err}
use Rattle.cbor_heads.proofs.HeadLaws.{read_written, written_read}
use Rattle.cbor_heads.proofs.HeadLaws.{drop_bytes}

-- a head that was written at `at`, and one that was read there
pub head_there : (s t : List ℕ) (at major n : ℕ) → drop at s ≡ head major n ++ t → n < 2 ^ 64 → read_head s at ≡ Ok (got major n (at + length (head major n)))
head_there s t at major n e h = ap (head_at at) e ∙ read_written at major n t h

pub there_head : (s : List ℕ) → IsBytes s → (at : ℕ) {major n next : ℕ} → read_head s at ≡ Ok (got major n next) → drop at s ≡ head major n ++ drop next s
there_head s b at {major} {n} {next} q =
    let w = written_read at (drop at s) (drop_bytes at s b) q in
    let h = head major n in
    sym (ap (λ (t : List ℕ). h ++ t) (ap (λ (i : ℕ). drop i s) w.past ∙ sym (drop-drop (length h) at s)) ∙ w.front)

-- what a count that was read is; `count` is the other way
pub record Counted (s : List ℕ) (at major least most n next : ℕ) : Type 0 where
  pub headed : read_head s at ≡ Ok (got major n next)
  pub enough : least ≤ n
  pub few : n ≤ most

module _ (s : List ℕ) (at major least most : ℕ) (above : Kind) where
  pub count : {m n next : ℕ} → read_head s at ≡ Ok (got m n next) → m ≡ major → least ≤ n → n ≤ most → Ok (n, next) ≡ read_count s at major least most above
  unfolding count_by
  count e h l g = rw (e, eq-eqb _ _ h, le-ltb _ _ l, le-ltb _ _ g)

  counted_by : {k to m n next : ℕ} → read_head s at ≡ Ok (got m n next)
      → (a : Bool) → eqb m major ≡ a → (b : Bool) → ltb n least ≡ b → (c : Bool) → ltb most n ≡ c
      → pick a (pick b (bad Cbor at) (pick c (bad above at) (Ok (n, next)))) (bad {A = ℕ × ℕ} Cbor at) ≡ Ok (k, to) → Counted s at major least most k to
  counted_by p false q b r c t e = let z : ◌≡◌ {A = ℕ} 0 1 = cc in let z : ⊥ = omega arith in elim z [ ]
  counted_by p true q true r c t e = let z : ◌≡◌ {A = ℕ} 0 1 = cc in let z : ⊥ = omega arith in elim z [ ]
  counted_by p true q false r true t e = let z : ◌≡◌ {A = ℕ} 0 1 = cc in let z : ⊥ = omega arith in elim z [ ]
  counted_by {k} {to} {m} {n} {next} p true q false r false t e =
      let x : n ≡ k = (ok_pair e).0 in
      let y : next ≡ to = (ok_pair e).1 in
      let w = eqb-true m major q in
      record {
        headed = rw (← x, ← y, ← w) p;
        enough = omega (arith, ltb-false n least r);
        few = omega (arith, ltb-false most n t);
      }

  pub counted : {n next : ℕ} → read_count s at major least most above ≡ Ok (n, next) → Counted s at major least most n next
  unfolding count_by
  counted {n} {next} = by (read_head s at) refl
    where
      by : (r : Reading Head) → read_head s at ≡ r → after (count_by at major least most above) r ≡ Ok (n, next) → Counted s at major least most n next
      by (Err d) q e = let z : ◌≡◌ {A = ℕ} 0 1 = cc in let z : ⊥ = omega arith in elim z [ ]
      by (Ok h) q e = counted_by q _ refl _ refl _ refl e

-- the same both ways for a caller's own number, whatever it is
module _ (s : List ℕ) (at major least most above : ℕ) where
  pub numbered_count : {m n next : ℕ} → read_head s at ≡ Ok (got m n next) → m ≡ major → least ≤ n → n ≤ most → Ok (n, next) ≡ count_numbered s at major least most above
  numbered_count e h l g = ap (by_number above) (count s at major least most Bounds e h l g)

  pub numbered_counted : {n next : ℕ} → count_numbered s at major least most above ≡ Ok (n, next) → Counted s at major least most n next
  numbered_counted {n} {next} = by (read_count s at major least most Bounds) refl
    where
      by : (r : Reading (ℕ × ℕ)) → read_count s at major least most Bounds ≡ r → by_number above r ≡ Ok (n, next) → Counted s at major least most n next
      by (Err d) q e = let z : ◌≡◌ {A = ℕ} 0 1 = cc in let z : ⊥ = omega arith in elim z [ ]
      by (Ok (k, to)) q e =
          let x : k ≡ n = (ok_pair e).0 in
          let y : to ≡ next = (ok_pair e).1 in
          counted s at major least most Bounds (rw (← x, ← y) q)
