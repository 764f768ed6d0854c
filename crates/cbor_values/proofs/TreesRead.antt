-- What reads well is written: wherever a value is read in a list of bytes, the bytes are the encoding of a tree within limits.
use Rattle.std.specs.Prelude.{Ok, Err}
use Rattle.cbor_heads.specs.Defects.{Reading, bad, after}
use Rattle.cbor_heads.specs.declared.defect.Kind.TheVariants.{Cbor, Bounds}
use Rattle.cbor_heads.specs.Reading.{got}
use mathlib.Core.Path.{◌≡◌, refl, sym, ap, ◌∙◌}
use mathlib.Core.Bool.{Bool, true, false}
use mathlib.Core.List.{List, ◌++◌, append_assoc}
use Prim.Native.Nat.{ℕ, zero, suc, ◌+◌, ◌-◌, ◌^◌, ◌≤◌, ◌<◌}
use native.Mathlib.Omega.{arith}
use borrow.Author.Tests.{ltb-true, ltb-false, leb-true, eqb-true, eqb-false}
use lib.Dec.{ltb, leb, eqb}
use lib.ListN.{length, take, drop, length-drop, take-append-drop}
use lib.Seq.{drop-drop, length-take-le}
use Rattle.basis.specs.Basis.{pick, IsBytes}
use Rattle.cbor_heads.specs.Heads.{head}
use Rattle.cbor_heads.specs.Reading.{read_head}
use Rattle.cbor_strings.specs.Strings.{string}
use Rattle.cbor_heads.specs.declared.Head.{Head}
use Rattle.cbor_heads.proofs.HeadLaws.{written_read}
use Rattle.cbor_heads.proofs.CountLaws.{there_head}
use Rattle.cbor_heads.proofs.HeadLaws.{drop_bytes}
use Rattle.cbor_values.specs.Utf8.{utf8}
use Rattle.cbor_values.specs.Reading.{run_of, text_of, items_of, by_major, value_of}
use Rattle.cbor_values.specs.Trees.{Value, number, negative, bytes, text, simple, array, Values, none, more, count, encode, encodes, Good, AllGood}

-- from `at` to `next` stands the encoding of a tree within limits
pub record IsValue (d : ℕ) (s : List ℕ) (at next : ℕ) : Type 0 where
  pub tree : Value
  pub good : Good tree d
  pub there : drop at s ≡ encode tree ++ drop next s

pub record AreValues (d : ℕ) (s : List ℕ) (k at next : ℕ) : Type 0 where
  pub trees : Values
  pub counted : count trees ≡ k
  pub good : AllGood trees d
  pub there : drop at s ≡ encodes trees ++ drop next s

module _ (d : ℕ) (s : List ℕ) (b : IsBytes s) (at : ℕ) {major n nx : ℕ} (q : read_head s at ≡ Ok (got major n nx)) where
  headed : drop at s ≡ head major n ++ drop nx s
  headed = there_head s b at q

  bounded : n < 2 ^ 64
  bounded = (written_read at (drop at s) (drop_bytes at s b) q).small

  -- a string's content of n bytes
  abbrev content : List ℕ
  content = take n (drop nx s)

  content_long : n ≤ length s - nx → length content ≡ n
  content_long h = length-take-le n (drop nx s) (rw length-drop h)

  string_there : n ≤ length s - nx → drop at s ≡ string major content ++ drop (nx + n) s
  string_there h =
      let c = ap (λ (t : List ℕ). content ++ t) (sym (drop-drop n nx s)) ∙ take-append-drop n (drop nx s) in
      headed ∙ sym (rw (content_long h, append_assoc) (ap (λ (t : List ℕ). head major n ++ t) c))

  is_number : {next : ℕ} → major < 2 → ◌≡◌ {A = Reading ℕ} (Ok nx) (Ok next) → IsValue d s at next
  unfolding Good encode
  is_number {next} h e = by (eqb major 0) refl
    where
      by : (z : Bool) → eqb major 0 ≡ z → IsValue d s at next
      by true p = let m = eqb-true major 0 p in let x : nx ≡ next = cc in record { tree = number n; good = bounded; there = rw (← x, ← m) headed }
      by false p =
          let f = eqb-false major 0 p in
          let m : major ≡ 1 = omega arith in
          let x : nx ≡ next = cc in
          record { tree = negative n; good = bounded; there = rw (← x, ← m) headed }

  is_bytes : {next : ℕ} → major ≡ 2 → run_of s at nx n ≡ Ok next → IsValue d s at next
  unfolding Good encode run_of
  is_bytes {next} m = by (ltb (length s - nx) n) refl
    where
      by : (z : Bool) → ltb (length s - nx) n ≡ z → pick z (bad Cbor at) (Ok (nx + n)) ≡ Ok next → IsValue d s at next
      by true p e = let z : ◌≡◌ {A = ℕ} 0 1 = cc in let z : ⊥ = omega arith in elim z [ ]
      by false p e =
          let h = ltb-false (length s - nx) n p in
          let x : nx + n ≡ next = cc in
          record { tree = bytes content; good = rw (content_long h) bounded; there = rw (← x, ← m) (string_there h) }

  is_text : {next : ℕ} → major ≡ 3 → text_of s at nx n ≡ Ok next → IsValue d s at next
  unfolding Good encode text_of
  is_text {next} m = by (ltb (length s - nx) n) refl (utf8 content) refl
    where
      by : (z : Bool) → ltb (length s - nx) n ≡ z → (u : Bool) → utf8 content ≡ u → pick z (bad Cbor at) (pick u (Ok (nx + n)) (bad Cbor nx)) ≡ Ok next → IsValue d s at next
      by true p u r e = let z : ◌≡◌ {A = ℕ} 0 1 = cc in let z : ⊥ = omega arith in elim z [ ]
      by false p false r e = let z : ◌≡◌ {A = ℕ} 0 1 = cc in let z : ⊥ = omega arith in elim z [ ]
      by false p true r e =
          let h = ltb-false (length s - nx) n p in
          let x : nx + n ≡ next = cc in
          record { tree = text content; good = (rw (content_long h) bounded, r); there = rw (← x, ← m) (string_there h) }

  is_simple : {next : ℕ} → major ≡ 7 → pick (ltb n 20) (bad Cbor at) (pick (leb n 22) (Ok nx) (bad Cbor at)) ≡ Ok next → IsValue d s at next
  unfolding Good encode
  is_simple {next} m = by (ltb n 20) refl (leb n 22) refl
    where
      by : (z : Bool) → ltb n 20 ≡ z → (u : Bool) → leb n 22 ≡ u → pick z (bad Cbor at) (pick u (Ok nx) (bad Cbor at)) ≡ Ok next → IsValue d s at next
      by true p u r e = let z : ◌≡◌ {A = ℕ} 0 1 = cc in let z : ⊥ = omega arith in elim z [ ]
      by false p false r e = let z : ◌≡◌ {A = ℕ} 0 1 = cc in let z : ⊥ = omega arith in elim z [ ]
      by false p true r e =
          let x : nx ≡ next = cc in
          record { tree = simple n; good = (ltb-false n 20 p, leb-true n 22 r); there = rw (← x, ← m) headed }

-- an array of what was read
is_array : (d : ℕ) (s : List ℕ) → IsBytes s → (at : ℕ) {major n nx next : ℕ} → read_head s at ≡ Ok (got major n nx) → major ≡ 4 → AreValues d s n nx next → IsValue (suc d) s at next
unfolding Good encode
is_array d s b at {major} {n} {nx} {next} q m v =
    let h = headed (suc d) s b at q in
    let k = bounded (suc d) s b at q in
    record {
      tree = array v.trees;
      good = (rw v.counted k, v.good);
      there = rw (v.counted, append_assoc, ← v.there, ← m) h;
    }

-- a run of values, each read well
items_read : (d : ℕ) (s : List ℕ) → ((at next : ℕ) → value_of d s at ≡ Ok next → IsValue d s at next)
    → (k at next : ℕ) → items_of (value_of d s) k at ≡ Ok next → AreValues d s k at next
unfolding Good encode count items_of
items_read d s r zero at next e =
    let x : at ≡ next = cc in
    record { trees = none; counted = refl; good = tt; there = ap (λ (i : ℕ). drop i s) x }
items_read d s r (suc k) at next e = by (value_of d s at) refl e (items_read d s r k)
  where
    by : (i : Reading ℕ) → value_of d s at ≡ i → after (items_of (value_of d s) k) i ≡ Ok next
        → ((at next : ℕ) → items_of (value_of d s) k at ≡ Ok next → AreValues d s k at next) → AreValues d s (suc k) at next
    by (Err d) p e m = let z : ◌≡◌ {A = ℕ} 0 1 = cc in let z : ⊥ = omega arith in elim z [ ]
    by (Ok to) p e m =
        let v = r at to p in
        let vs = m to next e in
        record {
          trees = more v.tree vs.trees;
          counted = ap suc vs.counted;
          good = (v.good, vs.good);
          there = rw append_assoc (v.there ∙ ap (λ (t : List ℕ). encode v.tree ++ t) vs.there);
        }

-- by the head; `arrays` says the same of an array
module _ (d : ℕ) (s : List ℕ) (b : IsBytes s) (at next : ℕ) (f : ℕ → ℕ → Reading ℕ)
    (arrays : (major n nx : ℕ) → read_head s at ≡ Ok (got major n nx) → major ≡ 4 → f n nx ≡ Ok next → IsValue d s at next) where
  by_major_lem : {major n nx : ℕ} → read_head s at ≡ Ok (got major n nx)
      → (x2 : Bool) → ltb major 2 ≡ x2 → (y2 : Bool) → eqb major 2 ≡ y2 → (y3 : Bool) → eqb major 3 ≡ y3
      → (y4 : Bool) → eqb major 4 ≡ y4 → (y7 : Bool) → eqb major 7 ≡ y7
      → pick x2 (Ok nx) (pick y2 (run_of s at nx n) (pick y3 (text_of s at nx n) (pick y4 (f n nx)
      (pick y7 (pick (ltb n 20) (bad Cbor at) (pick (leb n 22) (Ok nx) (bad Cbor at))) (bad Cbor at))))) ≡ Ok next → IsValue d s at next
  by_major_lem {major} q true p y2 p2 y3 p3 y4 p4 y7 p7 e = is_number d s b at q (ltb-true major 2 p) e
  by_major_lem {major} q false p true p2 y3 p3 y4 p4 y7 p7 e = is_bytes d s b at q (eqb-true major 2 p2) e
  by_major_lem {major} q false p false p2 true p3 y4 p4 y7 p7 e = is_text d s b at q (eqb-true major 3 p3) e
  by_major_lem {major} {n} {nx} q false p false p2 false p3 true p4 y7 p7 e = arrays major n nx q (eqb-true major 4 p4) e
  by_major_lem {major} q false p false p2 false p3 false p4 true p7 e = is_simple d s b at q (eqb-true major 7 p7) e
  by_major_lem q false p false p2 false p3 false p4 false p7 e = let z : ◌≡◌ {A = ℕ} 0 1 = cc in let z : ⊥ = omega arith in elim z [ ]

  by_head : after (by_major f s at) (read_head s at) ≡ Ok next → IsValue d s at next
  unfolding by_major
  by_head = by (read_head s at) refl
    where
      by : (h : Reading Head) → read_head s at ≡ h → after (by_major f s at) h ≡ Ok next → IsValue d s at next
      by (Err d) q e = let z : ◌≡◌ {A = ℕ} 0 1 = cc in let z : ⊥ = omega arith in elim z [ ]
      by (Ok hd) q e =
          by_major_lem q (ltb hd.major 2) refl (eqb hd.major 2) refl (eqb hd.major 3) refl (eqb hd.major 4) refl (eqb hd.major 7) refl e

pub value_read : (d : ℕ) (s : List ℕ) → IsBytes s → (at : ℕ) {next : ℕ} → value_of d s at ≡ Ok next → IsValue d s at next
unfolding value_of
value_read zero s b at {next} =
    by_head zero s b at next (λ n nx. bad Bounds at) (λ major n nx q m e. let z : ◌≡◌ {A = ℕ} 0 1 = cc in let z : ⊥ = omega arith in elim z [ ])
value_read (suc d) s b at {next} =
    by_head (suc d) s b at next (λ n nx. items_of (value_of d s) n nx)
    (λ major n nx q m e. is_array d s b at q m (items_read d s (λ i to p. value_read d s b i p) n nx next e))
