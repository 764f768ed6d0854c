-- Runs of bytes and numbers both ways: what was written is found, and what is found was written so.
use mathlib.Core.Path.{◌≡◌, sym, ap, ◌∙◌}
use mathlib.Core.List.{List, ◌++◌}
use Prim.Native.Nat.{ℕ, ◌+◌, ◌-◌, ◌^◌, ◌≤◌, ◌<◌}
use native.Mathlib.Omega.{arith}
use borrow.Author.Tests.{ltb-false, le-ltb}
use lib.Dec.{ltb}
use lib.ListN.{length, drop, length-append, length-drop, take-append-drop}
use lib.Seq.{drop-drop, length-take-le}
use Rattle.std.specs.Prelude.{Some}
use Rattle.std.proofs.lemmas.Option.{option_and_then_some}
use Rattle.basis.specs.Basis.{from_to, between, IsBytes}
use Rattle.basis.specs.declared.Span.{Span}
use Rattle.basis.proofs.Pairs.{some_same, some_pair}
use Rattle.basis.proofs.Parts.{lies, begins_alike, ends_alike}
use Rattle.records.specs.Records.{little, little_of}
use Rattle.records.specs.Reading.{run_at, little_at}
use Rattle.cbor_heads.proofs.HeadLaws.{bytes_take}
use Rattle.cbor_heads.proofs.HeadLaws.{drop_bytes}
use Rattle.records.proofs.Littles.{little_length, little_read, little_written}
use Rattle.records.proofs.Ways.{passed}

pub record Ran (s : List ℕ) (at n : ℕ) (part : Span) : Type 0 where
  pub starts : part.from ≡ at
  pub stops : part.to ≡ at + n
  pub order : part.from ≤ part.to
  pub inside : part.to ≤ length s

pub ran : (s : List ℕ) (at n : ℕ) {part : Span} → run_at s at n ≡ Some part → Ran s at n part
unfolding run_at
ran s at n {part} e =
    let p = passed (ltb (length s) at) e in
    let q = passed (ltb (length s - at) n) p.1 in
    let g = ltb-false (length s) at p.0 in
    let h = ltb-false (length s - at) n q.0 in
    let x = begins_alike (some_same q.1) in
    let y = ends_alike (some_same q.1) in
    record { starts = sym x; stops = sym y; order = omega arith; inside = omega arith }

pub run_long : (s : List ℕ) (at n : ℕ) {part : Span} → run_at s at n ≡ Some part → length (between s part) ≡ n
run_long s at n {part} e =
    let r = ran s at n e in
    length-take-le (part.to - part.from) (drop part.from s) (simp length-drop (omega (arith, r.order, r.inside))) ∙ omega (arith, r.starts, r.stops)

-- what a slicing asks for, from what the code knows
pub slices : (s : List ℕ) (at n : ℕ) (part : Span) → Some part ≡ run_at s at n → (part.from ≤ part.to) × (part.to ≤ length s) × (length (between s part) ≡ n)
slices s at n part e = let r = ran s at n (sym e) in (r.order, r.inside, run_long s at n (sym e))

-- what is read lies between its two places, and the rest behind it
pub run_read : (s : List ℕ) (at n : ℕ) {part : Span} → run_at s at n ≡ Some part → drop at s ≡ between s part ++ drop part.to s
run_read s at n {part} e =
    let r = ran s at n e in
    let n = part.to - part.from in
    let k : part.from + n ≡ part.to = omega (arith, r.order) in
    ap (λ (i : ℕ). drop i s) (sym r.starts)
    ∙ sym (take-append-drop n (drop part.from s))
    ∙ ap (λ (t : List ℕ). between s part ++ t) (drop-drop n part.from s ∙ ap (λ (i : ℕ). drop i s) k)

-- what begins inside and is there ends inside
pub ends_inside : (s x t : List ℕ) (at : ℕ) → at ≤ length s → drop at s ≡ x ++ t → at + length x ≤ length s
ends_inside s x t at h e =
    let l : length s - at ≡ length x + length t = sym (length-drop at s) ∙ ap length e ∙ length-append x t in
    omega arith

pub run_written : (s x t : List ℕ) (at : ℕ) → at ≤ length s → drop at s ≡ x ++ t → run_at s at (length x) ≡ Some (from_to at (at + length x))
unfolding run_at
run_written s x t at h e =
    let l = ends_inside s x t at h e in
    rw (le-ltb (length s) at h, le-ltb (length s - at) (length x) (omega arith))

pub number_written : (s t : List ℕ) (at k n : ℕ) → k ≤ 8 → n < 256 ^ k → at ≤ length s → drop at s ≡ little k n ++ t → little_at s at k ≡ Some (n, at + k)
unfolding little_at
number_written s t at k n g h i e =
    let l = little_length k n in
    let r : run_at s at k ≡ Some (from_to at (at + k)) = rw l at (run_written s (little k n) t at i e) in
    let b : between s (from_to at (at + k)) ≡ little k n = rw l at (lies s (little k n) t at e) in
    rw (le-ltb 8 k g, r, b, little_read k n h)

-- a number that was read
pub record IsNumber (s : List ℕ) (at k n next : ℕ) : Type 0 where
  pub few : k ≤ 8
  pub small : n < 256 ^ k
  pub behind : next ≡ at + k
  pub inside : next ≤ length s
  pub there : drop at s ≡ little k n ++ drop next s

between_bytes : (s : List ℕ) → IsBytes s → (part : Span) → IsBytes (between s part)
between_bytes s b part = bytes_take (part.to - part.from) (drop part.from s) (drop_bytes part.from s b)

pub number_read : (s : List ℕ) → IsBytes s → (at k : ℕ) {n next : ℕ} → little_at s at k ≡ Some (n, next) → IsNumber s at k n next
unfolding little_at
number_read s b at k {n} {next} e =
    let p = passed (ltb 8 k) e in
    option_and_then_some _ (run_at s at k) (n, next) p.1 (λ part q g. here part q (some_pair g) (ltb-false 8 k p.0))
  where
    here : (part : Span) → run_at s at k ≡ Some part → (little_of (between s part) ≡ n) × (part.to ≡ next) → k ≤ 8 → IsNumber s at k n next
    here part q o h =
        let r = ran s at k q in
        let l = run_long s at k q in
        let w = little_written (between s part) (between_bytes s b part) in
        record {
          few = h;
          small = rw (← l, ← o.0) w.0;
          behind = sym o.1 ∙ r.stops;
          inside = rw (← o.1) r.inside;
          there = rw (← l, ← o.0, ← o.1, w.1) (run_read s at k q);
        }
