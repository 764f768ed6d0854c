-- Strings behind their lengths and records, both ways: what was written is found, and what is found was written so.
use mathlib.Core.Path.{◌≡◌, refl, ap, subst, ◌∙◌}
use mathlib.Core.Bool.{true}
use mathlib.Core.List.{List, ◌++◌, append_assoc}
use Prim.Native.Nat.{ℕ, ◌+◌, ◌^◌, ◌≤◌, ◌<◌}
use native.Mathlib.Omega.{arith}
use borrow.Author.Tests.{ltb-false, le-ltb}
use lib.Dec.{ltb}
use lib.ListN.{length, drop, length-append}
use Rattle.std.specs.Prelude.{Some}
use Rattle.std.proofs.lemmas.Option.{option_and_then_some}
use Rattle.basis.specs.Basis.{from_to, between, IsBytes}
use Rattle.basis.specs.declared.Span.{Span}
use Rattle.basis.proofs.Pairs.{some_same}
use Rattle.records.specs.declared.RecordAt.{RecordAt}
use Rattle.basis.proofs.Parts.{past, lies, on}
use Rattle.cbor_strings.specs.Strings.{content_of}
use Rattle.cbor_strings.specs.declared.Class.{Class}
use Rattle.cbor_keys.specs.Maps.{GoodText}
use Rattle.records.specs.Records.{little, counted, record_bytes}
use Rattle.records.specs.Reading.{run_at, little_at, text_at, read_record}
use Rattle.records.proofs.Ways.{taken, passed}
use Rattle.records.proofs.Littles.{little_length}
use Rattle.records.proofs.Runs.{ran, run_long, run_read, ends_inside, run_written, number_written, IsNumber, number_read}

pub text_written : (width : ℕ) (class : Class) (low high : ℕ) (x : List ℕ) → width ≤ 8 → high < 256 ^ width → GoodText class low high x → (s t : List ℕ) (at : ℕ) → at ≤ length s
    → drop at s ≡ counted width x ++ t → text_at s width class low high at ≡ Some (from_to (at + width) (at + width + length x))
unfolding counted text_at
text_written width class low high x w h g s t at i e =
    let lo = g.enough in
    let hi = g.most in
    let l = little width (length x) in
    let ll = little_length width (length x) in
    let d0 = e ∙ append_assoc l x t in
    let n = number_written s (x ++ t) at width (length x) w (omega arith) i d0 in
    let j : at + width ≤ length s = rw ll at (ends_inside s l (x ++ t) at i d0) in
    let d1 : drop (at + width) s ≡ x ++ t = rw ll at (past s l (x ++ t) at d0) in
    rw (n, le-ltb (length x) low lo, le-ltb high (length x) hi, run_written s x t (at + width) j d1, lies s x t (at + width) d1, g.content)

-- a string that was read
pub record IsText (width : ℕ) (class : Class) (low high : ℕ) (s : List ℕ) (at : ℕ) (part : Span) : Type 0 where
  pub tree : List ℕ
  pub good : GoodText class low high tree
  pub held : between s part ≡ tree
  pub order : part.from ≤ part.to
  pub inside : part.to ≤ length s
  pub there : drop at s ≡ counted width tree ++ drop part.to s

pub text_read : (width : ℕ) (class : Class) (low high : ℕ) (s : List ℕ) → IsBytes s → (at : ℕ) {part : Span} → text_at s width class low high at ≡ Some part
    → IsText width class low high s at part
unfolding counted text_at
text_read width class low high s b at {part} e =
    option_and_then_some _ (little_at s at width) part e (λ m was goes.
    let p = passed (ltb m.0 low) goes in
    let q = passed (ltb high m.0) p.1 in
    option_and_then_some _ (run_at s m.1 m.0) part q.1 (λ run ran held.
    let c = taken (content_of class (between s run)) held in
    subst (IsText width class low high s at) (some_same c.1)
    (found m.0 m.1 run (number_read s b at width was).there (ltb-false m.0 low p.0) (ltb-false high m.0 q.0) ran c.0)))
  where
    found : (n next : ℕ) (part : Span) → drop at s ≡ little width n ++ drop next s → low ≤ n → n ≤ high → run_at s next n ≡ Some part → content_of class (between s part) ≡ true
        → IsText width class low high s at part
    found n next part d l h e c =
        let k = run_long s next n e in
        let r = ran s next n e in
        record {
          tree = between s part;
          good = record { enough = rw k l; most = rw k h; content = c };
          held = refl;
          order = r.order;
          inside = r.inside;
          there = rw (append_assoc, k) (on (little width n) d (run_read s next n e));
        }

pub record_written : (kind : ℕ) (body : List ℕ) → kind < 65536 → length body < 65536 → (s t : List ℕ) (at : ℕ) → at ≤ length s → drop at s ≡ record_bytes kind body ++ t
    → read_record s at ≡ Some (record { kind = kind; body = from_to (at + 2 + 2) (at + 2 + 2 + length body) })
unfolding record_bytes read_record
record_written kind body k l s t at i e =
    let x = little 2 (length body) in
    let y = little 2 kind in
    let lx = little_length 2 (length body) in
    let ly = little_length 2 kind in
    let d0 : drop at s ≡ x ++ (y ++ (body ++ t)) = simp append_assoc at e in
    let n = number_written s (y ++ (body ++ t)) at 2 (length body) (omega arith) (omega arith) i d0 in
    let i1 : at + 2 ≤ length s = rw lx at (ends_inside s x (y ++ (body ++ t)) at i d0) in
    let d1 : drop (at + 2) s ≡ y ++ (body ++ t) = rw lx at (past s x (y ++ (body ++ t)) at d0) in
    let m = number_written s (body ++ t) (at + 2) 2 kind (omega arith) (omega arith) i1 d1 in
    let i2 : at + 2 + 2 ≤ length s = rw ly at (ends_inside s y (body ++ t) (at + 2) i1 d1) in
    let d2 : drop (at + 2 + 2) s ≡ body ++ t = rw ly at (past s y (body ++ t) (at + 2) d1) in
    rw (n, m, run_written s body t (at + 2 + 2) i2 d2)

-- a record that was read
pub record IsRecord (s : List ℕ) (at : ℕ) (r : RecordAt) : Type 0 where
  pub small : r.kind < 65536
  pub short : length (between s r.body) < 65536
  pub begins : r.body.from ≡ at + 2 + 2
  pub order : r.body.from ≤ r.body.to
  pub inside : r.body.to ≤ length s
  pub held : drop r.body.from s ≡ between s r.body ++ drop r.body.to s
  pub there : drop at s ≡ record_bytes r.kind (between s r.body) ++ drop r.body.to s

pub record_read : (s : List ℕ) → IsBytes s → (at : ℕ) {r : RecordAt} → read_record s at ≡ Some r → IsRecord s at r
unfolding record_bytes read_record
record_read s b at {r} e =
    option_and_then_some _ (little_at s at 2) r e (λ m was_m goes.
    option_and_then_some _ (little_at s m.1 2) r goes (λ k was_k goes.
    option_and_then_some _ (run_at s k.1 m.0) r goes (λ body was same.
    subst (IsRecord s at) (some_same same) (found m.0 m.1 k.0 k.1 body (number_read s b at 2 was_m) (number_read s b m.1 2 was_k) was))))
  where
    found : (n p k q : ℕ) (part : Span) → IsNumber s at 2 n p → IsNumber s p 2 k q → run_at s q n ≡ Some part → IsRecord s at (record { kind = k; body = part })
    found n p k q part x y v =
        let r = ran s q n v in
        let l = run_long s q n v in
        let d = run_read s q n v in
        record {
          small = omega (arith, y.small);
          short = rw l (omega (arith, x.small));
          begins = r.starts ∙ y.behind ∙ ap (λ (i : ℕ). i + 2) x.behind;
          order = r.order;
          inside = r.inside;
          held = ap (λ (i : ℕ). drop i s) r.starts ∙ d;
          there = rw (append_assoc, append_assoc, l) (on (little 2 n) x.there (on (little 2 k) y.there d));
        }

pub counted_length : (width : ℕ) (x : List ℕ) → length (counted width x) ≡ width + length x
unfolding counted
counted_length width x = length-append (little width (length x)) x ∙ ap (λ (n : ℕ). n + length x) (little_length width (length x))

-- what stands behind a string and at a record's body
pub text_behind : (width : ℕ) (x s t : List ℕ) (at : ℕ) → drop at s ≡ counted width x ++ t → drop (at + width + length x) s ≡ t
unfolding counted
text_behind width x s t at e =
    let l = little width (length x) in
    let d : drop (at + width) s ≡ x ++ t = rw (little_length width (length x)) at (past s l (x ++ t) at (e ∙ append_assoc l x t)) in
    past s x t (at + width) d

pub text_inside : (width : ℕ) (x s t : List ℕ) (at : ℕ) → at ≤ length s → drop at s ≡ counted width x ++ t → at + width + length x ≤ length s
unfolding counted
text_inside width x s t at i e =
    let l = ends_inside s (little width (length x) ++ x) t at i e in
    omega (arith, l, length-append (little width (length x)) x, little_length width (length x))

pub text_lies : (width : ℕ) (x s t : List ℕ) (at : ℕ) → drop at s ≡ counted width x ++ t → between s (from_to (at + width) (at + width + length x)) ≡ x
unfolding counted
text_lies width x s t at e =
    let l = little width (length x) in
    let d : drop (at + width) s ≡ x ++ t = rw (little_length width (length x)) at (past s l (x ++ t) at (e ∙ append_assoc l x t)) in
    lies s x t (at + width) d

pub record_body_lem : (kind : ℕ) (body s t : List ℕ) (at : ℕ) → at ≤ length s → drop at s ≡ record_bytes kind body ++ t → (drop (at + 2 + 2) s ≡ body ++ t) × (at + 2 + 2 ≤ length s)
unfolding record_bytes
record_body_lem kind body s t at i e =
    let x = little 2 (length body) in
    let y = little 2 kind in
    let lx = little_length 2 (length body) in
    let ly = little_length 2 kind in
    let d0 : drop at s ≡ x ++ (y ++ (body ++ t)) = simp append_assoc at e in
    let i1 : at + 2 ≤ length s = rw lx at (ends_inside s x (y ++ (body ++ t)) at i d0) in
    let d1 : drop (at + 2) s ≡ y ++ (body ++ t) = rw lx at (past s x (y ++ (body ++ t)) at d0) in
    (rw ly at (past s y (body ++ t) (at + 2) d1), rw ly at (ends_inside s y (body ++ t) (at + 2) i1 d1))
