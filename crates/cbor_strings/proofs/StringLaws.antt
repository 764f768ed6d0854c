-- Reading a string that was written gives its place, and a string that reads well is what writing its content gives: once for
-- every major type, range and class.
use Rattle.std.specs.Prelude.{Ok}
use Rattle.cbor_heads.specs.Reading.{got}
use mathlib.Core.Path.{◌≡◌, refl, sym, ap, ◌∙◌}
use mathlib.Core.Bool.{true}
use mathlib.Core.List.{List, ◌++◌, append_assoc}
use Prim.Native.Nat.{ℕ, ◌+◌, ◌-◌, ◌^◌, ◌≤◌, ◌<◌}
use native.Mathlib.Omega.{arith}
use borrow.Author.Tests.{le-ltb, eq-eqb}
use lib.ListN.{length, take, drop, length-append, length-drop, take-append-drop}
use lib.Seq.{drop-drop, length-take-le, take_at, drop_at}
use Rattle.basis.specs.Basis.{from_to, between, IsBytes}
use Rattle.basis.specs.declared.Span.{Span}
use Rattle.cbor_heads.specs.Heads.{head}
use Rattle.cbor_heads.specs.Reading.{head_at, read_head}
use Rattle.cbor_strings.specs.Strings.{string, content_of}
use Rattle.cbor_strings.specs.Reading.{run_by, read_run, content_by, read_string}
use Rattle.cbor_strings.specs.declared.Class.{Class}
use Rattle.cbor_heads.proofs.HeadLaws.{read_written, written_read, drop_bytes}
use Rattle.cbor_strings.proofs.RunReads.{found}

past : (i n : ℕ) → i + n - i ≡ n
past i n = omega arith

upto : (from to : ℕ) → from ≤ to → to ≡ from + (to - from)
upto from to h = omega arith

module _ (s content rest : List ℕ) (at major : ℕ) (e : drop at s ≡ string major content ++ rest) (n : length content < 2 ^ 64) where
  -- where the content begins
  abbrev pub from : ℕ
  from = at + length (head major (length content))

  front : drop at s ≡ head major (length content) ++ (content ++ rest)
  front = e ∙ append_assoc (head major (length content)) content rest

  pub written_head : read_head s at ≡ Ok (got major (length content) from)
  written_head = ap (head_at at) front ∙ read_written at major (length content) (content ++ rest) n

  pub fits : length s - at ≡ length (head major (length content)) + (length content + length rest)
  fits = sym (length-drop at s) ∙ ap length front ∙ length-append (head major (length content)) (content ++ rest)
      ∙ ap (λ (k : ℕ). length (head major (length content)) + k) (length-append content rest)

  pub read_run_written : (low high : ℕ) → low ≤ length content → length content ≤ high
      → read_run s at major low high ≡ Ok (from_to from (from + length content))
  unfolding run_by
  read_run_written low high l h =
      rw (written_head, eq-eqb major major refl, le-ltb _ _ l, le-ltb _ _ h, le-ltb (length s - from) (length content) (omega (arith, fits)))

  -- the content lies there
  pub content_there : take (length content) (drop from s) ≡ content
  content_there =
      let p : drop from s ≡ content ++ rest =
      sym (drop-drop (length (head major (length content))) at s) ∙ ap (drop (length (head major (length content)))) front
      ∙ drop_at (head major (length content)) (content ++ rest) (length (head major (length content))) refl in
      ap (take (length content)) p ∙ take_at content rest (length content) refl

  pub read_string_written : (class : Class) (low high : ℕ) → major ≡ 3 → low ≤ length content → length content ≤ high → content_of class content ≡ true
      → read_string s at class low high ≡ Ok (from_to from (from + length content))
  unfolding content_by
  read_string_written class low high m l h k =
      let r : read_run s at 3 low high ≡ Ok (from_to from (from + length content)) =
      ap (λ (i : ℕ). read_run s at i low high) (sym m) ∙ read_run_written low high l h in
      let c : take (from + length content - from) (drop from s) ≡ content = ap (λ (i : ℕ). take i (drop from s)) (past from (length content)) ∙ content_there in
      rw (r, c, k)

-- what is read well is what writing gives, with what stands behind it
module _ (s : List ℕ) (at major low high : ℕ) (b : IsBytes s) {part : Span} (e : read_run s at major low high ≡ Ok part) where
  abbrev content : List ℕ
  content = between s part

  pub written_run : drop at s ≡ string major content ++ drop part.to s
  written_run =
      let f = found s at major low high e in
      let w = written_read at (drop at s) (drop_bytes at s b) f.headed in
      let h = head major (part.to - part.from) in
      let n : length content ≡ part.to - part.from = length-take-le (part.to - part.from) (drop part.from s) (simp length-drop (omega (arith, f.order, f.inside))) in
      let p : drop (length h) (drop at s) ≡ drop part.from s = drop-drop (length h) at s ∙ ap (λ (i : ℕ). drop i s) (sym w.past) in
      let q : content ++ drop part.to s ≡ drop part.from s =
      ap (λ (t : List ℕ). content ++ t) (ap (λ (i : ℕ). drop i s) (upto part.from part.to f.order) ∙ sym (drop-drop (part.to - part.from) part.from s)) ∙ take-append-drop (part.to - part.from) (drop part.from s) in
      sym (rw (n, append_assoc) (ap (λ (t : List ℕ). h ++ t) (q ∙ sym p) ∙ w.front))
