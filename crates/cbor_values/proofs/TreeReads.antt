-- Reading what was written: the encoding of a tree within limits reads to its end, with anything before and behind it.
use Rattle.std.specs.Prelude.{Ok}
use mathlib.Core.Path.{◌≡◌, refl, sym, ap, ◌∙◌}
use mathlib.Core.Bool.{true}
use mathlib.Core.List.{List, ◌++◌, append_assoc}
use Prim.Native.Nat.{ℕ, zero, suc, ◌+◌, ◌-◌, ◌^◌, ◌<◌}
use native.Mathlib.Nat.{add-zero}
use native.Mathlib.Omega.{arith}
use borrow.Author.Tests.{le-ltb}
use lib.ListN.{length, drop, length-append}
use Rattle.cbor_heads.specs.Heads.{head}
use Rattle.cbor_strings.specs.Strings.{string}
use Rattle.basis.proofs.Parts.{past, ends}
use Rattle.cbor_heads.proofs.CountLaws.{head_there}
use Rattle.cbor_strings.proofs.StringLaws.{written_head, fits, content_there}
use Rattle.cbor_values.specs.Utf8.{utf8}
use Rattle.cbor_values.specs.Reading.{run_of, text_of, items_of, value_of}
use Rattle.cbor_values.specs.Trees.{Value, number, negative, bytes, text, simple, array, Values, none, more, count, encode, encodes, Good, AllGood}
use Rattle.cbor_values.proofs.ItemReads as reads

module _ (s t c : List ℕ) (at major : ℕ) (e : drop at s ≡ string major c ++ t) (h : length c < 2 ^ 64) where
  abbrev next : ℕ
  next = at + length (head major (length c))

  string_end : next + length c ≡ at + length (string major c)
  string_end = rw (length-append (head major (length c)) c) (omega arith)

  run_there : run_of s at next (length c) ≡ Ok (at + length (string major c))
  unfolding run_of
  run_there = rw (le-ltb (length s - next) (length c) (omega (arith, fits s c t at major e h))) (ap Ok string_end)

  text_there : utf8 c ≡ true → text_of s at next (length c) ≡ Ok (at + length (string major c))
  unfolding text_of
  text_there u =
      rw (le-ltb (length s - next) (length c) (omega (arith, fits s c t at major e h)), content_there s c t at major e h, u) (ap Ok string_end)

mutual
  unfolding Good encode count items_of

  pub read_encoded : (v : Value) (d : ℕ) → Good v d → (s t : List ℕ) (at : ℕ) → drop at s ≡ encode v ++ t → value_of d s at ≡ Ok (at + length (encode v))
  read_encoded (number n) d g s t at e = sym (reads.number d s at (head_there s t at 0 n e g) (omega arith))
  read_encoded (negative n) d g s t at e = sym (reads.number d s at (head_there s t at 1 n e g) (omega arith))
  read_encoded (bytes c) d g s t at e = sym (reads.bytes d s at (written_head s c t at 2 e g) refl) ∙ run_there s t c at 2 e g
  read_encoded (text c) d g s t at e = sym (reads.text d s at (written_head s c t at 3 e g.0) refl) ∙ text_there s t c at 3 e g.0 g.1
  read_encoded (simple n) d g s t at e = sym (reads.simple d s at (head_there s t at 7 n e (omega (arith, g.1))) refl g.0 g.1)
  read_encoded (array vs) zero g s t at e = elim g [ ]
  read_encoded (array vs) (suc d) g s t at e =
      let h = head 4 (count vs) in
      let f = e ∙ append_assoc h (encodes vs) t in
      let p : suc d - 1 ≡ d = omega arith in
      let r = rw p at (reads.array s at (head_there s (encodes vs ++ t) at 4 (count vs) f g.0) refl (suc d) (λ z. omega arith)) in
      sym r ∙ reads_encoded vs d g.1 s t (at + length h) (past s h (encodes vs ++ t) at f) ∙ ap Ok (ends h (encodes vs) at)

  pub reads_encoded : (vs : Values) (d : ℕ) → AllGood vs d → (s t : List ℕ) (at : ℕ) → drop at s ≡ encodes vs ++ t
      → items_of (value_of d s) (count vs) at ≡ Ok (at + length (encodes vs))
  reads_encoded none d g s t at e = ap Ok (sym (add-zero at))
  reads_encoded (more v vs) d g s t at e =
      let f = e ∙ append_assoc (encode v) (encodes vs) t in
      rw (read_encoded v d g.0 s (encodes vs ++ t) at f)
      (reads_encoded vs d g.1 s t (at + length (encode v)) (past s (encode v) (encodes vs ++ t) at f) ∙ ap Ok (ends (encode v) (encodes vs) at))
