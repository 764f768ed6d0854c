-- The two halves are the token, as long as its parts say; so it is written whole where the room holds it, and otherwise not at all.
use Rattle.std.specs.Prelude.{Some, None}
use mathlib.Core.Path.{◌≡◌, ap, ◌∙◌}
use mathlib.Core.List.{List, ◌++◌, append_assoc}
use Prim.Native.Nat.{ℕ, ◌+◌, ◌≤◌, ◌<◌, min}
use native.Mathlib.Omega.{arith}
use borrow.Author.Tests.{le-leb, lt-leb}
use lib.ListN.{length, length-append}
use Rattle.basis.specs.Basis.{Written}
use Rattle.cbor_heads.proofs.HeadLengths.{head_one}
use Rattle.token.specs.Tokens.{token_bytes}
use Rattle.cbor_writing.specs.Placing.{Placed}
use Rattle.cbor_writing.proofs.PlacingLaws.{placed_front, placed_fits, placed_then, head_long, shorter}
use Rattle.token_writing.specs.Halves.{front_bytes, back_bytes, token_length}
use Rattle.token_writing.specs.declared.Parts.{Parts}

module _ (n : ℕ) (cs c : List ℕ) (parts : Parts) where
  abbrev scope : List ℕ
  scope = parts.scope.now

  abbrev tag : List ℕ
  tag = parts.tag.now

  abbrev kid : List ℕ
  kid = parts.kid.now

  abbrev tid : List ℕ
  tid = parts.tid.now

  abbrev whole : List ℕ
  whole = token_bytes n (cs ++ c) scope tag kid tid

  abbrev front : List ℕ
  front = front_bytes n cs c scope

  abbrev back : List ℕ
  back = back_bytes tag kid tid

  abbrev long : ℕ
  long = token_length n (length cs + length c) parts

  halves : whole ≡ front ++ back
  unfolding token_bytes front_bytes back_bytes
  halves = simp append_assoc

  whole_long : length whole ≡ long
  unfolding token_bytes
  whole_long =
      simp length-append
      (omega (
        arith,
        head_one 5 6 (omega arith),
        head_one 3 1 (omega arith),
        head_one 3 3 (omega arith),
        head_one 0 1 (omega arith),
        head_long 4 n,
        head_long 2 (length tag),
        head_long 3 (length kid),
        head_long 3 (length tid),
      ))

  module _ (e : List ℕ) {all size : ℕ} (p : all ≡ min (length cs + length c) 0xffffffffffffffff)
      (q : size ≡ min (token_length n all parts) 0xffffffffffffffff) where
    pub refused : length e < size → Written whole e None e
    refused h = let l : length e < length whole = rw whole_long (omega arith) in record { counted = rw (lt-leb _ _ l); content = rw (lt-leb _ _ l) }

    module _ (h : size ≤ length e) (g : length e < 0xffffffffffffffff) where
      fits : length whole ≤ length e
      fits = rw whole_long (omega arith)

      both_fit : 0 + length (front ++ back) ≤ length e
      both_fit = rw (← halves) (omega (arith, fits))

      pub front_fits : length front ≤ length e
      front_fits = omega (arith, shorter front back 0 (length e) both_fit)

      module _ {a : ℕ} {m : List ℕ} (x : Placed front e 0 a m) where
        pub back_fits : a + length back ≤ length m
        back_fits = placed_fits front back e 0 both_fit x

        pub written : {z : ℕ} {f : List ℕ} → Placed back m a z f → Written whole e (Some z) f
        written y =
            let w = placed_then front back e 0 both_fit x y in
            record {
              counted = rw (le-leb _ _ fits) (ap Some (w.behind ∙ rw (← halves) (omega arith)));
              content = rw (le-leb _ _ fits) (w.content ∙ placed_front (front ++ back) e ∙ rw (← halves));
            }
