-- Six pieces written one behind the other: each has room where all together have, and they are placed as one. Both halves of a
-- token are such a row.
use Prim.Native.Nat.{ℕ, ◌+◌, ◌≤◌}
use mathlib.Core.List.{List, ◌++◌}
use native.Mathlib.Omega.{arith}
use lib.ListN.{length}
use Rattle.basis.specs.Basis.{ascii}
use Rattle.cbor_heads.specs.Heads.{head}
use Rattle.cbor_strings.specs.Strings.{string}
use Rattle.cbor_keys.specs.Maps.{text}
use Rattle.cbor_writing.specs.Placing.{Placed}
use Rattle.cbor_writing.proofs.PlacingLaws.{placed_fits, placed_then, shorter}
use Rattle.token_writing.specs.Halves.{front_bytes, back_bytes}

pub record Row (x1 x2 x3 x4 x5 x6 e : List ℕ) (at : ℕ) : Type 0 where
  pub room : at + length (x1 ++ x2 ++ x3 ++ x4 ++ x5 ++ x6) ≤ length e

module _ {x1 x2 x3 x4 x5 x6 e : List ℕ} {at : ℕ} (row : Row x1 x2 x3 x4 x5 x6 e at) where
  w5 : at + length (x1 ++ x2 ++ x3 ++ x4 ++ x5) ≤ length e
  w5 = shorter (x1 ++ x2 ++ x3 ++ x4 ++ x5) x6 at (length e) row.room

  w4 : at + length (x1 ++ x2 ++ x3 ++ x4) ≤ length e
  w4 = shorter (x1 ++ x2 ++ x3 ++ x4) x5 at (length e) w5

  w3 : at + length (x1 ++ x2 ++ x3) ≤ length e
  w3 = shorter (x1 ++ x2 ++ x3) x4 at (length e) w4

  w2 : at + length (x1 ++ x2) ≤ length e
  w2 = shorter (x1 ++ x2) x3 at (length e) w3

  w1 : at + length (x1) ≤ length e
  w1 = shorter (x1) x2 at (length e) w2

  pub fits1 : at + length x1 ≤ length e
  fits1 = w1

  module _ {p1 : ℕ} {m1 : List ℕ} (a1 : Placed x1 e at p1 m1) where
    pub fits2 : p1 + length x2 ≤ length m1
    fits2 = placed_fits (x1) x2 e at w2 a1

    module _ {p2 : ℕ} {m2 : List ℕ} (a2 : Placed x2 m1 p1 p2 m2) where
      s2 : Placed (x1 ++ x2) e at p2 m2
      s2 = placed_then (x1) x2 e at w2 a1 a2

      pub fits3 : p2 + length x3 ≤ length m2
      fits3 = placed_fits (x1 ++ x2) x3 e at w3 s2

      module _ {p3 : ℕ} {m3 : List ℕ} (a3 : Placed x3 m2 p2 p3 m3) where
        s3 : Placed (x1 ++ x2 ++ x3) e at p3 m3
        s3 = placed_then (x1 ++ x2) x3 e at w3 s2 a3

        pub fits4 : p3 + length x4 ≤ length m3
        fits4 = placed_fits (x1 ++ x2 ++ x3) x4 e at w4 s3

        module _ {p4 : ℕ} {m4 : List ℕ} (a4 : Placed x4 m3 p3 p4 m4) where
          s4 : Placed (x1 ++ x2 ++ x3 ++ x4) e at p4 m4
          s4 = placed_then (x1 ++ x2 ++ x3) x4 e at w4 s3 a4

          pub fits5 : p4 + length x5 ≤ length m4
          fits5 = placed_fits (x1 ++ x2 ++ x3 ++ x4) x5 e at w5 s4

          module _ {p5 : ℕ} {m5 : List ℕ} (a5 : Placed x5 m4 p4 p5 m5) where
            s5 : Placed (x1 ++ x2 ++ x3 ++ x4 ++ x5) e at p5 m5
            s5 = placed_then (x1 ++ x2 ++ x3 ++ x4) x5 e at w5 s4 a5

            pub fits6 : p5 + length x6 ≤ length m5
            fits6 = placed_fits (x1 ++ x2 ++ x3 ++ x4 ++ x5) x6 e at row.room s5

            module _ {p6 : ℕ} {m6 : List ℕ} (a6 : Placed x6 m5 p5 p6 m6) where
              pub all_placed : Placed (x1 ++ x2 ++ x3 ++ x4 ++ x5 ++ x6) e at p6 m6
              all_placed = placed_then (x1 ++ x2 ++ x3 ++ x4 ++ x5) x6 e at row.room s5 a6

-- c and r
pub front_row : (n : ℕ) {cs c r e : List ℕ} → length (front_bytes n cs c r) ≤ length e
    → Row (head 5 6 ++ text (ascii "c")) (head 4 n) cs c (text (ascii "r")) r e 0
unfolding front_bytes
front_row n h = record { room = omega (arith, h) }

-- s, v, kid and tid
pub back_row : (tag kid tid : List ℕ) {e : List ℕ} {at : ℕ} → at + length (back_bytes tag kid tid) ≤ length e
    → Row (text (ascii "s")) (string 2 tag) (text (ascii "v") ++ head 0 1 ++ text (ascii "kid")) (text kid) (text (ascii "tid")) (text tid) e at
unfolding back_bytes
back_row tag kid tid h = record { room = h }
