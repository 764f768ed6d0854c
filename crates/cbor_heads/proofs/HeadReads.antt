use borrow.Author.Tests.{lt-ltb, le-ltb}
use lib.Dec.{ltb, eqb}
use mathlib.Core.Bool.{Bool, true, false}
-- What the definition of reading computes to, in the terms that the code has.
use mathlib.Core.Path.{◌≡◌}
use mathlib.Core.List.{List}
use Prim.Native.Nat.{ℕ, ◌+◌, ◌-◌, ◌/◌, ◌%◌, ◌≤◌, ◌<◌}
use native.Mathlib.Numerals.{add-one}
use native.Mathlib.Omega.{arith}
use Rattle.basis.specs.Basis.{pick}
use lib.ListN.{length, take, drop, get_or, length-drop, drop_of_length-le}
use lib.Seq.{drop-cons}
use Rattle.cbor_heads.specs.declared.defect.Kind.TheVariants.{Cbor}
use Rattle.cbor_heads.specs.Defects.{bad}
use Rattle.std.specs.Prelude.{Ok}
use Rattle.cbor_heads.specs.declared.Width.TheVariants.{Here, Follow, Refused}
use Rattle.cbor_heads.specs.Reading.{got, big_of, head_by, head_at, width_of, read_head}

pub at_end : (s : List ℕ) (at : ℕ) → length s ≤ at → bad Cbor at ≡ read_head s at
unfolding head_at
at_end s at h = rw (drop_of_length-le s h)

pub at_byte : (s : List ℕ) (at : ℕ) → at < length s
    → head_by at (get_or s at 0 / 32) (get_or s at 0 % 32) (width_of (get_or s at 0 % 32)) (drop (at + 1) s) ≡ read_head s at
unfolding head_at
at_byte s at h = rw (add-one, drop-cons s at 0)

pub at_here : (s : List ℕ) (at : ℕ) → at < length s → width_of (get_or s at 0 % 32) ≡ Here
    → Ok (got (get_or s at 0 / 32) (get_or s at 0 % 32) (at + 1)) ≡ read_head s at
unfolding head_by
at_here s at h e = rw e at (at_byte s at h)

pub at_refused : (s : List ℕ) (at : ℕ) → at < length s → width_of (get_or s at 0 % 32) ≡ Refused → bad Cbor at ≡ read_head s at
unfolding head_by
at_refused s at h e = rw e at (at_byte s at h)

module _ (s : List ℕ) (at : ℕ) {n least : ℕ} (h : at < length s) (e : width_of (get_or s at 0 % 32) ≡ Follow n least) where
  follow : head_by at (get_or s at 0 / 32) (get_or s at 0 % 32) (Follow n least) (drop (at + 1) s) ≡ read_head s at
  follow = rw e at (at_byte s at h)

  pub at_short : length s - (at + 1) < n → bad Cbor at ≡ read_head s at
  unfolding head_by
  at_short g = rw (length-drop, lt-ltb _ _ g) at follow

  pub at_small : n ≤ length s - (at + 1) → big_of (take n (drop (at + 1) s)) < least → bad Cbor at ≡ read_head s at
  unfolding head_by
  at_small g l = rw (length-drop, le-ltb _ _ g, lt-ltb _ _ l) at follow

  pub at_value : n ≤ length s - (at + 1) → least ≤ big_of (take n (drop (at + 1) s))
      → Ok (got (get_or s at 0 / 32) (big_of (take n (drop (at + 1) s))) (at + 1 + n)) ≡ read_head s at
  unfolding head_by
  at_value g l = rw (length-drop, le-ltb _ _ g, le-ltb _ _ l) at follow

-- at most eight bytes follow
follow_by : (a b c d e : Bool) {n least : ℕ}
    → pick a Here (pick b (Follow 1 24) (pick c (Follow 2 256) (pick d (Follow 4 65536) (pick e (Follow 8 4294967296) Refused)))) ≡ Follow n least → n ≤ 8
follow_by true b c d e p = let z : ◌≡◌ {A = ℕ} 0 1 = cc in omega arith
follow_by false true c d e {n} p = let z : 1 ≡ n = cc in omega arith
follow_by false false true d e {n} p = let z : 2 ≡ n = cc in omega arith
follow_by false false false true e {n} p = let z : 4 ≡ n = cc in omega arith
follow_by false false false false true {n} p = let z : 8 ≡ n = cc in omega arith
follow_by false false false false false p = let z : ◌≡◌ {A = ℕ} 0 1 = cc in omega arith

pub follow_le : (low : ℕ) {n least : ℕ} → width_of low ≡ Follow n least → n ≤ 8
unfolding width_of
follow_le low p = follow_by (ltb low 24) (eqb low 24) (eqb low 25) (eqb low 26) (eqb low 27) p
