-- What the loop of `put_big` knows in a turn, and that a turn keeps it: the bytes still to write and those written are
-- together what was asked.
use mathlib.Core.Path.{◌≡◌, refl, ◌∙◌}
use mathlib.Core.List.{List, ◌∷◌, ◌++◌, append_assoc}
use Prim.Native.Nat.{ℕ, zero, suc, ◌-◌, ◌/◌, ◌%◌, ◌≤◌, ◌<◌}
use native.Mathlib.Omega.{arith}
use lib.ListN.{length, take, drop, set, length-set}
use lib.Seq.{set_split, drop_at, length-take-le}
use Rattle.cbor_heads.specs.Heads.{big}

pub record Put (k n : ℕ) (entry room : List ℕ) (v i : ℕ) : Type 0 where
  pub long : length room ≡ length entry
  pub fits : k ≤ length entry
  pub left : i ≤ k
  pub rest : big i v ++ drop i room ≡ big k n ++ drop k entry

pub put_start : (k n : ℕ) (room : List ℕ) → k ≤ length room → Put k n room room n k
put_start k n room h = record { long = refl; fits = h; left = omega arith; rest = refl }

put_one : (v i : ℕ) (room : List ℕ) → 0 < i → i ≤ length room
    → big (i - 1) (v / 256) ++ drop (i - 1) (set room (i - 1) (v % 256)) ≡ big i v ++ drop i room
unfolding big
put_one v zero room h g = let z : ⊥ = omega arith in elim z [ ]
put_one v (suc j) room h g =
    let p : suc j - 1 ≡ j = omega arith in
    let front : length (take j room) ≡ j = length-take-le j room (omega arith) in
    rw (p, set_split room j (v % 256) (omega arith), drop_at (take j room) ((v % 256) ∷ drop (suc j) room) j front, append_assoc)

module _ (k n : ℕ) (entry room : List ℕ) (v i : ℕ) (p : Put k n entry room v i) where
  pub put_step : 0 < i → Put k n entry (set room (i - 1) (v % 256)) (v / 256) (i - 1)
  put_step h =
      record {
        long = length-set room (i - 1) (v % 256) ∙ p.long;
        fits = p.fits;
        left = omega arith;
        rest = put_one v i room h (omega arith) ∙ p.rest;
      }

  pub put_end : i ≤ 0 → room ≡ big k n ++ drop k entry
  unfolding big
  put_end h = let z : i ≡ 0 = omega arith in rw z at p.rest
