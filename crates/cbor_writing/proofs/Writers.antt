-- What each writer leaves in the room, said of the whole room: the code writes into a part of it that begins at the place.
use mathlib.Core.Path.{◌≡◌, sym, ap, ◌∙◌}
use mathlib.Core.List.{List, [], ◌∷◌, ◌++◌}
use Prim.Native.Nat.{ℕ, ◌+◌, ◌-◌, ◌≤◌, ◌<◌}
use native.Mathlib.Numerals.{add-one}
use native.Mathlib.Omega.{arith}
use borrow.Rule.Slice.PartMut.{put_mid}
use lib.ListN.{length, take, drop, set, length-set, length-take, length-drop}
use lib.Seq.{set_split}
use Rattle.basis.proofs.Rooms.{lent}
use Rattle.cbor_heads.specs.Heads.{big, head}
use Rattle.cbor_heads.proofs.HeadLaws.{bytes_length}
use Rattle.cbor_writing.specs.Placing.{placed, Placed}
use Rattle.cbor_writing.specs.Inner.{Formed}
use Rattle.cbor_writing.proofs.PlacingLaws.{placed_more}

placed_one : (e : List ℕ) (at b : ℕ) → at < length e → set e at b ≡ placed (b ∷ []) at e
placed_one e at b h = set_split e at b h ∙ rw add-one

pub formed_length : {major n first k : ℕ} → Formed major n first k → length (head major n) ≡ 1 + k
formed_length {major} {n} {first} {k} f = ap length f.bytes ∙ omega (arith, bytes_length k n)

-- what is left behind a head's first byte holds the others
pub behind_first : (e : List ℕ) (at first k : ℕ) → at + (1 + k) ≤ length e → k ≤ length (take (length (set e at first) - (at + 1)) (drop (at + 1) (set e at first)))
behind_first e at first k h = simp (length-take, length-drop, length-set) (omega arith)

pub head_placed : (e p : List ℕ) (at : ℕ) {major n first k : ℕ} → Formed major n first k → at + length (head major n) ≤ length e
    → p ≡ big k n ++ drop k (take (length (set e at first) - (at + 1)) (drop (at + 1) (set e at first)))
    → Placed (head major n) e at (at + 1 + k) (put_mid (at + 1) (length (set e at first) - (at + 1)) (set e at first) p)
head_placed e p at {major} {n} {first} {k} f h g =
    let long : length (head major n) ≡ 1 + k = formed_length f in
    let bytes : length (big k n) ≡ k = bytes_length k n in
    let kept : length (set e at first) ≡ length e = length-set e at first in
    record {
      behind = omega arith;
      content =
          lent (set e at first) (big k n) p (at + 1) (omega arith) (rw bytes g)
          ∙ ap (λ (x : List ℕ). placed (big k n) (at + 1) x) (placed_one e at first (omega arith))
          ∙ placed_more (first ∷ []) (big k n) e at (omega arith)
          ∙ ap (λ (x : List ℕ). placed x at e) (sym f.bytes);
    }

pub ruleset heads = (formed_length, behind_first, head_placed)
