-- A text placed in a room: two placed one behind the other are one, the room keeps its length, and how long a head is does
-- not depend on its major type. These let a crate above join what it writes piece by piece.
use mathlib.Core.Path.{◌≡◌, refl, sym, ap, ◌∙◌}
use mathlib.Core.Bool.{Bool, true, false}
use mathlib.Core.List.{List, [], ◌∷◌, ◌++◌, append_assoc}
use Prim.Native.Nat.{ℕ, ◌+◌, ◌*◌, ◌≤◌}
use native.Mathlib.Nat.{zero-add}
use native.Mathlib.Omega.{arith}
use lib.Dec.{ltb}
use lib.ListN.{length, take, length-append, length-drop}
use lib.Seq.{drop-drop, drop-append-add, length-take-le, take-append_seam}
use Rattle.basis.specs.Basis.{pick, over}
use Rattle.cbor_heads.specs.Heads.{big, head}
use Rattle.cbor_writing.specs.Placing.{placed, Placed}

pub placed_front : (x e : List ℕ) → placed x 0 e ≡ over x e
placed_front x e = rw zero-add

pub placed_length : (x e : List ℕ) (at : ℕ) → at + length x ≤ length e → length (placed x at e) ≡ length e
placed_length x e at h =
    let front : length (take at e) ≡ at = length-take-le at e (omega arith) in
    rw (length-append, length-append, length-drop, front) (omega arith)

-- what stands before the text counts as written too, so that the laws of `over` serve
placed_over : (x e : List ℕ) (at : ℕ) → at + length x ≤ length e → placed x at e ≡ over (take at e ++ x) e
placed_over x e at h =
    let front : length (take at e) ≡ at = length-take-le at e (omega arith) in
    rw (length-append, front, append_assoc)

pub placed_more : (x y e : List ℕ) (at : ℕ) → at + length (x ++ y) ≤ length e
    → placed y (at + length x) (placed x at e) ≡ placed (x ++ y) at e
placed_more x y e at h =
    let both : length (x ++ y) ≡ length x + length y = length-append x y in
    let front : length (take at e) ≡ at = length-take-le at e (omega arith) in
    let long : length (take at e ++ x) ≡ at + length x = length-append (take at e) x ∙ ap (λ (k : ℕ). k + length x) front in
    let all : length (take at e ++ (x ++ y)) ≡ length (take at e ++ x) + length y =
    length-append (take at e) (x ++ y) ∙ omega (arith, both, front, long) in
    rw (placed_over x e at (omega arith), ← long, take-append_seam, drop-append-add, drop-drop, placed_over (x ++ y) e at h, all, ← append_assoc (take at e) x y, append_assoc (take at e ++ x) y)

-- what has room has room for its front
pub shorter : (x y : List ℕ) (at size : ℕ) → at + length (x ++ y) ≤ size → at + length x ≤ size
shorter x y at size h = omega (arith, length-append x y)

-- one writer behind another: the second has room, and both together placed the whole
module _ (x y e : List ℕ) (at : ℕ) {p : ℕ} {m : List ℕ} (h : at + length (x ++ y) ≤ length e) (a : Placed x e at p m) where
  pub placed_fits : p + length y ≤ length m
  placed_fits =
      let both : length (x ++ y) ≡ length x + length y = length-append x y in
      let long : length m ≡ length e = ap length a.content ∙ placed_length x e at (omega arith) in
      omega (arith, a.behind)

  pub placed_then : {r : ℕ} {f : List ℕ} → Placed y m p r f → Placed (x ++ y) e at r f
  placed_then b =
      record {
        behind = b.behind ∙ rw (a.behind, length-append) (omega arith);
        content = b.content ∙ rw (a.behind, a.content) (placed_more x y e at h);
      }

sized : (major n : ℕ) → length (head major n) ≡ pick (ltb n 24) 1 (pick (ltb n 256) 2 (pick (ltb n 65536) 3 (pick (ltb n 4294967296) 5 9)))
unfolding head big
sized major n = by (ltb n 24) (ltb n 256) (ltb n 65536) (ltb n 4294967296)
  where
    by : (a b c d : Bool)
        → length (pick a ((major * 32 + n) ∷ []) (pick b ((major * 32 + 24) ∷ big 1 n) (pick c ((major * 32 + 25) ∷ big 2 n) (pick d ((major * 32 + 26) ∷ big 4 n) ((major * 32 + 27) ∷ big 8 n)))))
        ≡ pick a 1 (pick b 2 (pick c 3 (pick d 5 9)))
    by true b c d = refl
    by false true c d = refl
    by false false true d = refl
    by false false false true = refl
    by false false false false = refl

pub head_long : (major n : ℕ) → length (head major n) ≡ length (head 0 n)
head_long major n = sized major n ∙ sym (sized 0 n)
