-- Lent room: a text written whole or not at all, and a part of the room that was lent on to another writer.
use mathlib.Core.Path.{◌≡◌, sym, ap, ◌∙◌}
use Rattle.std.specs.Prelude.{Some, None}
use mathlib.Core.List.{List, [], ◌∷◌, ◌++◌, append_assoc, append-nil}
use Prim.Native.Nat.{ℕ, suc, ◌+◌, ◌-◌, ◌≤◌, ◌<◌}
use native.Mathlib.Numerals.{add-one}
use native.Mathlib.Omega.{arith}
use borrow.Author.Tests.{le-leb, lt-leb}
use borrow.Rule.Slice.PartMut.{put_mid, Post-is}
use lib.ListN.{length, take, drop, get_or, set, length-append, length-drop}
use lib.Seq.{drop-cons, set_at, take-length, take_all, drop-length, drop-drop, drop-append-add, take-append_seam}
use Rattle.basis.specs.Basis.{over, Written}

module _ (text entry : List ℕ) where
  pub too_short : length entry < length text → Written text entry None entry
  too_short h = record { counted = rw (lt-leb _ _ h); content = rw (lt-leb _ _ h) }

  pub all_written : (exit : List ℕ) {r : ℕ} → length text ≤ length entry → r ≡ length text
      → exit ≡ take (length text) text ++ drop (length text) entry → Written text entry (Some r) exit
  all_written exit h e x =
      record { counted = rw (le-leb _ _ h) (ap Some e); content = rw (le-leb _ _ h) (x ∙ rw take-length) }

-- a part from a on is lent to a writer that puts w at its front
pub lent : (x w p : List ℕ) (a : ℕ) → a + length w ≤ length x → p ≡ over w (take (length x - a) (drop a x))
    → put_mid a (length x - a) x p ≡ take a x ++ (w ++ drop (a + length w) x)
lent x w p a h e =
    let all : take (length x - a) (drop a x) ≡ drop a x = take_all (length x - a) (drop a x) (simp length-drop (omega arith)) in
    rw (Post-is a (length x) x (omega arith), drop-length, append-nil, e, all, drop-drop)

more : (w1 w e : List ℕ) → take (length w1) (over w1 e) ++ (w ++ drop (length w1 + length w) (over w1 e)) ≡ over (w1 ++ w) e
more w1 w e = rw (take-append_seam, drop-append-add, drop-drop, length-append, append_assoc)

-- the room held w1 over e, and w is written behind it
pub lent_over : (w1 w e x p : List ℕ) (a : ℕ) → a ≡ length w1 → length w1 + length w ≤ length e → x ≡ over w1 e → length x ≡ length e
    → p ≡ over w (take (length x - a) (drop a x)) → put_mid a (length x - a) x p ≡ over (w1 ++ w) e
lent_over w1 w e x p a la h ex lx ep = lent x w p a (omega arith) ep ∙ rw (la, ex) (more w1 w e)

-- one element more behind what the room holds
pub set_over : (w e : List ℕ) (x i : ℕ) → i ≡ length w → i < length e → set (over w e) i x ≡ over (w ++ (x ∷ [])) e
set_over w e x i ei h =
    let g : length w < length e = omega arith in
    rw (drop-cons e (length w) 0 g, set_at w (get_or e (length w) 0) (drop (suc (length w)) e) x i (sym ei), length-append, add-one, append_assoc)
