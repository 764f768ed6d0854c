-- A part that lies at a place of a longer string: what stands behind it, and where it ends.
use mathlib.Core.Path.{◌≡◌, refl, sym, ap, ◌∙◌}
use mathlib.Core.Bool.{Bool, true, false}
use mathlib.Core.List.{List, [], ◌++◌}
use borrow.Author.Tests.{leb-true, leb-false, ltb-true, ltb-false, lt-ltb, le-ltb}
use lib.Dec.{leb, ltb}
use Prim.Native.Nat.{ℕ, ◌+◌, ◌-◌, ◌≤◌, ◌<◌, min}
use native.Mathlib.Omega.{arith}
use Rattle.basis.specs.declared.Span.{Span}
use Rattle.basis.specs.Basis.{pick, from_to, between, behind, part_place}
use lib.ListN.{length, take, drop, length-append, length-drop, drop_of_length-le}
use lib.Seq.{drop-drop, drop_at, take_at, take-append_seam, drop-append_seam, take_all, take-nil}

pub past : (s x t : List ℕ) (at : ℕ) → drop at s ≡ x ++ t → drop (at + length x) s ≡ t
past s x t at e = sym (drop-drop (length x) at s) ∙ ap (drop (length x)) e ∙ drop_at x t (length x) refl

pub ends : (x y : List ℕ) (at : ℕ) → at + length x + length y ≡ at + length (x ++ y)
ends x y at = rw (length-append x y) (omega arith)

-- x, and then what stands behind it
pub on : (x : List ℕ) {a b c : List ℕ} → a ≡ x ++ b → b ≡ c → a ≡ x ++ c
on x e f = e ∙ ap (λ (t : List ℕ). x ++ t) f

-- the part itself
pub lies : (s x t : List ℕ) (at : ℕ) → drop at s ≡ x ++ t → between s (from_to at (at + length x)) ≡ x
lies s x t at e =
    let n : at + length x - at ≡ length x = omega arith in
    rw (n, e) (take_at x t (length x) refl)

-- behind one front stands one rest
pub one_rest : (x y t u : List ℕ) → x ≡ y → x ++ t ≡ y ++ u → t ≡ u
one_rest x y t u q e = sym (drop-append_seam x t) ∙ ap (drop (length x)) e ∙ ap (λ (z : List ℕ). drop (length z) (y ++ u)) q ∙ drop-append_seam y u

-- and before one rest one front
pub one_front : (x y t : List ℕ) → x ++ t ≡ y ++ t → x ≡ y
one_front x y t e =
    let l : length x ≡ length y = omega (arith, sym (length-append x t) ∙ ap length e ∙ length-append y t) in
    sym (take-append_seam x t) ∙ ap (take (length x)) e ∙ ap (λ (k : ℕ). take k (y ++ t)) l ∙ take-append_seam y t

-- a part by places that may lie anywhere
pub no_part : (s : List ℕ) (from to end : ℕ) → end ≡ min to (length s) → end < from → [] ≡ between s (from_to from to)
no_part s from to end e h = by (leb (length s) from) refl
  where
    by : (u : Bool) → leb (length s) from ≡ u → [] ≡ between s (from_to from to)
    by true p = rw (drop_of_length-le s {i = from} (leb-true (length s) from p)) (sym (take-nil (to - from)))
    by false p = let z : to - from ≡ 0 = omega (arith, e, leb-false (length s) from p) in rw z

pub some_part : (s : List ℕ) (from to end : ℕ) → end ≡ min to (length s) → from ≤ end → take (end - from) (drop from s) ≡ between s (from_to from to)
some_part s from to end e h = by (leb to (length s)) refl
  where
    by : (u : Bool) → leb to (length s) ≡ u → take (end - from) (drop from s) ≡ between s (from_to from to)
    by true p = let z : end ≡ to = omega (arith, e, leb-true to (length s) p) in ap (λ (n : ℕ). take (n - from) (drop from s)) z
    by false p =
        let q = leb-false to (length s) p in
        take_all (end - from) (drop from s) (simp length-drop (omega (arith, e)))
        ∙ sym (take_all (to - from) (drop from s) (simp length-drop (omega (arith, e))))

-- where it lies: at its first place, or at the beginning
pub no_place : (s : List ℕ) (from to end : ℕ) → end ≡ min to (length s) → end < from → (p : ℕ × ℕ) → behind p 0 ≡ behind p (part_place s (from_to from to))
no_place s from to end e h p = ap (behind p) (sym (ap (λ (b : Bool). pick b 0 from) (lt-ltb (min to (length s)) from (omega (arith, e, h)))))

pub some_place : (s : List ℕ) (from to end : ℕ) → end ≡ min to (length s) → from ≤ end → (p : ℕ × ℕ) → behind p from ≡ behind p (part_place s (from_to from to))
some_place s from to end e h p = ap (behind p) (sym (ap (λ (b : Bool). pick b 0 from) (le-ltb (min to (length s)) from (omega (arith, e, h)))))

-- from a place on; past the end nothing is left
pub part_from : (s : List ℕ) (at from : ℕ) → from ≡ min at (length s) → take (length s - from) (drop from s) ≡ drop at s
part_from s at from e = take_all (length s - from) (drop from s) (simp length-drop (omega arith)) ∙ by (ltb (length s) at) refl
  where
    by : (b : Bool) → ltb (length s) at ≡ b → drop from s ≡ drop at s
    by false p = let x : from ≡ at = omega (arith, e, ltb-false (length s) at p) in ap (λ (i : ℕ). drop i s) x
    by true p =
        let h = ltb-true (length s) at p in
        drop_of_length-le s {i = from} (omega (arith, e)) ∙ sym (drop_of_length-le s {i = at} (omega arith))

-- as many as are asked for, or all
pub take_least : (t : List ℕ) (n k : ℕ) → k ≡ min n (length t) → take k t ≡ take n t
take_least t n k e = by (ltb (length t) n) refl
  where
    by : (b : Bool) → ltb (length t) n ≡ b → take k t ≡ take n t
    by false p = let x : k ≡ n = omega (arith, e, ltb-false (length t) n p) in ap (λ (i : ℕ). take i t) x
    by true p = let h = ltb-true (length t) n p in take_all k t (omega (arith, e)) ∙ sym (take_all n t (omega arith))

-- parts that are the same begin and end alike
pub begins_alike : {p q : Span} → p ≡ q → p.from ≡ q.from
begins_alike e = ap (λ (p : Span). p.from) e

pub ends_alike : {p q : Span} → p ≡ q → p.to ≡ q.to
ends_alike e = ap (λ (p : Span). p.to) e
