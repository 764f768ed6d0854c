-- One answer: what a promise leaves open, which is nothing. `told` serves every promise of the form r ≡ definition.
use mathlib.Core.Path.{◌≡◌, sym, ◌∙◌}
use mathlib.Core.List.{List, ◌++◌}
use Prim.Native.Nat.{ℕ, min}
use lib.ListN.{length, take, drop}
use Rattle.std.specs.Prelude.{Option}
use Rattle.basis.specs.declared.Span.{Span}
use Rattle.basis.specs.Basis.{between, behind, part_place, Written}

pub told : {A : Type 0} {x r s : A} → r ≡ x → s ≡ x → r ≡ s
told p q = p ∙ sym q

pub copy_one_answer : (from to : List ℕ) {r s : ℕ} {x y : List ℕ} → (r ≡ min (length from) (length to)) × (x ≡ take r from ++ drop r to)
    → (s ≡ min (length from) (length to)) × (y ≡ take s from ++ drop s to) → (r ≡ s) × (x ≡ y)
copy_one_answer from to p q = let e = told p.0 q.0 in (e, p.1 ∙ sym (rw e q.1))

pub put_one_answer : (text entry : List ℕ) {r s : Option ℕ} {x y : List ℕ} → Written text entry r x → Written text entry s y
    → (r ≡ s) × (x ≡ y)
put_one_answer text entry p q = (told p.counted q.counted, told p.content q.content)

-- a part that is handed back is told by its bytes and by its place
pub lent : {x r q : List ℕ} {p a b : ℕ × ℕ} → (r ≡ x) × (a ≡ p) → (q ≡ x) × (b ≡ p) → (r ≡ q) × (a ≡ b)
lent x y = (told x.0 y.0, told x.1 y.1)

pub lend_one_answer : (s : List ℕ) (part : Span) (place : ℕ × ℕ) {r q : List ℕ} {a b : ℕ × ℕ} → (r ≡ between s part) × (a ≡ behind place (part_place s part))
    → (q ≡ between s part) × (b ≡ behind place (part_place s part)) → (r ≡ q) × (a ≡ b)
lend_one_answer s part place x y = lent x y
