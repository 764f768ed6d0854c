-- Tags compared to the end: what is known of the bytes so far, whether or not one differed.
use mathlib.Core.Path.{◌≡◌, subst, sym}
use mathlib.Core.Bool.{Bool, true, false}
use mathlib.Core.List.{List}
use mathlib.Core.Logic.{◌⊎◌, inl, inr}
use Prim.Native.Nat.{ℕ, ◌+◌, ◌≤◌, ◌<◌}
use native.Mathlib.Omega.{arith}
use lib.ListN.{length, get_or}
use Rattle.basis.specs.Same.{same_of}
use Rattle.basis.proofs.Sameness.{Alike, other_length, alike_none, alike_all, differ, alike_one}

abbrev State : List ℕ → List ℕ → ℕ → Bool → Type 0
State x y i true = Alike x y i
State x y i false = false ≡ same_of x y

pub record Compared (x y : List ℕ) (i : ℕ) (same : Bool) : Type 0 where
  pub long : length x ≡ 32
  pub alike_long : length y ≡ 32
  pub inside : i ≤ 32
  pub state : State x y i same

pub compared_none : (x y : List ℕ) → length x ≡ 32 → length y ≡ 32 → Compared x y 0 true
compared_none x y l m = record { long = l; alike_long = m; inside = omega arith; state = alike_none x y (omega arith) }

differed : (x y : List ℕ) (i : ℕ) (b : Bool) → State x y i b → i < length x → (get_or x i 0 ≡ get_or y i 0 → ⊥) → false ≡ same_of x y
differed x y i true s h d = differ x y i s h d
differed x y i false s h d = s

went_on : (x y : List ℕ) (i : ℕ) (b : Bool) → State x y i b → i < length x → get_or x i 0 ≡ get_or y i 0 → State x y (i + 1) b
went_on x y i true s h e = alike_one x y i s h e
went_on x y i false s h e = s

pub compared_one : (x y : List ℕ) (i : ℕ) (b c : Bool) → Compared x y i b → i < 32
    → ((get_or x i 0 ≡ get_or y i 0 → ⊥) × (c ≡ false)) ⊎ ((get_or x i 0 ≡ get_or y i 0) × (c ≡ b)) → Compared x y (i + 1) c
compared_one x y i b c w h (inl d) =
    let l = w.long in
    record { long = l; alike_long = w.alike_long; inside = omega arith; state = subst (State x y (i + 1)) (sym d.1) (differed x y i b w.state (omega arith) d.0) }
compared_one x y i b c w h (inr d) =
    let l = w.long in
    record { long = l; alike_long = w.alike_long; inside = omega arith; state = subst (State x y (i + 1)) (sym d.1) (went_on x y i b w.state (omega arith) d.0) }

ended : (x y : List ℕ) (i : ℕ) (b : Bool) → State x y i b → length x ≤ i → b ≡ same_of x y
ended x y i true s h = alike_all x y i s h
ended x y i false s h = s

pub compared_all : (x y : List ℕ) (i : ℕ) (b : Bool) → Compared x y i b → 32 ≤ i → b ≡ same_of x y
compared_all x y i b w h = let l = w.long in ended x y i b w.state (omega arith)

pub other_size : (x y : List ℕ) → length x ≡ 32 → (length y ≡ 32 → ⊥) → false ≡ same_of x y
other_size x y l d = other_length x y (λ e. d (omega (arith, l, e)))
