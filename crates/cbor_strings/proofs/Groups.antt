-- All characters of a text pass where all do of its groups, one after the other, and of what is left behind them.
use Rattle.std.proofs.Common.{◌≡◌, refl, sym, ap, ◌∙◌, ℕ, zero, suc, ◌+◌, ◌*◌, Bool, ◌&&◌, List, drop, take, take-append-drop, zero-mul, arith}
use Rattle.std.specs.List.{list_all}
use Rattle.std.specs.Simd.{first_chunks}
use Rattle.std.proofs.lemmas.List.{drop-drop}
use Rattle.std.proofs.lemmas.List.Folds.{list_all-append}

and_parts : (x y z : Bool) → (x && (y && z)) ≡ ((x && y) && z)
and_parts x y z = grind arith

pub all_parts : (p : ℕ → Bool) (n count : ℕ) (s : List ℕ)
    → list_all p s ≡ (list_all (λ g. list_all p g) (first_chunks n count s) && list_all p (drop (count * n) s))
all_parts p n zero s = rw zero-mul refl
all_parts p n (suc count) s =
    let front = ap (list_all p) (sym (take-append-drop n s)) ∙ list_all-append p (take n s) (drop n s) in
    let rest = rw drop-drop at (all_parts p n count (drop n s)) in
    let i : suc count * n ≡ n + count * n = omega arith in
    rw i (front ∙ ap (λ b. list_all p (take n s) && b) rest ∙ and_parts (list_all p (take n s)) _ _)
