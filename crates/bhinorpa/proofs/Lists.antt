-- A run of numbers up to 6 is on a list: one computed test, and what it says at each of them.
use mathlib.Core.Path.{◌≡◌}
use mathlib.Core.Bool.{Bool, true}
use Prim.Native.Nat.{ℕ, ◌≤◌}
use native.Mathlib.Omega.{arith}
use borrow.Author.Tests.{le-ltb}
use lib.Dec.{ltb}
use Rattle.basis.specs.Basis.{pick}
use Rattle.basis.proofs.All.{all, all_at}

pub listed : (on : ℕ → Bool) (low : ℕ) → all 7 (λ n. pick (ltb n low) true (on n)) ≡ true → (n : ℕ) → low ≤ n → n ≤ 6 → on n ≡ true
listed on low e n l h = rw (le-ltb n low l) at (all_at 7 (λ n. pick (ltb n low) true (on n)) e n (omega arith))
