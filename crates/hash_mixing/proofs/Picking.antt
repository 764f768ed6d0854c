-- The word that a round takes at a place is the block's word at `order_of`: computed once, for all rounds and places. So what a round
-- picks from the block are the words that have moved to it.
use Rattle.std.proofs.Common.{◌≡◌, ℕ, zero, suc, ◌+◌, ◌*◌, ◌/◌, ◌%◌, ◌<◌, List, length, get_or, sym, refl, ap, ◌∙◌, arith}
use Rattle.basis.specs.Basis.{tab}
use Rattle.basis.specs.Tabs.{tab_all}
use Rattle.hash_mixing.specs.Compression.{moved_of}
use Rattle.hash_mixing.specs.Order.{order, order_of, picked_of}
use Rattle.hash_mixing.proofs.Within.{tab_at, tab_within}

-- the words after r rounds
pub moved_by : ℕ → List ℕ → List ℕ
moved_by zero m = m
moved_by (suc r) m = moved_of (moved_by r m)

all_taken : (m : List ℕ)
    → tab 112 (λ k. get_or (moved_by (k / 16) m) (k % 16) 0) ≡ tab 112 (λ k. get_or m (order_of (k / 16) (k % 16)) 0)
unfolding tab moved_by moved_of order_of
all_taken m = refl

pub taken : (m : List ℕ) (r i : ℕ) → r < 7 → i < 16 → get_or (moved_by r m) i 0 ≡ get_or m (order_of r i) 0
taken m r i h g =
    let k = r * 16 + i in
    let inside : k < 112 = omega arith in
    let round : k / 16 ≡ r = omega arith in
    let place : k % 16 ≡ i = omega arith in
    rw (round, place) at (sym (tab_at 112 _ k inside) ∙ ap (λ (l : List ℕ). get_or l k 0) (all_taken m) ∙ tab_at 112 _ k inside)

module _ (m : List ℕ) (size : length m ≡ 16) where
  moved_size : (r : ℕ) → length (moved_by r m) ≡ 16
  unfolding moved_by moved_of
  moved_size zero = size
  moved_size (suc r) = refl

  picked : (r : ℕ) → r < 7 → picked_of m (order r) ≡ moved_by r m
  unfolding picked_of order_of
  picked r h = tab_within 16 (λ i g. sym (taken m r i h g)) ∙ tab_all 16 (moved_by r m) (moved_size r)

  pub first_picked : picked_of m (order 0) ≡ m
  unfolding moved_by
  first_picked = picked 0 (omega arith)

  pub next_picked : (r : ℕ) → suc r < 7 → picked_of m (order (suc r)) ≡ moved_of (picked_of m (order r))
  unfolding moved_by
  next_picked r h = picked (suc r) h ∙ ap moved_of (sym (picked r (omega arith)))
