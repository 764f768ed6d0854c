-- A round in place: its mixed columns and diagonals are the paper's, in whatever order they are mixed. One round on from a state and message
-- words, what is left to do is the same.
use Rattle.std.proofs.Common.{◌≡◌, ℕ, suc, List, length, slice_index, refl, ap₂}
use Rattle.basis.specs.Basis.{tab}
use Rattle.basis.specs.Tabs.{tab_all}
use Rattle.hash_mixing.specs.Compression.{columns_of, diagonals_of, as_columns, as_diagonals, round_of, moved_of, rounds_of}
use Rattle.hash_mixing.specs.Order.{mixed_of, picked_of}

-- the state v with the words a, b, c, d mixed, with the words that the order o has at i and j
abbrev mixed_at : (m o v : List ℕ) → ℕ → ℕ → ℕ → ℕ → ℕ → ℕ → List ℕ
mixed_at m o v a b c d i j = mixed_of v a b c d (slice_index m (slice_index o i)) (slice_index m (slice_index o j))

module _ (m o v : List ℕ) (size : length v ≡ 16) where
  pub columns : {r s t w : List ℕ} → r ≡ mixed_at m o v 3 7 11 15 6 7 → s ≡ mixed_at m o r 1 5 9 13 2 3 → t ≡ mixed_at m o s 0 4 8 12 0 1
      → w ≡ mixed_at m o t 2 6 10 14 4 5 → w ≡ columns_of v (picked_of m o)
  unfolding mixed_of columns_of as_columns picked_of tab
  columns e f g h = rw (h, g, f, e, ← tab_all 16 v size) refl

  pub diagonals : {r s t w : List ℕ} → r ≡ mixed_at m o v 2 7 8 13 12 13 → s ≡ mixed_at m o r 3 4 9 14 14 15 → t ≡ mixed_at m o s 1 6 11 12 10 11
      → w ≡ mixed_at m o t 0 5 10 15 8 9 → w ≡ diagonals_of v (picked_of m o)
  unfolding mixed_of diagonals_of as_diagonals picked_of tab
  diagonals e f g h = rw (h, g, f, e, ← tab_all 16 v size) refl

  pub mixed_round : {c w : List ℕ} → c ≡ columns_of v (picked_of m o) → w ≡ diagonals_of c (picked_of m o) → w ≡ round_of v (picked_of m o)
  unfolding round_of
  mixed_round e f = rw e at f

pub one_round : (v m : List ℕ) {w m' : List ℕ} (k : ℕ) → w ≡ round_of v m → m' ≡ moved_of m → rounds_of k w m' ≡ rounds_of (suc k) v m
unfolding rounds_of
one_round v m k p e = ap₂ (rounds_of k) p e

pub last_round : (v m : List ℕ) {w : List ℕ} → w ≡ round_of v m → w ≡ rounds_of 1 v m
unfolding rounds_of
last_round v m p = p
