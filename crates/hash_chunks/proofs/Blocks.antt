-- Blocks of a message that lies in two parts: cutting it, padding its end, and what a turn of the run's loop keeps.
use mathlib.Core.Path.{◌≡◌, refl, sym, ap, ap₂, ◌∙◌}
use mathlib.Core.Bool.{Bool, true, false}
use mathlib.Core.List.{List, [], ◌∷◌, ◌++◌, append-nil}
use Prim.Native.Nat.{ℕ, zero, suc, ◌+◌, ◌-◌, ◌*◌, ◌/◌, ◌%◌, ◌≤◌, ◌<◌, min, max}
use native.Mathlib.Omega.{arith}
use borrow.Author.Tests.{le-leb, lt-leb, le-ltb, lt-ltb, eq-eqb, ne_eqb, leb-true, leb-false, ltb-true, ltb-false}
use lib.Dec.{eqb, leb, ltb}
use lib.ListN.{length, take, drop, get_or, replicate, length-drop}
use lib.Seq.{take-append-le, drop-append-le, take-append-add, drop-append-add, take_all, drop-drop, get_or-drop, drop-length, take-length}
use borrow.Rule.Slice.PartMut.{put_mid}
use Rattle.basis.specs.Basis.{pick, over}
use Rattle.basis.specs.Tabs.{tab_same}
use Rattle.basis.proofs.Rooms.{lent_over}
use Rattle.hash_mixing.specs.Compression.{compress_of}
use Rattle.hash_chunks.specs.Chunks.{words_of, keyed, parent_flag, last_of, blocks_of, parent_of}

-- zeros behind a message change none of its words
zero_at : (n i : ℕ) → ◌≡◌ {A = ℕ} (get_or (replicate n 0) i 0) 0
zero_at zero i = refl
zero_at (suc n) zero = refl
zero_at (suc n) (suc i) = zero_at n i

padded_at : (s z : List ℕ) → ((i : ℕ) → ◌≡◌ {A = ℕ} (get_or z i 0) 0) → (i : ℕ) → get_or (s ++ z) i 0 ≡ get_or s i 0
padded_at [] z h i = h i
padded_at (x ∷ s) z h zero = refl
padded_at (x ∷ s) z h (suc i) = padded_at s z h i

padded : (n : ℕ) (s : List ℕ) (k m : ℕ) → words_of n (s ++ drop k (replicate m 0)) ≡ words_of n s
padded n s k m =
    let same = padded_at s (drop k (replicate m 0)) (λ j. get_or-drop k (replicate m 0) j 0 ∙ zero_at m (k + j)) in
    tab_same n (λ i. rw (same (i * 4), same (i * 4 + 1), same (i * 4 + 2), same (i * 4 + 3)))

-- head and body laid behind each other into 64 zeros
pub laid : (head body x p : List ℕ) (n : ℕ) → length head + length body ≤ 64 → n ≡ length head → length x ≡ 64
    → x ≡ take (length head) head ++ drop (length head) (replicate 64 0)
    → p ≡ take (length body) body ++ drop (length body) (take (64 - n) (drop n x))
    → words_of 16 (put_mid n (64 - n) x p) ≡ words_of 16 (head ++ body)
laid head body x p n h en lx ex ep =
    let one : x ≡ over head (replicate 64 0) = ex ∙ ap (λ (t : List ℕ). t ++ drop (length head) (replicate 64 0)) (take-length head) in
    let two : p ≡ over body (take (length x - n) (drop n x)) = rw lx (ep ∙ ap (λ (t : List ℕ). t ++ drop (length body) (take (64 - n) (drop n x))) (take-length body)) in
    ap (words_of 16) (rw lx at (lent_over head body (replicate 64 0) x p n en h one lx two)) ∙ padded 16 (head ++ body) (length (head ++ body)) 64

-- the first n elements of two parts are as many of the first as it has, then some of the second; and so what is left
cut : (n : ℕ) (x y : List ℕ)
    → (take n (x ++ y) ≡ take (min n (length x)) x ++ take (n - min n (length x)) y)
    × (drop n (x ++ y) ≡ drop (min n (length x)) x ++ drop (n - min n (length x)) y)
cut n x y = by (leb n (length x)) refl
  where
    by : (b : Bool) → leb n (length x) ≡ b
        → (take n (x ++ y) ≡ take (min n (length x)) x ++ take (n - min n (length x)) y)
        × (drop n (x ++ y) ≡ drop (min n (length x)) x ++ drop (n - min n (length x)) y)
    by true e =
        let h : n ≤ length x = leb-true n (length x) e in
        let m : min n (length x) ≡ n = omega arith in
        let z : n - n ≡ 0 = omega arith in
        (rw (m, z, take-append-le n x y h, append-nil), rw (m, z, drop-append-le n x y h))
    by false e =
        let h : length x < n = leb-false n (length x) e in
        let m : min n (length x) ≡ length x = omega arith in
        let k : n ≡ length x + (n - length x) = omega arith in (
          rw (m, take_all (length x) x (omega arith)) (ap (λ (j : ℕ). take j (x ++ y)) k ∙ take-append-add x y (n - length x)),
          rw (m, drop-length x) (ap (λ (j : ℕ). drop j (x ++ y)) k ∙ drop-append-add x y (n - length x)),
        )

-- a block more, and the last block
block_more : (k : ℕ) (h s : List ℕ) (counter start last : ℕ) → 64 < length s
    → blocks_of k (compress_of h (words_of 16 (take 64 s)) counter 64 (keyed + start)) (drop 64 s) counter 0 last ≡ blocks_of (suc k) h s counter start last
unfolding blocks_of
block_more k h s counter start last g = rw (lt-leb (length s) 64 g)

block_last : (k : ℕ) (h s : List ℕ) (counter start last : ℕ) → length s ≤ 64 → last_of h s counter start last ≡ blocks_of k h s counter start last
unfolding blocks_of
block_last zero h s counter start last g = refl
block_last (suc k) h s counter start last g = rw (le-leb (length s) 64 g)

-- where a part from a on, n long, comes to its end in the first l elements
front : (a n l : ℕ) → min n (l - min a l) ≡ min (a + n) l - min a l
front a n l = omega arith

back : (a n i e : ℕ) → i ≤ a → i ≤ e → e ≤ i + n → n - (e - i) ≡ a + n - e - (a - i)
back a n i e p q r = omega arith

grows : (a n l : ℕ) → (min a l ≤ min (a + n) l) × (min (a + n) l ≤ min a l + n) × (min a l ≤ a)
grows a n l = (omega arith, omega arith, omega arith)

-- the elements from `from` to `to`, as they lie in two parts
pub parted : (x y : List ℕ) (from to : ℕ) → from ≤ to
    → take (min to (length x) - min from (length x)) (drop (min from (length x)) x)
    ++ take (to - min to (length x) - (from - min from (length x))) (drop (from - min from (length x)) y)
    ≡ take (to - from) (drop from (x ++ y))
parted x y from to h =
    let n = to - from in
    let e : from + (to - from) ≡ to = omega arith in
    let i = min from (length x) in
    let g = grows from n (length x) in
    let f : min n (length (drop i x)) ≡ min (from + n) (length x) - i = rw length-drop (front from n (length x)) in
    let b = back from n i (min (from + n) (length x)) g.2 g.0 g.1 in
    sym (rw e at (ap (take n) (cut from x y).1 ∙ (rw (f, b) at (cut n (drop i x) (drop (from - i) y)).0)))

-- what the run's loop keeps: the first i of n blocks are compressed into h
abbrev pub run_of : ℕ → List ℕ → List ℕ → ℕ → ℕ → ℕ → ℕ → List ℕ
run_of n h s counter first last i = pick (ltb i n) (blocks_of (15 - i) h (drop (i * 64) s) counter (pick (eqb i 0) first 0) last) h

-- all of them are, or the block i is compressed next
module _ (s : List ℕ) (counter first last n : ℕ) (short : length s ≤ 1024) (en : n ≡ max (length s / 64 + min 1 (length s % 64)) 1) where
  pub run_start : (h : List ℕ) → run_of n h s counter first last 0 ≡ blocks_of 15 h s counter first last
  run_start h = let some : 0 < n = omega arith in rw (lt-ltb 0 n some) refl

  pub run_end : (h : List ℕ) (i : ℕ) → n ≤ i → run_of n h s counter first last i ≡ h
  run_end h i g = rw (le-ltb i n g) refl

  module _ (h next : List ℕ) (i e start stop : ℕ) (inside : i < n) (ee : e ≡ min (length s) (i * 64 + 64))
      (es : start ≡ pick (eqb i 0) first 0) (et : stop ≡ pick (eqb (i + 1) n) last 0)
      (p : next ≡ compress_of h (words_of 16 (take (e - i * 64) (drop (i * 64) s))) counter (e - i * 64) (keyed + start + stop)) where
    left : List ℕ
    left = drop (i * 64) s

    more : i + 1 < n → run_of n next s counter first last (i + 1) ≡ run_of n h s counter first last i
    unfolding left
    more g =
        let size : length left ≡ length s - i * 64 = length-drop (i * 64) s in
        let whole : e - i * 64 ≡ 64 = omega arith in
        let none : stop ≡ 0 = et ∙ rw (ne_eqb (i + 1) n (λ z. omega arith)) refl in
        let flags : keyed + start + 0 ≡ keyed + start = omega arith in
        let fewer : suc (15 - (i + 1)) ≡ 15 - i = omega arith in
        let next_at : i * 64 + 64 ≡ (i + 1) * 64 = omega arith in
        let state : next ≡ compress_of h (words_of 16 (take 64 left)) counter 64 (keyed + start) = rw (whole, none, flags) at p in
        rw (lt-ltb (i + 1) n g, lt-ltb i n inside, ne_eqb (i + 1) 0 (λ z. omega arith), ← es, ← fewer) (
        ap₂ (λ (x y : List ℕ). blocks_of (15 - (i + 1)) x y counter 0 last) state (sym (drop-drop 64 (i * 64) s ∙ ap (λ (j : ℕ). drop j s) next_at))
        ∙ block_more (15 - (i + 1)) h left counter start last (omega arith)
        )

    done : n ≡ i + 1 → run_of n next s counter first last (i + 1) ≡ run_of n h s counter first last i
    unfolding left
    done g =
        let size : length left ≡ length s - i * 64 = length-drop (i * 64) s in
        let all : e - i * 64 ≡ length left = omega arith in
        let end : stop ≡ last = et ∙ rw (eq-eqb (i + 1) n (sym g)) refl in
        let words : take (length left) left ≡ left = take_all (length left) left (omega arith) in
        rw (le-ltb (i + 1) n (omega arith), lt-ltb i n inside, ← es)
        ((rw (all, end, words) at p) ∙ block_last (15 - i) h left counter start last (omega arith))

    pub run_turn : run_of n next s counter first last (i + 1) ≡ run_of n h s counter first last i
    run_turn = by (ltb (i + 1) n) refl
      where
        by : (b : Bool) → ltb (i + 1) n ≡ b → run_of n next s counter first last (i + 1) ≡ run_of n h s counter first last i
        by true t = more (ltb-true _ _ t)
        by false t = let g : n ≤ i + 1 = ltb-false _ _ t in done (omega arith)

-- a parent is a run of one block, the bytes of its children
pub parent_run : (key bytes a b r : List ℕ) (root : ℕ) → length bytes ≡ 64 → words_of 16 bytes ≡ a ++ b → r ≡ blocks_of 15 key bytes 0 parent_flag root
    → r ≡ parent_of key a b root
unfolding parent_of
parent_run key bytes a b r root size words p =
    p
    ∙ sym (block_last 15 key bytes 0 parent_flag root (omega arith))
    ∙ ap₂ (λ (m : List ℕ) (n : ℕ). compress_of key m 0 n (keyed + parent_flag + root)) words size
