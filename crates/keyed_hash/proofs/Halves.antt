-- The tree: any height that is enough gives the same tree, its left subtree is the largest that document 01 names, and what
-- the recursion hands on.
use mathlib.Core.Path.{◌≡◌, refl, sym, ap, ap₂, ◌∙◌}
use mathlib.Core.Bool.{Bool, true, false}
use mathlib.Core.List.{List}
use Prim.Native.Nat.{ℕ, zero, suc, ◌+◌, ◌-◌, ◌*◌, ◌^◌, ◌≤◌, ◌<◌}
use native.Mathlib.Nat.{pow-suc, sub-zero}
use native.Mathlib.Omega.{arith}
use borrow.Author.Tests.{le-leb, lt-leb, leb-true, leb-false}
use lib.Dec.{leb}
use lib.Pow.{pow_mono}
use lib.ListN.{length, take, drop, length-drop}
use lib.Seq.{take_all}
use Rattle.hash_chunks.specs.Chunks.{chunk_of, parent_of}
use Rattle.keyed_hash.specs.Tree.{full_of, tree_of}
use Rattle.keyed_hash.specs.Fits.{Fit}

module _ (key s : List ℕ) (counter root : ℕ) where
  -- a taller tree than is needed is the same tree
  taller : (h n : ℕ) → h ≤ n → length s ≤ full_of h → tree_of key n s counter root ≡ tree_of key h s counter root
  unfolding tree_of
  taller h zero l g = let e : h ≡ 0 = omega arith in rw e
  taller h (suc n) l g = by (leb h n) refl (λ k. taller h n k g)
    where
      by : (b : Bool) → leb h n ≡ b → (h ≤ n → tree_of key n s counter root ≡ tree_of key h s counter root)
          → tree_of key (suc n) s counter root ≡ tree_of key h s counter root
      by true e more =
          let k = leb-true h n e in
          let m = pow_mono k in
          rw (le-leb (length s) (full_of n) (omega arith)) (more k)
      by false e more = let k = leb-false h n e in let z : h ≡ suc n = omega arith in rw z

  pub any_height : (h n : ℕ) → length s ≤ full_of h → length s ≤ full_of n → tree_of key h s counter root ≡ tree_of key n s counter root
  any_height h n g f = by (leb h n) refl
    where
      by : (b : Bool) → leb h n ≡ b → tree_of key h s counter root ≡ tree_of key n s counter root
      by true e = sym (taller h n (leb-true h n e) g)
      by false e = let k = leb-false h n e in taller n h (omega arith) f

  pub one_chunk : (h : ℕ) → length s ≤ 1024 → chunk_of key s counter root ≡ tree_of key h s counter root
  unfolding tree_of
  one_chunk h g = sym (taller 0 h (omega arith) g)

  abbrev two : ℕ → List ℕ
  two k = parent_of key (tree_of key k (take (full_of k) s) counter 0) (tree_of key k (drop (full_of k) s) (counter + 2 ^ k) 0) root

  split : (k : ℕ) → full_of k < length s → tree_of key (suc k) s counter root ≡ two k
  unfolding tree_of
  split k g = rw (lt-leb (length s) (full_of k) g)

  -- 01: "the left subtree takes the largest power of two of chunks that leaves at least one byte to the right"
  pub left_is_largest : (h k : ℕ) → length s ≤ full_of h → full_of k < length s → length s ≤ full_of (suc k)
      → tree_of key h s counter root ≡ two k
  left_is_largest h k g f e = any_height h (suc k) g e ∙ split k f

double : (h : ℕ) → (h ≡ 0 → ⊥) → 2 ^ h ≡ 2 ^ (h - 1) * 2
double zero z = elim (z refl) [ ]
double (suc h) z = let e : suc h - 1 ≡ h = omega arith in rw (e, pow-suc)

split_at : (key s : List ℕ) (counter root h : ℕ) → (h ≡ 0 → ⊥) → full_of (h - 1) < length s
    → two key s counter root (h - 1) ≡ tree_of key h s counter root
split_at key s counter root zero z g = elim (z refl) [ ]
split_at key s counter root (suc h) z g =
    let e : suc h - 1 ≡ h = omega arith in
    rw e (sym (split key s counter root h (rw e at g)))

-- what the recursion hands on, where there is more than one chunk: c is half as many chunks as the tree may have
module _ (h n counter root c : ℕ) (f : Fit h n counter root) (g : 1024 < n) (e : c ≡ 2 ^ (h - 1)) where
  pub not_flat : h ≡ 0 → ⊥
  not_flat z = let b : n ≤ 1024 = rw z at f.bytes in omega arith

  pub fit_left : (m root' : ℕ) → m ≤ c * 1024 → root' ≤ 8 → Fit (h - 1) m counter root'
  fit_left m root' l r =
      let d = double h not_flat in
      record { low = omega (arith, f.low); bytes = omega arith; number = omega (arith, f.number); flag = r }

  pub fit_right : (m : ℕ) → m ≤ n - c * 1024 → Fit (h - 1) m (counter + c) 0
  fit_right m l =
      let d = double h not_flat in
      record { low = omega (arith, f.low); bytes = omega (arith, f.bytes); number = omega (arith, f.number); flag = omega arith }

module _ (key s : List ℕ) (counter root h c : ℕ) (f : Fit h (length s) counter root) (g : 1024 < length s) (e : c ≡ 2 ^ (h - 1)) where
  pub whole : {r : List ℕ} → length s ≤ c * 1024 → r ≡ tree_of key (h - 1) s counter root → r ≡ tree_of key h s counter root
  whole l q = q ∙ any_height key s counter root (h - 1) h (omega arith) (omega (arith, f.bytes))

  pub halves : (n : ℕ) {front back left right r : List ℕ} → n ≡ length s → c * 1024 < n → front ≡ take (c * 1024 - 0) s
      → back ≡ take (n - c * 1024) (drop (c * 1024) s) → left ≡ tree_of key (h - 1) front counter 0
      → right ≡ tree_of key (h - 1) back (counter + c) 0 → r ≡ parent_of key left right root → r ≡ tree_of key h s counter root
  halves n {front} {back} {left} {right} en l a b x y z =
      let m : c * 1024 ≡ full_of (h - 1) = omega arith in
      let first : front ≡ take (full_of (h - 1)) s = rw (sub-zero, m) at a in
      let others : back ≡ drop (full_of (h - 1)) s =
      b ∙ take_all (n - c * 1024) (drop (c * 1024) s) (simp length-drop (omega arith)) ∙ ap (λ (i : ℕ). drop i s) m in
      z ∙ ap₂ (λ (u v : List ℕ). parent_of key u v root) (rw first at x) (rw (others, e) at y)
      ∙ split_at key s counter root h (not_flat h (length s) counter root c f g e) (omega arith)
