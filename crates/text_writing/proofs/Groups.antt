-- A text that is made group by group, each of n becoming m, and its writing so: what the loops of both directions keep.
use Rattle.std.proofs.Common.{◌≡◌, sym, ap, ◌∙◌, ℕ, zero, suc, ◌+◌, ◌-◌, ◌*◌, ◌%◌, ◌≤◌, ◌<◌, List, [], ◌++◌, arith, length, take, drop, get_or, length-append, take-append-drop, zero-mul}
use Rattle.std.proofs.lemmas.List.{drop-drop, length-take-le}
use Rattle.std.proofs.Math.Nat.{mul-mod_left}
use Rattle.std.proofs.Math.Seq.{take-add}
use Rattle.std.specs.Simd.{first_chunks}
use borrow.Rule.Slice.PartMut.{put_mid}
use Rattle.basis.specs.Basis.{over}
use Rattle.basis.proofs.Rooms.{lent_over}

-- the k-th of so many groups
pub group_at : (n count k : ℕ) (s d : List ℕ) → k < count → get_or (first_chunks n count s) k d ≡ take n (drop (k * n) s)
group_at n zero k s d h = absurd (omega arith)
group_at n (suc count) zero s d h = rw zero-mul
group_at n (suc count) (suc k) s d h =
    let e : n + k * n ≡ suc k * n = omega arith in
    group_at n count k (drop n s) d (omega arith) ∙ ap (take n) (drop-drop (k * n) n s ∙ ap (λ i. drop i s) e)

pub record Grouped (text : List ℕ → List ℕ) (n m : ℕ) : Type 0 where
  pub whole : (k : ℕ) (s : List ℕ) → length s ≡ k * n → length (text s) ≡ k * m
  pub append : (s t : List ℕ) → length s % n ≡ 0 → text (s ++ t) ≡ text s ++ text t

module _ {text : List ℕ → List ℕ} {n m : ℕ} (g : Grouped text n m) (s : List ℕ) (k : ℕ) (h : k * n ≤ length s) where
  cut : (t : List ℕ) → text (take (k * n) s ++ t) ≡ text (take (k * n) s) ++ text t
  cut t = g.append (take (k * n) s) t (rw (length-take-le (k * n) s h) (mul-mod_left k n))

  front_le : length (text (take (k * n) s)) ≤ length (text s)
  front_le =
      let e = ap text (sym (take-append-drop (k * n) s)) ∙ cut (drop (k * n) s) in
      rw (e, length-append) (omega arith)

  -- behind the texts of k groups, that of t is written
  behind : (entry room p t : List ℕ) → length (text (take (k * n) s ++ t)) ≤ length entry → length room ≡ length entry
      → room ≡ over (text (take (k * n) s)) entry → p ≡ over (text t) (take (length room - k * m) (drop (k * m) room))
      → put_mid (k * m) (length room - k * m) room p ≡ over (text (take (k * n) s ++ t)) entry
  behind entry room p t f l o e =
      let u = take (k * n) s in
      let a = sym (g.whole k u (length-take-le (k * n) s h)) in
      lent_over (text u) (text t) entry room p (k * m) a (rw (cut t, length-append) at f) o l e ∙ ap (λ w. over w entry) (sym (cut t))

module _ {text : List ℕ → List ℕ} {n m : ℕ} (g : Grouped text n m) (s entry : List ℕ) {room : List ℕ} {k : ℕ} (enough : length (text s) ≤ length entry)
    (long : length room ≡ length entry) (front : room ≡ over (text (take (k * n) s)) entry) where
  pub one_more : {p : List ℕ} (count : ℕ) → k < count → (k + 1) * n ≤ length s
      → p ≡ over (text (get_or (first_chunks n count s) k [])) (take (length room - k * m) (drop (k * m) room))
      → put_mid (k * m) (length room - k * m) room p ≡ over (text (take ((k + 1) * n) s)) entry
  one_more {p} count h c e =
      let t = take n (drop (k * n) s) in
      let q : take (k * n) s ++ t ≡ take ((k + 1) * n) s = sym (take-add (k * n) n s) ∙ ap (λ i. take i s) (omega arith) in
      let f = front_le g s (k + 1) c in
      rw q at (behind g s k (omega arith) entry room p t (rw q (omega arith)) long front (rw (group_at n count k s [] h) at e))

  pub rest_too : {p : List ℕ} (count : ℕ) → k ≡ count → count * n ≤ length s
      → p ≡ over (text (drop (count * n) s)) (take (length room - count * m) (drop (count * m) room))
      → put_mid (count * m) (length room - count * m) room p ≡ over (text s) entry
  rest_too {p} count q h e =
      let all = take-append-drop (count * n) s in
      rw all at (behind g s count h entry room p (drop (count * n) s) (rw all enough) long (rw q at front) e)
