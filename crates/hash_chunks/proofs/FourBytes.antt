-- Four bytes of a word a turn, over any number of words: what a loop keeps that lays words down one by one. `words_laid` says it of all words
-- at once, as the code lays them.
use mathlib.Core.Path.{◌≡◌}
use mathlib.Core.List.{List}
use Prim.Native.Nat.{ℕ, ◌+◌, ◌*◌, ◌/◌, ◌%◌, ◌^◌, ◌<◌}
use native.Mathlib.Nat.{div-one}
use native.Mathlib.Omega.{arith}
use lib.ListN.{length, get_or, set}
use Rattle.basis.proofs.Tabs.{Tabbed, tab_step}

-- the byte at k: one of word k / 4, the low one first
abbrev pub rule : List ℕ → ℕ → ℕ
rule w k = get_or w (k / 4) 0 / 256 ^ (k % 4) % 256

byte_at : (w : List ℕ) (i k : ℕ) → k < 4 → get_or w i 0 / 256 ^ k % 256 ≡ rule w (i * 4 + k)
byte_at w i k h =
    let q : (i * 4 + k) / 4 ≡ i = omega arith in
    let r : (i * 4 + k) % 4 ≡ k = omega arith in
    rw (q, r)

pub four_bytes : (n : ℕ) (w entry out : List ℕ) (i : ℕ) → i < n → length entry ≡ n * 4 → Tabbed (rule w) entry out (i * 4)
    → Tabbed (rule w) entry (set (set (set (set out (i * 4) (get_or w i 0 % 256)) (i * 4 + 1) (get_or w i 0 / 256 % 256)) (i * 4 + 2) (get_or w i 0 / 65536 % 256)) (i * 4 + 3) (get_or w i 0 / 16777216 % 256)) ((i + 1) * 4)
four_bytes n w entry out i h l t =
    let x = get_or w i 0 in
    let z : i * 4 + 0 ≡ i * 4 = omega arith in
    let s0 : i * 4 + 1 + 1 ≡ i * 4 + 2 = omega arith in
    let s1 : i * 4 + 2 + 1 ≡ i * 4 + 3 = omega arith in
    let s2 : i * 4 + 3 + 1 ≡ (i + 1) * 4 = omega arith in
    let t1 = tab_step (rule w) entry out (i * 4) (x % 256) t (omega arith) (rw (div-one, z) at (byte_at w i 0 (omega arith))) in
    let t2 = rw s0 at (tab_step (rule w) entry _ (i * 4 + 1) (x / 256 % 256) t1 (omega arith) (byte_at w i 1 (omega arith))) in
    let t3 = rw s1 at (tab_step (rule w) entry _ (i * 4 + 2) (x / 65536 % 256) t2 (omega arith) (byte_at w i 2 (omega arith))) in
    rw s2 at (tab_step (rule w) entry _ (i * 4 + 3) (x / 16777216 % 256) t3 (omega arith) (byte_at w i 3 (omega arith)))
