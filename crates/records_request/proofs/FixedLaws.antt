-- The numbers that stand in every body, both ways, and how a reading goes on behind a part that is there.
use mathlib.Core.Path.{◌≡◌, subst, ◌∙◌}
use mathlib.Core.List.{List, ◌++◌, append_assoc}
use Prim.Native.Nat.{ℕ, ◌+◌, ◌^◌, ◌≤◌, ◌<◌}
use native.Mathlib.Omega.{arith}
use borrow.Author.Tests.{ltb-false, le-ltb}
use lib.Dec.{ltb}
use lib.ListN.{length, drop}
use Rattle.std.specs.Prelude.{Some}
use Rattle.std.proofs.lemmas.Option.{option_and_then_some}
use Rattle.basis.specs.Basis.{from_to, between, IsBytes}
use Rattle.basis.proofs.Pairs.{some_pair}
use Rattle.basis.proofs.Parts.{past, lies, on}
use Rattle.records.specs.Records.{little, counted}
use Rattle.records.specs.Reading.{little_at}
use Rattle.records.proofs.Littles.{little_length}
use Rattle.records.proofs.Runs.{ends_inside, number_written, IsNumber, number_read}
use Rattle.records.proofs.Ways.{passed}
use Rattle.records_request.specs.Reading.{numbers_of, fixed_at}
use Rattle.records_request.specs.declared.Numbers.{Numbers}

-- a place inside, with t behind it
pub record Behind (s t : List ℕ) (at : ℕ) : Type 0 where
  pub inside : at ≤ length s
  pub there : drop at s ≡ t

pub behind_part : (s x t : List ℕ) (at : ℕ) → Behind s (x ++ t) at → Behind s t (at + length x)
behind_part s x t at w = record { inside = ends_inside s x t at w.inside w.there; there = past s x t at w.there }

pub behind_number : (s t : List ℕ) (k n at : ℕ) → Behind s (little k n ++ t) at → Behind s t (at + k)
behind_number s t k n at w = rw (little_length k n) at (behind_part s (little k n) t at w)

pub behind_text : (s x t : List ℕ) (at : ℕ) → Behind s (counted 2 x ++ t) at → (Behind s t (at + 2 + length x)) × (between s (from_to (at + 2) (at + 2 + length x)) ≡ x)
unfolding counted
behind_text s x t at w =
    let f : Behind s (little 2 (length x) ++ (x ++ t)) at = record { inside = w.inside; there = w.there ∙ append_assoc (little 2 (length x)) x t } in
    let g = behind_number s (x ++ t) 2 (length x) at f in
    (behind_part s x t (at + 2) g, lies s x t (at + 2) g.there)

pub fixed_written : (s t : List ℕ) (now size skew flags : ℕ) → now < 2 ^ 64 → size < 2 ^ 64 → skew ≤ 300 → flags < 32
    → Behind s (little 8 now ++ (little 8 size ++ (little 2 skew ++ (little 1 flags ++ t)))) 0
    → (fixed_at s ≡ Some (numbers_of now size skew flags, 19)) × Behind s t 19
unfolding fixed_at
fixed_written s t now size skew flags gn gz gk gf w =
    let t3 = little 1 flags ++ t in
    let t2 = little 2 skew ++ t3 in
    let t1 = little 8 size ++ t2 in
    let w1 : Behind s t1 8 = behind_number s t1 8 now 0 w in
    let w2 : Behind s t2 16 = behind_number s t2 8 size 8 w1 in
    let w3 : Behind s t3 18 = behind_number s t3 2 skew 16 w2 in
    let w4 : Behind s t 19 = behind_number s t 1 flags 18 w3 in (
      rw (
        number_written s t1 0 8 now (omega arith) gn w.inside w.there,
        number_written s t2 8 8 size (omega arith) gz w1.inside w1.there,
        number_written s t3 16 2 skew (omega arith) (omega arith) w2.inside w2.there,
        number_written s t 18 1 flags (omega arith) (omega arith) w3.inside w3.there,
        le-ltb 300 skew gk,
        le-ltb 31 flags (omega arith),
      ),
      w4,
    )

-- the numbers that were read
pub record IsFixed (s : List ℕ) (numbers : Numbers) (next : ℕ) : Type 0 where
  pub small_now : numbers.now < 2 ^ 64
  pub small_size : numbers.size < 2 ^ 64
  pub small_skew : numbers.skew ≤ 300
  pub small_flags : numbers.flags < 32
  pub there : drop 0 s ≡ little 8 numbers.now ++ (little 8 numbers.size ++ (little 2 numbers.skew ++ (little 1 numbers.flags ++ drop next s)))

pub fixed_read : (s : List ℕ) → IsBytes s → {numbers : Numbers} {next : ℕ} → fixed_at s ≡ Some (numbers, next) → IsFixed s numbers next
unfolding fixed_at
fixed_read s b {numbers} {next} e =
    option_and_then_some _ (little_at s 0 8) (numbers, next) e (λ n was_n e.
    option_and_then_some _ (little_at s n.1 8) (numbers, next) e (λ z was_z e.
    option_and_then_some _ (little_at s z.1 2) (numbers, next) e (λ k was_k e.
    option_and_then_some _ (little_at s k.1 1) (numbers, next) e (λ f was_f e.
    let p = passed (ltb 300 k.0) e in
    let q = passed (ltb 31 f.0) p.1 in
    let o = some_pair q.1 in
    subst (λ (v : Numbers). IsFixed s v next) o.0
    (read (number_read s b 0 8 was_n) (number_read s b n.1 8 was_z) (number_read s b z.1 2 was_k) (number_read s b k.1 1 was_f) (ltb-false 300 k.0 p.0)
    (ltb-false 31 f.0 q.0) o.1)))))
  where
    read : {n p z q k r f m : ℕ} → IsNumber s 0 8 n p → IsNumber s p 8 z q → IsNumber s q 2 k r → IsNumber s r 1 f m → k ≤ 300 → f ≤ 31 → m ≡ next
        → IsFixed s (numbers_of n z k f) next
    read {n} {p} {z} {q} {k} {r} {f} {m} wn wz wk wf sk sf e =
        record {
          small_now = wn.small;
          small_size = wz.small;
          small_skew = sk;
          small_flags = omega arith;
          there = rw (← e) (on (little 8 n) wn.there (on (little 8 z) wz.there (on (little 2 k) wk.there wf.there)));
        }
