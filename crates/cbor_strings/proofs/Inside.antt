-- Every place that a reading answers lies inside the slice, that of a defect too: what the code behind it may slice by.
use Rattle.std.specs.Prelude.{Ok, Err}
use Rattle.cbor_heads.specs.Defects.{Reading, bad, after}
use Rattle.cbor_heads.specs.declared.defect.Kind.{Kind}
use Rattle.cbor_heads.specs.declared.defect.Defect.{Defect}
use Rattle.cbor_heads.specs.declared.defect.Kind.TheVariants.{Cbor, Bounds}
use Rattle.cbor_heads.specs.Reading.{got}
use mathlib.Core.List.{List, [], ◌∷◌}
use Prim.Native.Nat.{ℕ, ◌+◌, ◌-◌, ◌/◌, ◌%◌, ◌≤◌}
use native.Mathlib.Omega.{arith}
use borrow.Author.Tests.{ltb-false}
use lib.Dec.{ltb, eqb}
use lib.ListN.{length, take, drop, length-drop}
use Rattle.basis.specs.Basis.{from_to, between}
use Rattle.basis.specs.declared.Span.{Span}
use Rattle.basis.proofs.Picks.{either, tested}
use Rattle.cbor_heads.specs.Reading.{big_of, width_of, head_by, head_at, read_head}
use Rattle.cbor_heads.specs.Counts.{count_by, read_count}
use Rattle.cbor_strings.specs.Strings.{content_of}
use Rattle.cbor_strings.specs.Reading.{run_by, read_run, content_by, read_string}
use Rattle.cbor_heads.specs.declared.Width.{Width}
use Rattle.cbor_heads.specs.declared.Width.TheVariants.{Here, Follow, Refused}
use Rattle.cbor_heads.specs.declared.Head.{Head}
use Rattle.cbor_strings.specs.declared.Class.{Class}

-- what was read is inside, or the defect's place is
abbrev pub ReadIn : {A : Type 0} → ℕ → (A → Type 0) → Reading A → Type 0
ReadIn size In (Ok found) = In found
ReadIn size In (Err d) = d.at ≤ size

abbrev pub HeadIn : ℕ → Reading Head → Type 0
HeadIn size = ReadIn size (λ h. h.next ≤ size)

abbrev pub PairIn : {A : Type 0} → ℕ → Reading (A × ℕ) → Type 0
PairIn size = ReadIn size (λ (found, next). next ≤ size)

abbrev pub ContentIn : ℕ → Reading Span → Type 0
ContentIn size = ReadIn size (λ part. (part.from ≤ size) × (part.to ≤ size))

-- P holds of the whole's answer where it holds of each defect inside, and of what follows from all that is read inside
pub step_in : {A B : Type 0} (P : Reading B → Type 0) (size : ℕ) (defect : (d : Defect) → d.at ≤ size → P (Err d)) (In : A → Type 0)
    → (rest : A → Reading B) → ((a : A) → In a → P (rest a)) → (i : Reading A) → ReadIn size In i → P (after rest i)
step_in P size defect In rest go (Err d) h = defect d h
step_in P size defect In rest go (Ok a) h = go a h

-- the ways out of each definition, for whatever is to hold of its answer
module _ (P : Reading Head → Type 0) (at major low k least : ℕ) (t : List ℕ) where
  follow_ways : P (bad Cbor at) → (k ≤ length t → P (Ok (got major (big_of (take k t)) (at + 1 + k)))) → P (head_by at major low (Follow k least) t)
  unfolding head_by
  follow_ways short good = tested P (ltb (length t) k) (λ e. short) (λ e. either P (ltb (big_of (take k t)) least) short (good (ltb-false _ _ e)))

module _ (P : Reading (ℕ × ℕ) → Type 0) (at major least most : ℕ) (above : Kind) (m n next : ℕ) where
  pub count_ways : P (bad Cbor at) → P (bad above at) → P (Ok (n, next)) → P (count_by at major least most above (got m n next))
  unfolding count_by
  count_ways form over good = either P (eqb m major) (either P (ltb n least) form (either P (ltb most n) over good)) form

module _ (P : Reading Span → Type 0) where
  pub run_ways : (size at major low high m n next : ℕ) → P (bad Cbor at) → P (bad Bounds at) → (n ≤ size - next → P (Ok (from_to next (next + n))))
      → P (run_by size at major low high (got m n next))
  unfolding run_by
  run_ways size at major low high m n next form bounds good =
      let fits = tested P (ltb (size - next) n) (λ e. form) (λ e. good (ltb-false _ _ e)) in
      either P (eqb m major) (either P (ltb n low) bounds (either P (ltb high n) bounds fits)) form

  pub content_ways : (class : Class) (s : List ℕ) (part : Span) → P (bad Cbor part.from) → P (Ok part) → P (content_by class s part)
  unfolding content_by
  content_ways class s part form good = either P (content_of class (between s part)) good form

module _ (size at : ℕ) (h : at ≤ size) where
  width_in : (major low : ℕ) (w : Width) (t : List ℕ) → at + 1 + length t ≤ size → HeadIn size (head_by at major low w t)
  unfolding head_by
  width_in major low Here t g = omega arith
  width_in major low Refused t g = h
  width_in major low (Follow k least) t g = follow_ways (HeadIn size) at major low k least t h (λ f. omega arith)

  front_in : (t : List ℕ) → at + length t ≤ size → HeadIn size (head_at at t)
  unfolding head_at
  front_in [] g = h
  front_in (b ∷ t) g = width_in (b / 32) (b % 32) (width_of (b % 32)) t (omega arith)

  count_by_lem : (major least most : ℕ) (above : Kind) (r : Reading Head) → HeadIn size r → PairIn size (after (count_by at major least most above) r)
  unfolding count_by
  count_by_lem major least most above (Err d) g = g
  count_by_lem major least most above (Ok hd) g = count_ways (PairIn size) at major least most above hd.major hd.value hd.next h h g

  run_by_lem : (major low high : ℕ) (r : Reading Head) → HeadIn size r → ContentIn size (after (run_by size at major low high) r)
  unfolding run_by
  run_by_lem major low high (Err d) g = g
  run_by_lem major low high (Ok hd) g = run_ways (ContentIn size) size at major low high hd.major hd.value hd.next h h (λ f. (g, omega arith))

content_by_lem : (size : ℕ) (class : Class) (s : List ℕ) (r : Reading Span) → ContentIn size r → ContentIn size (after (content_by class s) r)
unfolding content_by
content_by_lem size class s (Err d) g = g
content_by_lem size class s (Ok part) g = content_ways (ContentIn size) class s part g.0 g

pub head_in : (s : List ℕ) (at : ℕ) → at ≤ length s → HeadIn (length s) (read_head s at)
head_in s at h = front_in (length s) at h (drop at s) (omega (arith, length-drop at s))

pub count_in : (s : List ℕ) (at major least most : ℕ) (above : Kind) → at ≤ length s → PairIn (length s) (read_count s at major least most above)
count_in s at major least most above h = count_by_lem (length s) at h major least most above (read_head s at) (head_in s at h)

pub run_in : (s : List ℕ) (at major low high : ℕ) → at ≤ length s → ContentIn (length s) (read_run s at major low high)
run_in s at major low high h = run_by_lem (length s) at h major low high (read_head s at) (head_in s at h)

pub string_in : (s : List ℕ) (at : ℕ) (class : Class) (low high : ℕ) → at ≤ length s → ContentIn (length s) (read_string s at class low high)
string_in s at class low high h = content_by_lem (length s) class s (read_run s at 3 low high) (run_in s at 3 low high h)
