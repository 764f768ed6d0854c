-- Every place that the reading of a value answers lies inside the slice, that of a defect too; see cbor's Inside.
use Rattle.std.specs.Prelude.{Ok, Err}
use Rattle.cbor_heads.specs.Defects.{Reading, bad, after}
use Rattle.cbor_heads.specs.declared.defect.Kind.TheVariants.{Cbor, Bounds}
use Rattle.cbor_heads.specs.Reading.{got}
use mathlib.Core.List.{List}
use Prim.Native.Nat.{ℕ, zero, suc, ◌+◌, ◌-◌, ◌≤◌}
use native.Mathlib.Omega.{arith}
use borrow.Author.Tests.{ltb-false}
use lib.Dec.{ltb, leb, eqb}
use lib.ListN.{length, take, drop}
use Rattle.basis.proofs.Picks.{either, tested}
use Rattle.cbor_heads.specs.Reading.{read_head}
use Rattle.cbor_heads.specs.declared.Head.{Head}
use Rattle.cbor_strings.proofs.Inside.{ReadIn, HeadIn, head_in, step_in}
use Rattle.cbor_values.specs.Utf8.{utf8}
use Rattle.cbor_values.specs.Reading.{run_of, text_of, items_of, by_major, value_of}

abbrev pub ItemIn : ℕ → Reading ℕ → Type 0
ItemIn size = ReadIn size (λ next. next ≤ size)

-- the ways out of each definition, for whatever is to hold of its answer
module _ (P : Reading ℕ → Type 0) (s : List ℕ) (at next n : ℕ) (form : P (bad Cbor at)) where
  pub run_ways : (n ≤ length s - next → P (Ok (next + n))) → P (run_of s at next n)
  unfolding run_of
  run_ways good = tested P (ltb (length s - next) n) (λ e. form) (λ e. good (ltb-false _ _ e))

  pub text_ways : P (bad Cbor next) → (n ≤ length s - next → P (Ok (next + n))) → P (text_of s at next n)
  unfolding text_of
  text_ways ill good = tested P (ltb (length s - next) n) (λ e. form) (λ e. either P (utf8 (take n (drop next s))) (good (ltb-false _ _ e)) ill)

  pub major_ways : (array : ℕ → ℕ → Reading ℕ) (major : ℕ) → P (Ok next) → P (run_of s at next n) → P (text_of s at next n) → P (array n next)
      → P (by_major array s at (got major n next))
  unfolding by_major
  major_ways array major end run text deeper =
      let simple = either P (ltb n 20) form (either P (leb n 22) end form) in
      either P (ltb major 2) end
      (either P (eqb major 2) run
      (either P (eqb major 3) text
      (either P (eqb major 4) deeper
      (either P (eqb major 7) simple form))))

module _ (array : ℕ → ℕ → Reading ℕ) (s : List ℕ) (at : ℕ) (h : at ≤ length s) (deeper : (n next : ℕ) → next ≤ length s → ItemIn (length s) (array n next)) where
  major_in : (r : Reading Head) → HeadIn (length s) r → ItemIn (length s) (after (by_major array s at) r)
  unfolding by_major
  major_in (Err d) g = g
  major_in (Ok hd) g =
      let In = ItemIn (length s) in
      major_ways In s at hd.next hd.value h array hd.major g
      (run_ways In s at hd.next hd.value h (λ f. omega arith))
      (text_ways In s at hd.next hd.value h g (λ f. omega arith))
      (deeper hd.value hd.next g)

pub items_in : (size : ℕ) (f : ℕ → Reading ℕ) → ((p : ℕ) → p ≤ size → ItemIn size (f p)) → (k at : ℕ) → at ≤ size → ItemIn size (items_of f k at)
unfolding items_of
items_in size f g zero at h = h
items_in size f g (suc k) at h = step_in (ItemIn size) size (λ d i. i) (λ next. next ≤ size) (items_of f k) (items_in size f g k) (f at) (g at h)

pub value_in : (d : ℕ) (s : List ℕ) (at : ℕ) → at ≤ length s → ItemIn (length s) (value_of d s at)
unfolding value_of
value_in zero s at h = major_in (λ n next. bad Bounds at) s at h (λ n next g. h) (read_head s at) (head_in s at h)
value_in (suc d) s at h =
    major_in (λ n next. items_of (value_of d s) n next) s at h (items_in (length s) (value_of d s) (value_in d s)) (read_head s at) (head_in s at h)
