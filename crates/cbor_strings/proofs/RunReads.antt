-- What the definition of a string computes to, in the terms that the code has: one law for each way out.
use Rattle.std.specs.Prelude.{Ok, Err}
use Rattle.cbor_heads.specs.Defects.{Reading, bad, after}
use Rattle.basis.proofs.Pairs.{ok_same}
use Rattle.cbor_heads.specs.declared.defect.Kind.TheVariants.{Cbor, Bounds}
use Rattle.cbor_heads.specs.Reading.{got}
use mathlib.Core.Path.{◌≡◌, refl}
use mathlib.Core.Bool.{Bool, true, false}
use mathlib.Core.List.{List}
use Prim.Native.Nat.{ℕ, ◌+◌, ◌-◌, ◌≤◌}
use native.Mathlib.Omega.{arith}
use borrow.Author.Tests.{ltb-false, eqb-true}
use lib.Dec.{ltb, eqb}
use lib.ListN.{length}
use Rattle.basis.specs.Basis.{pick, from_to, between}
use Rattle.basis.specs.declared.Span.{Span}
use Rattle.basis.proofs.Parts.{begins_alike, ends_alike}
use Rattle.cbor_heads.specs.Reading.{read_head}
use Rattle.cbor_strings.specs.Strings.{content_of}
use Rattle.cbor_strings.specs.Reading.{run_by, read_run, content_by, read_string}
use Rattle.cbor_strings.specs.declared.Class.{Class}
use Rattle.cbor_heads.specs.declared.Head.{Head}
use Rattle.cbor_heads.proofs.HeadLaws.{next_in}

-- what a string that was read is
pub record Found (s : List ℕ) (at major low high : ℕ) (part : Span) : Type 0 where
  pub headed : read_head s at ≡ Ok (got major (part.to - part.from) part.from)
  pub order : part.from ≤ part.to
  pub enough : low ≤ part.to - part.from
  pub most : part.to - part.from ≤ high
  pub inside : part.to ≤ length s

found_by : (s : List ℕ) (at major low high : ℕ) {part : Span} {m n next : ℕ} → read_head s at ≡ Ok (got m n next)
    → (a : Bool) → eqb m major ≡ a → (b : Bool) → ltb n low ≡ b → (c : Bool) → ltb high n ≡ c → (d : Bool) → ltb (length s - next) n ≡ d
    → pick a (pick b (bad Bounds at) (pick c (bad Bounds at) (pick d (bad Cbor at) (Ok (from_to next (next + n)))))) (bad Cbor at) ≡ Ok part → Found s at major low high part
found_by s at major low high p false q b r c t d u e = let z : ◌≡◌ {A = ℕ} 0 1 = cc in let z : ⊥ = omega arith in elim z [ ]
found_by s at major low high p true q true r c t d u e = let z : ◌≡◌ {A = ℕ} 0 1 = cc in let z : ⊥ = omega arith in elim z [ ]
found_by s at major low high p true q false r true t d u e = let z : ◌≡◌ {A = ℕ} 0 1 = cc in let z : ⊥ = omega arith in elim z [ ]
found_by s at major low high p true q false r false t true u e = let z : ◌≡◌ {A = ℕ} 0 1 = cc in let z : ⊥ = omega arith in elim z [ ]
found_by s at major low high {part} {m} {n} {next} p true q false r false t false u e =
    let j : from_to next (next + n) ≡ part = ok_same e in
    let x : next ≡ part.from = begins_alike j in
    let y : next + n ≡ part.to = ends_alike j in
    let k = next_in s at p in
    let w = eqb-true m major q in
    let f = ltb-false n low r in
    let g = ltb-false high n t in
    let h = ltb-false (length s - next) n u in
    let v : part.to - part.from ≡ n = omega arith in
    record {
      headed = rw (v, ← x, ← w) p;
      order = omega arith;
      enough = omega arith;
      most = omega arith;
      inside = omega (arith, k.1);
    }

pub found : (s : List ℕ) (at major low high : ℕ) {part : Span} → read_run s at major low high ≡ Ok part → Found s at major low high part
unfolding run_by
found s at major low high {part} = by (read_head s at) refl
  where
    by : (h : Reading Head) → read_head s at ≡ h → after (run_by (length s) at major low high) h ≡ Ok part → Found s at major low high part
    by (Err d) p e = let z : ◌≡◌ {A = ℕ} 0 1 = cc in let z : ⊥ = omega arith in elim z [ ]
    by (Ok h) p e =
        found_by s at major low high p (eqb h.major major) refl (ltb h.value low) refl (ltb high h.value) refl (ltb (length s - h.next) h.value) refl e

-- what a text that was read is
pub record Held (s : List ℕ) (at : ℕ) (class : Class) (low high : ℕ) (part : Span) : Type 0 where
  pub run_found : read_run s at 3 low high ≡ Ok part
  pub good : content_of class (between s part) ≡ true

pub held : (s : List ℕ) (at : ℕ) (class : Class) (low high : ℕ) {part : Span} → read_string s at class low high ≡ Ok part → Held s at class low high part
unfolding content_by
held s at class low high {part} = by (read_run s at 3 low high) refl
  where
    tried : (p : Span) → read_run s at 3 low high ≡ Ok p → (b : Bool) → content_of class (between s p) ≡ b → pick b (Ok p) (bad Cbor p.from) ≡ Ok part
        → Held s at class low high part
    tried p r true q e = let x = ok_same e in record { run_found = rw (← x) r; good = rw (← x) q }
    tried p r false q e = let z : ◌≡◌ {A = ℕ} 0 1 = cc in let z : ⊥ = omega arith in elim z [ ]

    by : (r : Reading Span) → read_run s at 3 low high ≡ r → after (content_by class s) r ≡ Ok part → Held s at class low high part
    by (Err d) p e = let z : ◌≡◌ {A = ℕ} 0 1 = cc in let z : ⊥ = omega arith in elim z [ ]
    by (Ok q) p e = tried q p (content_of class (between s q)) refl e
