-- Keys both ways: a known name that was written is found by its index, and what is found is that name, written.
use Rattle.std.specs.Prelude.{Ok, Err, Option, Some, None}
use Rattle.cbor_heads.specs.Defects.{Reading, bad, after}
use Rattle.basis.proofs.Pairs.{ok_same, ok_pair, some_same}
use Rattle.cbor_heads.specs.declared.defect.Kind.TheVariants.{Cbor}
use mathlib.Core.Path.{◌≡◌, refl, ap, ap₂, ◌∙◌}
use mathlib.Core.Bool.{Bool, true, false}
use mathlib.Core.List.{List, [], ◌∷◌, ◌++◌}
use Prim.Native.Nat.{ℕ, suc, ◌+◌, ◌-◌, ◌^◌, ◌≤◌, ◌<◌}
use Prim.Native.String.{String}
use native.Mathlib.Omega.{arith}
use borrow.Author.Tests.{eq-eqb, eqb-true}
use lib.Dec.{eqb}
use lib.ListN.{length, take, drop, get_or}
use Rattle.basis.specs.Basis.{pick, ascii, between, IsBytes}
use Rattle.basis.specs.declared.Span.{Span}
use Rattle.basis.specs.Same.{same_of}
use Rattle.basis.proofs.Parts.{ends}
use Rattle.basis.proofs.Sameness.{same_equal}
use Rattle.cbor_heads.specs.Heads.{head}
use Rattle.cbor_strings.specs.Strings.{string}
use Rattle.cbor_strings.specs.Reading.{read_run}
use Rattle.cbor_strings.proofs.StringLaws.{read_run_written, content_there, written_run}
use Rattle.cbor_keys.specs.Keys.{keys_of}
use Rattle.cbor_keys.specs.Reading.{index_from, index_of_key, known_by, key_by, key_at, wanted_by, wanted_key}
use Rattle.cbor_keys.specs.declared.Names.{Names}
use Rattle.cbor_keys.proofs.StepLaws.{must_take}

-- the content of a key that was written, and its index
pub key_written : (names : Names) (c : List ℕ) → length c < 2 ^ 64 → (i : ℕ) → index_of_key names c ≡ Some i → (s rest : List ℕ) (at : ℕ) → drop at s ≡ string 3 c ++ rest
    → key_at names s at ≡ Ok (i, at + length (string 3 c))
unfolding key_by
key_written names c l i e s rest at d =
    let f = at + length (head 3 (length c)) in
    let n : f + length c - f ≡ length c = omega arith in
    let t : take (f + length c - f) (drop f s) ≡ c = ap (λ (k : ℕ). take k (drop f s)) n ∙ content_there s c rest at 3 d l in
    rw (read_run_written s c rest at 3 d l 0 0xffffffffffffffff (omega arith) (omega arith), t, e)
    (ap (λ (next : ℕ). Ok (i, next)) (ends (head 3 (length c)) c at))

index_least : (ns : List String) (j : ℕ) (c : List ℕ) {i : ℕ} → index_from j c ns ≡ Some i → j ≤ i
unfolding index_from
index_least [] j c e = let z : ◌≡◌ {A = ℕ} 0 1 = cc in let z : ⊥ = omega arith in elim z [ ]
index_least (n ∷ ns) j c {i} e = by (same_of c (ascii n)) e (λ r. index_least ns (suc j) c r)
  where
    by : (b : Bool) → pick b (Some j) (index_from (suc j) c ns) ≡ Some i → (index_from (suc j) c ns ≡ Some i → suc j ≤ i) → j ≤ i
    by true e m = let z = some_same e in omega (arith, z)
    by false e m = omega (arith, m e)

-- the name with that index
pub index_name : (ns : List String) (j : ℕ) (c : List ℕ) {i : ℕ} → index_from j c ns ≡ Some i → c ≡ ascii (get_or ns (i - j) "")
unfolding index_from
index_name [] j c e = let z : ◌≡◌ {A = ℕ} 0 1 = cc in let z : ⊥ = omega arith in elim z [ ]
index_name (n ∷ ns) j c {i} e = by (same_of c (ascii n)) refl e (λ r. index_name ns (suc j) c r) (λ r. index_least ns (suc j) c r)
  where
    by : (b : Bool) → same_of c (ascii n) ≡ b → pick b (Some j) (index_from (suc j) c ns) ≡ Some i → (index_from (suc j) c ns ≡ Some i → c ≡ ascii (get_or ns (i - suc j) ""))
        → (index_from (suc j) c ns ≡ Some i → suc j ≤ i) → c ≡ ascii (get_or (n ∷ ns) (i - j) "")
    by true p e m k = let w = some_same e in let z : i - j ≡ 0 = omega (arith, w) in rw z (same_equal c (ascii n) p)
    by false p e m k = let z : i - j ≡ suc (i - suc j) = omega (arith, k e) in rw z (m e)

-- what a key that was found is
pub record IsKey (names : Names) (s : List ℕ) (at i next : ℕ) : Type 0 where
  pub content : List ℕ
  pub indexed : index_of_key names content ≡ Some i
  pub there : drop at s ≡ string 3 content ++ drop next s

pub key_read : (names : Names) (s : List ℕ) → IsBytes s → (at : ℕ) {i next : ℕ} → key_at names s at ≡ Ok (i, next) → IsKey names s at i next
unfolding key_by
key_read names s b at {i} {next} = by (read_run s at 3 0 0xffffffffffffffff) refl
  where
    found : (part : Span) → read_run s at 3 0 0xffffffffffffffff ≡ Ok part → (k : Option ℕ) → index_of_key names (between s part) ≡ k
        → known_by at part.to k ≡ Ok (i, next) → IsKey names s at i next
    found part p None q e = let z : ◌≡◌ {A = ℕ} 0 1 = cc in let z : ⊥ = omega arith in elim z [ ]
    found part p (Some k) q e =
        let x = (ok_pair e).0 in
        let y = (ok_pair e).1 in
        record {
          content = between s part;
          indexed = q ∙ ap Some x;
          there = rw (← y) (written_run s at 3 0 0xffffffffffffffff b p);
        }

    by : (r : Reading Span) → read_run s at 3 0 0xffffffffffffffff ≡ r → after (key_by names s at) r ≡ Ok (i, next) → IsKey names s at i next
    by (Err d) p e = let z : ◌≡◌ {A = ℕ} 0 1 = cc in let z : ⊥ = omega arith in elim z [ ]
    by (Ok part) p e = found part p (index_of_key names (between s part)) refl e

-- a name that was found stands there by its index
pub named_read : (names : Names) (i : ℕ) (s : List ℕ) → IsBytes s → (at : ℕ) {next : ℕ} → key_at names s at ≡ Ok (i, next)
    → drop at s ≡ string 3 (ascii (get_or (keys_of names) i "")) ++ drop next s
named_read names i s b at e =
    let k = key_read names s b at e in
    let q : i - 0 ≡ i = omega arith in
    let m : k.content ≡ ascii (get_or (keys_of names) i "") = rw q at (index_name (keys_of names) 0 k.content k.indexed) in
    rw (← m) k.there

-- the index is that of one of the names
pub index_below : (ns : List String) (j : ℕ) (c : List ℕ) {i : ℕ} → index_from j c ns ≡ Some i → i < j + length ns
unfolding index_from
index_below [] j c e = let z : ◌≡◌ {A = ℕ} 0 1 = cc in let z : ⊥ = omega arith in elim z [ ]
index_below (n ∷ ns) j c {i} e = by (same_of c (ascii n)) e (λ r. index_below ns (suc j) c r)
  where
    by : (b : Bool) → pick b (Some j) (index_from (suc j) c ns) ≡ Some i → (index_from (suc j) c ns ≡ Some i → i < suc j + length ns) → i < j + suc (length ns)
    by true e m = let z = some_same e in omega (arith, z)
    by false e m = omega (arith, m e)

-- the key wanted, which is the name with that index
pub wanted_written : (names : Names) (c : List ℕ) → length c < 2 ^ 64 → (want : ℕ) → index_of_key names c ≡ Some want → (s rest : List ℕ) (at : ℕ)
    → drop at s ≡ string 3 c ++ rest → wanted_key names s at want ≡ Ok (at + length (string 3 c))
unfolding wanted_by
wanted_written names c l want e s rest at d = rw (key_written names c l want e s rest at d, eq-eqb want want refl)

pub wanted_read : (names : Names) (want : ℕ) (s : List ℕ) → IsBytes s → (at : ℕ) {next : ℕ} → wanted_key names s at want ≡ Ok next
    → drop at s ≡ string 3 (ascii (get_or (keys_of names) want "")) ++ drop next s
unfolding wanted_by
wanted_read names want s b at {next} = by (key_at names s at) refl
  where
    by : (k : Reading (ℕ × ℕ)) → key_at names s at ≡ k → after (wanted_by at want) k ≡ Ok next → drop at s ≡ string 3 (ascii (get_or (keys_of names) want "")) ++ drop next s
    by (Err d) p e = let z : ◌≡◌ {A = ℕ} 0 1 = cc in let z : ⊥ = omega arith in elim z [ ]
    by (Ok (i, n)) p e =
        let t = must_take (Ok n) (bad Cbor at) (λ e. let z : ◌≡◌ {A = ℕ} 0 1 = cc in omega arith) (eqb i want) e in
        let y : n ≡ next = ok_same t.1 in
        named_read names want s b at (p ∙ ap₂ (λ (j m : ℕ). Ok (j, m)) (eqb-true i want t.0) y)
