-- Caveats both ways: one within limits that was written reads back, whatever stands behind it; and what reads well is such a caveat.
use Rattle.std.specs.Prelude.{Some, Ok}
use mathlib.Core.Path.{◌≡◌, refl, sym, ap, ◌∙◌}
use mathlib.Core.List.{List, [], ◌++◌, append_assoc, append-nil}
use Prim.Native.String.{String}
use Prim.Native.Nat.{ℕ, ◌+◌, ◌^◌, ◌<◌}
use native.Mathlib.Omega.{arith}
use lib.ListN.{length, drop, get_or, length-append}
use Rattle.basis.specs.Basis.{ascii, IsBytes}
use Rattle.basis.proofs.Pairs.{ok_pair}
use Rattle.basis.proofs.Parts.{past, on}
use Rattle.cbor_heads.specs.declared.defect.Kind.TheVariants.{Unknown}
use Rattle.cbor_heads.specs.Heads.{head}
use Rattle.cbor_heads.specs.Counts.{read_count}
use Rattle.cbor_heads.proofs.CountLaws.{head_there, there_head, count, counted}
use Rattle.cbor_keys.specs.Keys.{keys_of}
use Rattle.cbor_keys.specs.Reading.{index_from, index_of_key, key_at, wanted_key}
use Rattle.cbor_keys.specs.Maps.{text}
use Rattle.cbor_keys.specs.declared.Names.TheVariants.{Caveat as CaveatKeys, T}
use Rattle.cbor_keys.proofs.KeyLaws.{key_written, key_read, named_read, index_below, wanted_written, wanted_read}
use Rattle.cbor_keys.proofs.StepLaws.{went}
use Rattle.token_caveat.specs.Caveats.{Caveat, exp, nbf, aud, method, path_prefix, ip_cidr, bytes_le, rate, tenant, amnesia, gov_policy_digest, custom, t_of, v_of, encode_caveat, GoodCaveat}
use Rattle.token_caveat.specs.Reading.{caveat_of}
use Rattle.token_caveat.specs.Values.{value_at}
use Rattle.token_caveat_values.specs.declared.CaveatAt.{CaveatAt}
use Rattle.token_caveat.proofs.Holds.{Holds}
use Rattle.token_caveat.proofs.ValuesWritten.{index_of, part_at, value_written}
use Rattle.token_caveat.proofs.ValuesRead.{value_is_read}
use Rattle.token_caveat.proofs.CaveatMap.{v_then, t_then, entries_then}

-- t and its index
record Named (c : Caveat) : Type 0 where
  pub found : index_of_key T (ascii (t_of c)) ≡ Some (index_of c)
  pub short : length (ascii (t_of c)) < 2 ^ 64
  pub named : get_or (keys_of T) (index_of c) "" ≡ t_of c

named : (c : Caveat) → Named c
unfolding t_of index_of keys_of index_from
named (exp n) = record { found = refl; short = omega arith; named = refl }
named (nbf n) = record { found = refl; short = omega arith; named = refl }
named (aud a) = record { found = refl; short = omega arith; named = refl }
named (method ms) = record { found = refl; short = omega arith; named = refl }
named (path_prefix p) = record { found = refl; short = omega arith; named = refl }
named (ip_cidr p) = record { found = refl; short = omega arith; named = refl }
named (bytes_le n) = record { found = refl; short = omega arith; named = refl }
named (rate per-s burst) = record { found = refl; short = omega arith; named = refl }
named (tenant t) = record { found = refl; short = omega arith; named = refl }
named (amnesia b) = record { found = refl; short = omega arith; named = refl }
named (gov_policy_digest d) = record { found = refl; short = omega arith; named = refl }
named (custom ns name value) = record { found = refl; short = omega arith; named = refl }

-- the parts of a caveat that stands at the front
abbrev pub part_of : Caveat → CaveatAt
part_of c = part_at (0 + length (head 5 2) + length (text (ascii "t")) + length (text (ascii (t_of c))) + length (text (ascii "v"))) c

-- what a reading finds there
pub record Written (s : List ℕ) (c : Caveat) : Type 0 where
  pub answer : caveat_of s ≡ Ok (part_of c, length (encode_caveat c))
  pub holds : Holds s c (part_of c)

pub caveat_written : (c : Caveat) → GoodCaveat c → (s rest : List ℕ) → s ≡ encode_caveat c ++ rest → Written s c
unfolding encode_caveat caveat_of keys_of index_from
caveat_written c g s rest e =
    let h = head 5 2 in
    let kt = text (ascii "t") in
    let t = text (ascii (t_of c)) in
    let kv = text (ascii "v") in
    let v = v_of c in
    let i = index_of c in
    let n = named c in
    let d0 : drop 0 s ≡ h ++ (kt ++ (t ++ (kv ++ (v ++ rest)))) = simp append_assoc (simp append_assoc at e) in
    let a1 = 0 + length h in
    let d1 = past s h (kt ++ (t ++ (kv ++ (v ++ rest)))) 0 d0 in
    let a2 = a1 + length kt in
    let d2 = past s kt (t ++ (kv ++ (v ++ rest))) a1 d1 in
    let a3 = a2 + length t in
    let d3 = past s t (kv ++ (v ++ rest)) a2 d2 in
    let a4 = a3 + length kv in
    let d4 = past s kv (v ++ rest) a3 d3 in
    let c0 = sym (count s 0 5 2 2 Unknown (head_there s (kt ++ (t ++ (kv ++ (v ++ rest)))) 0 5 2 d0 (omega arith)) refl (omega arith) (omega arith)) in
    let c1 = wanted_written CaveatKeys (ascii "t") (omega arith) 0 refl s (t ++ (kv ++ (v ++ rest))) a1 d1 in
    let c2 = key_written T (ascii (t_of c)) n.short i n.found s (kv ++ (v ++ rest)) a2 d2 in
    let c3 = wanted_written CaveatKeys (ascii "v") (omega arith) 1 refl s (v ++ rest) a3 d3 in
    let f = value_written c g s rest a4 d4 in
    record {
      answer = rw (c0, c1, c2, c3) (f.answer ∙ ap (λ to. Ok (part_of c, to)) (simp length-append (omega arith)));
      holds = f.holds;
    }

-- a caveat within limits stands at the front and ends at `next`
pub record IsCaveat (s : List ℕ) (part : CaveatAt) (next : ℕ) : Type 0 where
  pub tree : Caveat
  pub good : GoodCaveat tree
  pub long : length (encode_caveat tree) ≡ next
  pub there : s ≡ encode_caveat tree ++ drop next s
  pub holds : Holds s tree part

-- the index of t is that of one of its twelve names
t_below : (s : List ℕ) → IsBytes s → (at : ℕ) {t q : ℕ} → key_at T s at ≡ Ok (t, q) → t < 12
unfolding keys_of
t_below s b at e = let k = key_read T s b at e in omega (arith, index_below (keys_of T) 0 k.content k.indexed)

-- the steps of a caveat, one behind the other
module _ (s : List ℕ) (b : IsBytes s) {part : CaveatAt} {next : ℕ} (e : caveat_of s ≡ Ok (part, next)) where
  caveat_by : (p q t r v : ℕ) → drop 0 s ≡ head 5 2 ++ drop p s → wanted_key CaveatKeys s p 0 ≡ Ok q → key_at T s q ≡ Ok (t, r)
      → wanted_key CaveatKeys s r 1 ≡ Ok v → value_at s t v ≡ Ok (part, next) → IsCaveat s part next
  unfolding keys_of encode_caveat
  caveat_by p q t r v h d k w f =
      let x = value_is_read s b v t (t_below s b q k) f in
      let c = x.tree in
      let z : drop q s ≡ text (ascii (t_of c)) ++ drop r s =
      named_read T t s b q k
      ∙ ap (λ (w : String). text (ascii w) ++ drop r s) (ap (λ (i : ℕ). get_or (keys_of T) i "") (sym x.named) ∙ (named c).named) in
      let y = on (text (ascii (t_of c))) z (on (text (ascii "v")) (wanted_read CaveatKeys 1 s b r w) x.there) in
      let d = on (head 5 2) h (on (text (ascii "t")) (wanted_read CaveatKeys 0 s b p d) y) in
      let there : s ≡ encode_caveat c ++ drop next s = simp append_assoc (simp append_assoc at d) in
      record {
        tree = c;
        good = x.good;
        long = (ok_pair (sym (caveat_written c x.good s (drop next s) there).answer ∙ e)).1;
        there = there;
        holds = x.holds;
      }

  pub caveat_read : IsCaveat s part next
  unfolding caveat_of
  caveat_read =
      let m = went (entries_then s) (read_count s 0 5 2 2 Unknown) e in
      let c = counted s 0 5 2 2 Unknown m.was in
      let n : m.found.0 ≡ 2 = omega (arith, c.enough, c.few) in
      let h = there_head s b 0 c.headed ∙ ap (λ (k : ℕ). head 5 k ++ drop m.found.1 s) n in
      let k = went (t_then s) (wanted_key CaveatKeys s m.found.1 0) m.goes in
      let t = went (v_then s) (key_at T s k.found) k.goes in
      let v = went (value_at s t.found.0) (wanted_key CaveatKeys s t.found.1 1) t.goes in
      caveat_by m.found.1 k.found t.found.0 t.found.1 v.found h k.was t.was v.was v.goes

-- a caveat reads the same alone and in the middle of a token, whatever stands behind it
pub same_alone : (c : Caveat) → GoodCaveat c → (rest : List ℕ) → caveat_of (encode_caveat c ++ rest) ≡ caveat_of (encode_caveat c)
same_alone c g rest = (caveat_written c g (encode_caveat c ++ rest) rest refl).answer ∙ sym (caveat_written c g (encode_caveat c) [] (sym (append-nil (encode_caveat c)))).answer
