-- What reads well as the value of a caveat is what writing that caveat's value gives, within limits.
use Rattle.std.specs.Prelude.{Option, Some, None, Ok, Err, ok_or}
use mathlib.Core.Path.{◌≡◌, refl, sym, ap, subst, ◌∙◌}
use mathlib.Core.Bool.{Bool, true, false}
use mathlib.Core.List.{List, ◌++◌, append_assoc}
use Prim.Native.Nat.{ℕ, zero, suc, ◌+◌, ◌^◌, ◌≤◌, ◌<◌}
use native.Mathlib.Omega.{arith}
use borrow.Author.Tests.{eqb-true, eqb-false}
use lib.Dec.{eqb}
use lib.ListN.{length, drop}
use Rattle.basis.specs.Basis.{ascii, from_to, between, IsBytes}
use Rattle.basis.specs.declared.Span.{Span}
use Rattle.basis.proofs.Pairs.{ok_same, ok_pair}
use Rattle.basis.proofs.Parts.{on, lies}
use Rattle.cbor_heads.specs.Defects.{Reading, after}
use Rattle.cbor_heads.specs.declared.defect.Kind.TheVariants.{Cbor, Bounds, Unknown}
use Rattle.cbor_heads.specs.Heads.{head}
use Rattle.cbor_heads.specs.Counts.{read_count, number_up_to}
use Rattle.cbor_heads.proofs.CountLaws.{there_head, counted}
use Rattle.cbor_strings.specs.Reading.{read_run, read_string}
use Rattle.cbor_strings.specs.declared.Class.{Class}
use Rattle.cbor_strings.specs.declared.Class.TheVariants.{Name, Printable, Path, Hex}
use Rattle.cbor_strings.proofs.StringLaws.{written_run}
use Rattle.cbor_values.specs.Trees.{Value, encode, Good}
use Rattle.cbor_values.specs.Reading.{value_of}
use Rattle.cbor_values.proofs.TreeReads.{read_encoded}
use Rattle.cbor_values.proofs.TreesRead.{value_read}
use Rattle.cbor_keys.specs.Keys.{keys_of}
use Rattle.cbor_keys.specs.Reading.{wanted_key}
use Rattle.cbor_keys.specs.Fields.{name_field, number_field}
use Rattle.cbor_keys.specs.Maps.{text, entry}
use Rattle.cbor_keys.specs.declared.Names.TheVariants.{Rate as RateKeys, Custom as CustomKeys}
use Rattle.cbor_keys.proofs.KeyLaws.{wanted_read}
use Rattle.cbor_keys.proofs.FieldLaws.{name_field_read, number_field_read}
use Rattle.cbor_keys.proofs.TextLaws.{IsText, text_read}
use Rattle.cbor_keys.proofs.StepLaws.{went}
use Rattle.token_cidr.specs.Reading.{cidr_of}
use Rattle.token_cidr.proofs.TextLaws.{prefix_of, reads_text}
use Rattle.token_scope.specs.Methods.{methods_of}
use Rattle.token_scope.proofs.MethodLaws.{methods_read}
use Rattle.token_caveat.specs.Caveats.{Caveat, exp, nbf, aud, method, path_prefix, ip_cidr, bytes_le, rate, tenant, amnesia, gov_policy_digest, custom, v_of, GoodCaveat}
use Rattle.token_caveat_values.specs.Fields.{digest_by, digest_at, network_in}
use Rattle.token_caveat_values.specs.Values.{digest_value, method_value, cidr_value, amnesia_value}
use Rattle.token_caveat_values.specs.Maps.{rate_value, custom_of, custom_value}
use Rattle.token_caveat_values.proofs.Maps.{per_s_then, burst_then, name_then, value_then, cbor_then, ns_then}
use Rattle.token_caveat.specs.Values.{number_value, text_value, value_at}
use Rattle.token_caveat_values.specs.declared.CaveatAt.{CaveatAt}
use Rattle.token_caveat_values.specs.declared.CaveatAt.TheVariants.{Exp, Nbf, Aud, Method, PathPrefix, IpCidr, BytesLe, Rate, Tenant, Amnesia, GovPolicyDigest, Custom}
use Rattle.token_caveat.proofs.Holds.{Holds, exp_is, nbf_is, aud_is, method_is, path_is, cidr_is, bytes_is, rate_is, tenant_is, amnesia_is, digest_is, custom_is}
use Rattle.token_caveat.proofs.ValuesWritten.{index_of}

-- the value that was read lies from its first place to where it ends
value_lies : (s : List ℕ) (at next : ℕ) (v : Value) → Good v 4 → value_of 4 s at ≡ Ok next → drop at s ≡ encode v ++ drop next s → between s (from_to at next) ≡ encode v
value_lies s at next v g e d =
    let l : at + length (encode v) ≡ next = ok_same (sym (read_encoded v 4 g s (drop next s) at d) ∙ e) in
    rw (← l) (lies s (encode v) (drop next s) at d)

-- what a step that judges its reading was given
digest_was : (x : Reading Span) {part : Span} → digest_by x ≡ Ok part → x ≡ Ok part
digest_was (Err d) e = cc
digest_was (Ok part) e = e

some_was : {A E : Type 0} (x : Option A) (d : E) {a : A} → ok_or x d ≡ Ok a → x ≡ Some a
some_was None d e = cc
some_was (Some a) d e = ap Some (ok_same e)

-- a value within limits of the caveat whose t has that index
pub record IsValue (s : List ℕ) (at t : ℕ) (part : CaveatAt) (next : ℕ) : Type 0 where
  pub tree : Caveat
  pub good : GoodCaveat tree
  pub named : index_of tree ≡ t
  pub there : drop at s ≡ v_of tree ++ drop next s
  pub holds : Holds s tree part

module _ (s : List ℕ) (b : IsBytes s) (at : ℕ) (part : CaveatAt) (next : ℕ) where
  -- the answer's own part and place
  abbrev Answers : CaveatAt → ℕ → Type 0
  Answers p q = ◌≡◌ {A = Reading (CaveatAt × ℕ)} (Ok (p, q)) (Ok (part, next))

  -- a tree that holds what was found there
  found : (c : Caveat) → GoodCaveat c → (p : CaveatAt) (q : ℕ) → Answers p q → drop at s ≡ v_of c ++ drop q s → Holds s c p → IsValue s at (index_of c) part next
  found c g p q e d h = let x = ok_pair e in record { tree = c; good = g; named = refl; there = rw (← x.1) d; holds = subst (Holds s c) x.0 h }

  number_read : (make : ℕ → CaveatAt) → number_value make s at ≡ Ok (part, next) → (n q : ℕ) × (n < 2 ^ 64) × Answers (make n) q × (drop at s ≡ head 0 n ++ drop q s)
  number_read make e =
      let w = went (λ (n, to). Ok (make n, to)) (number_up_to 0xffffffffffffffff s at) e in
      let c = counted s at 0 0 0xffffffffffffffff Bounds w.was in
      (w.found.0, w.found.1, omega (arith, c.few), w.goes, there_head s b at c.headed)

  exp_read : number_value Exp s at ≡ Ok (part, next) → IsValue s at 0 part next
  unfolding v_of index_of GoodCaveat
  exp_read e = let r = number_read Exp e in found (exp r.0) r.2 (Exp r.0) r.1 r.3 r.4 (exp_is r.0)

  nbf_read : number_value Nbf s at ≡ Ok (part, next) → IsValue s at 1 part next
  unfolding v_of index_of GoodCaveat
  nbf_read e = let r = number_read Nbf e in found (nbf r.0) r.2 (Nbf r.0) r.1 r.3 r.4 (nbf_is r.0)

  bytes_read : number_value BytesLe s at ≡ Ok (part, next) → IsValue s at 6 part next
  unfolding v_of index_of GoodCaveat
  bytes_read e = let r = number_read BytesLe e in found (bytes_le r.0) r.2 (BytesLe r.0) r.1 r.3 r.4 (bytes_is r.0)

  words_read : (make : Span → CaveatAt) (class : Class) (high : ℕ) → text_value make class high s at ≡ Ok (part, next)
      → (p : Span) × IsText class 1 high s at p × Answers (make p) p.to
  words_read make class high e =
      let w = went (λ part. Ok (make part, part.to)) (read_string s at class 1 high) e in
      (w.found, text_read class 1 high s b at w.was, w.goes)

  aud_read : text_value Aud Printable 128 s at ≡ Ok (part, next) → IsValue s at 2 part next
  unfolding v_of index_of GoodCaveat
  aud_read e =
      let r = words_read Aud Printable 128 e in
      let x = r.1.tree in
      found (aud x) r.1.good (Aud r.0) r.0.to r.2 r.1.there (aud_is x r.0 r.1.held)

  path_read : text_value PathPrefix Path 256 s at ≡ Ok (part, next) → IsValue s at 4 part next
  unfolding v_of index_of GoodCaveat
  path_read e =
      let r = words_read PathPrefix Path 256 e in
      let x = r.1.tree in
      found (path_prefix x) r.1.good (PathPrefix r.0) r.0.to r.2 r.1.there (path_is x r.0 r.1.held)

  tenant_read : text_value Tenant Name 64 s at ≡ Ok (part, next) → IsValue s at 8 part next
  unfolding v_of index_of GoodCaveat
  tenant_read e =
      let r = words_read Tenant Name 64 e in
      let x = r.1.tree in
      found (tenant x) r.1.good (Tenant r.0) r.0.to r.2 r.1.there (tenant_is x r.0 r.1.held)

  digest_read : digest_value s at ≡ Ok (part, next) → IsValue s at 10 part next
  unfolding digest_value v_of index_of GoodCaveat
  digest_read e =
      let w = went (λ part. Ok (GovPolicyDigest part, part.to)) (digest_at s at) e in
      let r = text_read Hex 64 64 s b at (digest_was (read_string s at Hex 64 64) w.was) in
      found (gov_policy_digest r.tree) r.good (GovPolicyDigest w.found) w.found.to w.goes r.there (digest_is r.tree w.found r.held)

  method_read : method_value s at ≡ Ok (part, next) → IsValue s at 3 part next
  unfolding method_value v_of index_of GoodCaveat
  method_read e =
      let w = went (λ methods. Ok (Method methods, methods.span.to)) (methods_of s at) e in
      let r = methods_read s b at w.was in
      found (method r.methods) r.good (Method w.found) w.found.span.to w.goes r.there (method_is r.methods w.found r.few r.begins)

  cidr_read : cidr_value s at ≡ Ok (part, next) → IsValue s at 5 part next
  unfolding cidr_value v_of index_of GoodCaveat
  cidr_read e =
      let w = went (λ part. after (λ network. Ok (IpCidr network, part.to)) (network_in s part)) (read_run s at 3 0 0xffffffffffffffff) e in
      let n = went (λ network. Ok (IpCidr network, w.found.to)) (network_in s w.found) w.goes in
      let r = reads_text (between s w.found) (some_was (cidr_of (between s w.found)) _ n.was) in
      let d = written_run s at 3 0 0xffffffffffffffff b w.was in
      found (ip_cidr (prefix_of n.found)) r.0 (IpCidr n.found) w.found.to n.goes
      (d ∙ ap (λ (x : List ℕ). text x ++ drop w.found.to s) r.1) (cidr_is (prefix_of n.found) n.found r.2)

  amnesia_read : amnesia_value s at ≡ Ok (part, next) → IsValue s at 9 part next
  unfolding amnesia_value v_of index_of GoodCaveat
  amnesia_read e =
      let w = went (λ (n, to). Ok (Amnesia (eqb n 21), to)) (read_count s at 7 20 21 Cbor) e in
      let c = counted s at 7 20 21 Cbor w.was in
      by w.found.0 w.found.1 c.enough c.few (there_head s b at c.headed) (eqb w.found.0 21) refl w.goes
    where
      by : (n q : ℕ) → 20 ≤ n → n ≤ 21 → drop at s ≡ head 7 n ++ drop q s → (f : Bool) → eqb n 21 ≡ f → Answers (Amnesia f) q → IsValue s at 9 part next
      by n q l h d true p e = found (amnesia true) tt (Amnesia true) q e (d ∙ ap (λ (n : ℕ). head 7 n ++ drop q s) (eqb-true n 21 p)) (amnesia_is true)
      by n q l h d false p e =
          let x : n ≡ 20 = omega (arith, eqb-false n 21 p) in
          found (amnesia false) tt (Amnesia false) q e (d ∙ ap (λ (n : ℕ). head 7 n ++ drop q s) x) (amnesia_is false)

  rate_read : rate_value s at ≡ Ok (part, next) → IsValue s at 7 part next
  unfolding rate_value v_of index_of GoodCaveat keys_of
  rate_read e =
      let m = went (burst_then s) (read_count s at 5 2 2 Unknown) e in
      let c = counted s at 5 2 2 Unknown m.was in
      let n : m.found.0 ≡ 2 = omega (arith, c.enough, c.few) in
      let u = went (λ (burst, at). per_s_then s burst at) (number_field RateKeys s m.found.1 0 0xffffffff) m.goes in
      let v = went (λ (per-s, to). Ok (Rate per-s u.found.0, to)) (number_field RateKeys s u.found.1 1 0xffffffff) u.goes in
      let x = number_field_read RateKeys 0 s b m.found.1 0xffffffff u.was in
      let y = number_field_read RateKeys 1 s b u.found.1 0xffffffff v.was in
      let h : drop at s ≡ head 5 2 ++ drop m.found.1 s = there_head s b at c.headed ∙ ap (λ (k : ℕ). head 5 k ++ drop m.found.1 s) n in
      let d = on (head 5 2) h (on (entry "burst" (head 0 u.found.0)) x.there y.there) in
      found (rate v.found.0 u.found.0) (omega (arith, y.few), omega (arith, x.few)) (Rate v.found.0 u.found.0) v.found.1 v.goes
      (simp append_assoc (simp append_assoc at d)) (rate_is v.found.0 u.found.0)

  -- the steps of a custom value, one behind the other
  custom_by : (p : ℕ) (ns : Span) (from to : ℕ) (name : Span) → drop at s ≡ head 5 3 ++ drop p s → name_field CustomKeys s p 0 ≡ Ok ns
      → wanted_key CustomKeys s ns.to 1 ≡ Ok from → value_of 4 s from ≡ Ok to → name_field CustomKeys s to 2 ≡ Ok name
      → Answers (Custom (custom_of ns (from_to from to) name)) name.to → IsValue s at 11 part next
  unfolding v_of index_of GoodCaveat keys_of
  custom_by p ns from to name h d k v n e =
      let x = name_field_read CustomKeys 0 s b p d in
      let y = value_read 4 s b from v in
      let z = name_field_read CustomKeys 2 s b to n in
      let t = on (text (ascii "cbor")) (wanted_read CustomKeys 1 s b ns.to k) (on (encode y.tree) y.there z.there) in
      let w = on (head 5 3) h (on (entry "ns" (text x.tree)) x.there t) in
      let parts = custom_of ns (from_to from to) name in
      found (custom x.tree z.tree y.tree) (x.good, z.good, y.good) (Custom parts) name.to e (simp append_assoc (simp append_assoc at w))
      (custom_is x.tree z.tree y.tree parts x.held (value_lies s from to y.tree y.good v y.there) z.held)

  custom_read : custom_value s at ≡ Ok (part, next) → IsValue s at 11 part next
  unfolding custom_value
  custom_read e =
      let m = went (ns_then s) (read_count s at 5 3 3 Unknown) e in
      let c = counted s at 5 3 3 Unknown m.was in
      let n : m.found.0 ≡ 3 = omega (arith, c.enough, c.few) in
      let h = there_head s b at c.headed ∙ ap (λ (k : ℕ). head 5 k ++ drop m.found.1 s) n in
      let u = went (cbor_then s) (name_field CustomKeys s m.found.1 0) m.goes in
      let k = went (value_then s u.found) (wanted_key CustomKeys s u.found.to 1) u.goes in
      let v = went (name_then s u.found k.found) (value_of 4 s k.found) k.goes in
      let w = went (λ name. Ok (Custom (custom_of u.found (from_to k.found v.found) name), name.to)) (name_field CustomKeys s v.found 2) v.goes in
      custom_by m.found.1 u.found k.found v.found w.found h u.was k.was v.was w.was w.goes

-- by the twelve names of t
pub value_is_read : (s : List ℕ) → IsBytes s → (at t : ℕ) → t < 12 → {part : CaveatAt} {next : ℕ} → value_at s t at ≡ Ok (part, next) → IsValue s at t part next
unfolding value_at
value_is_read s b at zero h {part} {next} e = exp_read s b at part next e
value_is_read s b at (suc zero) h {part} {next} e = nbf_read s b at part next e
value_is_read s b at (suc (suc zero)) h {part} {next} e = aud_read s b at part next e
value_is_read s b at (suc (suc (suc zero))) h {part} {next} e = method_read s b at part next e
value_is_read s b at (suc (suc (suc (suc zero)))) h {part} {next} e = path_read s b at part next e
value_is_read s b at (suc (suc (suc (suc (suc zero))))) h {part} {next} e = cidr_read s b at part next e
value_is_read s b at (suc (suc (suc (suc (suc (suc zero)))))) h {part} {next} e = bytes_read s b at part next e
value_is_read s b at (suc (suc (suc (suc (suc (suc (suc zero))))))) h {part} {next} e = rate_read s b at part next e
value_is_read s b at (suc (suc (suc (suc (suc (suc (suc (suc zero)))))))) h {part} {next} e = tenant_read s b at part next e
value_is_read s b at (suc (suc (suc (suc (suc (suc (suc (suc (suc zero))))))))) h {part} {next} e = amnesia_read s b at part next e
value_is_read s b at (suc (suc (suc (suc (suc (suc (suc (suc (suc (suc zero)))))))))) h {part} {next} e = digest_read s b at part next e
value_is_read s b at (suc (suc (suc (suc (suc (suc (suc (suc (suc (suc (suc zero))))))))))) h {part} {next} e = custom_read s b at part next e
value_is_read s b at (suc (suc (suc (suc (suc (suc (suc (suc (suc (suc (suc (suc n)))))))))))) h e = let z : ⊥ = omega arith in elim z [ ]
