-- The value of each caveat within limits, where it was written, is read as that caveat's.
use Rattle.std.specs.Prelude.{Ok}
use mathlib.Core.Path.{◌≡◌, refl, sym, ap, ◌∙◌}
use mathlib.Core.Bool.{Bool, true, false}
use mathlib.Core.List.{List, [], ◌∷◌, ◌++◌, append_assoc}
use Prim.Native.Nat.{ℕ, ◌+◌, ◌/◌, ◌%◌, ◌^◌, ◌≤◌, ◌<◌}
use native.Mathlib.Omega.{arith}
use lib.ListN.{length, drop, length-append}
use lib.Dec.{ltb}
use Rattle.basis.specs.Basis.{pick, ascii, from_to}
use Rattle.basis.specs.declared.Span.{Span}
use Rattle.cbor_values.specs.Lists.{list_of}
use Rattle.basis.proofs.Parts.{past, ends, lies}
use Rattle.cbor_heads.specs.declared.defect.Kind.TheVariants.{Cbor, Unknown}
use Rattle.cbor_heads.specs.Heads.{head}
use Rattle.cbor_strings.specs.declared.Class.TheVariants.{Name, Printable, Path, Hex}
use Rattle.cbor_heads.proofs.CountLaws.{head_there, count}
use Rattle.cbor_strings.proofs.StringLaws.{read_run_written}
use Rattle.cbor_values.specs.Trees.{Value, encode, Good}
use Rattle.cbor_values.proofs.TreeReads.{read_encoded}
use Rattle.token_cidr.specs.Prefixes.{Prefix, decimal, prefix_text, GoodPrefix}
use Rattle.token_cidr.specs.Reading.{net_of}
use Rattle.token_cidr.proofs.TextLaws.{text_reads}
use Rattle.cbor_keys.specs.Keys.{keys_of}
use Rattle.cbor_keys.specs.Reading.{index_from}
use Rattle.cbor_keys.specs.Maps.{text, entry, GoodText, GoodName}
use Rattle.cbor_keys.specs.declared.Names.TheVariants.{Rate as RateKeys, Custom as CustomKeys}
use Rattle.cbor_keys.proofs.KeyLaws.{wanted_written}
use Rattle.cbor_keys.proofs.FieldLaws.{number_written, name_lies, name_field_written, number_field_written}
use Rattle.cbor_keys.proofs.TextLaws.{text_written, text_held}
use Rattle.token_scope.specs.Scopes.{encode_methods, GoodMethods}
use Rattle.token_scope.proofs.MethodLaws.{methods_written, methods_lie}
use Rattle.token_caveat.specs.Caveats.{Caveat, exp, nbf, aud, method, path_prefix, ip_cidr, bytes_le, rate, tenant, amnesia, gov_policy_digest, custom, v_of, GoodCaveat}
use Rattle.token_caveat_values.specs.Values.{digest_value, method_value, cidr_value, amnesia_value}
use Rattle.token_caveat_values.specs.Maps.{rate_value, custom_of, custom_value}
use Rattle.token_caveat.specs.Values.{value_at}
use Rattle.token_caveat_values.specs.declared.CaveatAt.{CaveatAt}
use Rattle.token_caveat_values.specs.declared.CaveatAt.TheVariants.{Exp, Nbf, Aud, Method, PathPrefix, IpCidr, BytesLe, Rate, Tenant, Amnesia, GovPolicyDigest, Custom}
use Rattle.token_caveat.proofs.Holds.{Holds, exp_is, nbf_is, aud_is, method_is, path_is, cidr_is, bytes_is, rate_is, tenant_is, amnesia_is, digest_is, custom_is}

-- the index of t
unfoldable pub index_of : Caveat → ℕ
index_of (exp n) = 0
index_of (nbf n) = 1
index_of (aud a) = 2
index_of (method ms) = 3
index_of (path_prefix p) = 4
index_of (ip_cidr p) = 5
index_of (bytes_le n) = 6
index_of (rate per-s burst) = 7
index_of (tenant t) = 8
index_of (amnesia b) = 9
index_of (gov_policy_digest d) = 10
index_of (custom ns name value) = 11

decimal_short : (n : ℕ) → length (decimal n) ≤ 3
unfolding decimal
decimal_short n = by (ltb n 10) (ltb n 100)
  where
    by : (a b : Bool)
        → length (pick a ((48 + n) ∷ []) (pick b ((48 + n / 10) ∷ (48 + n % 10) ∷ []) ((48 + n / 100) ∷ (48 + n / 10 % 10) ∷ (48 + n % 10) ∷ []))) ≤ 3
    by true b = omega arith
    by false true = omega arith
    by false false = omega arith

-- "255.255.255.255/32" is the longest
cidr_short : (p : Prefix) → length (prefix_text p) ≤ 19
unfolding prefix_text
cidr_short p =
    let a = decimal_short p.a in
    let b = decimal_short p.b in
    let c = decimal_short p.c in
    let d = decimal_short p.d in
    let e = decimal_short p.size in
    simp length-append (omega arith)

-- the content of a text at `at`
abbrev content_from : ℕ → List ℕ → ℕ
content_from at x = at + length (head 3 (length x))

abbrev pub content_at : ℕ → List ℕ → Span
content_at at x = from_to (content_from at x) (at + length (text x))

-- the parts of a caveat whose value stands at `at`, which depend on nothing else
unfoldable pub part_at : ℕ → Caveat → CaveatAt
part_at at (exp n) = Exp n
part_at at (nbf n) = Nbf n
part_at at (aud a) = Aud (content_at at a)
part_at at (method ms) = Method (list_of (length ms) (from_to (at + length (head 4 (length ms))) (at + length (encode_methods ms))))
part_at at (path_prefix p) = PathPrefix (content_at at p)
part_at at (ip_cidr p) = IpCidr (net_of p)
part_at at (bytes_le n) = BytesLe n
part_at at (rate per-s burst) = Rate per-s burst
part_at at (tenant t) = Tenant (content_at at t)
part_at at (amnesia b) = Amnesia b
part_at at (gov_policy_digest d) = GovPolicyDigest (content_at at d)
part_at at (custom ns name value) =
    let a1 = at + length (head 5 3) in
    let a2 = a1 + length (entry "ns" (text ns)) in
    let a3 = a2 + length (text (ascii "cbor")) in
    let a4 = a3 + length (encode value) in
    let a5 = a4 + length (entry "name" (text name)) in
    Custom
    (custom_of (from_to (content_from (a1 + length (text (ascii "ns"))) ns) a2) (from_to a3 a4) (from_to (content_from (a4 + length (text (ascii "name"))) name) a5))

pub record Found (s : List ℕ) (at : ℕ) (c : Caveat) : Type 0 where
  pub answer : value_at s (index_of c) at ≡ Ok (part_at at c, at + length (v_of c))
  pub holds : Holds s c (part_at at c)

module _ (s rest : List ℕ) (at : ℕ) where
  abbrev Value-found : Caveat → Type 0
  Value-found c = drop at s ≡ v_of c ++ rest → Found s at c

  exp_written : (n : ℕ) → n < 2 ^ 64 → Value-found (exp n)
  unfolding v_of index_of part_at value_at
  exp_written n g e = record { answer = rw (number_written s rest at n 0xffffffffffffffff (omega arith) g e); holds = exp_is n }

  nbf_written : (n : ℕ) → n < 2 ^ 64 → Value-found (nbf n)
  unfolding v_of index_of part_at value_at
  nbf_written n g e = record { answer = rw (number_written s rest at n 0xffffffffffffffff (omega arith) g e); holds = nbf_is n }

  bytes_written : (n : ℕ) → n < 2 ^ 64 → Value-found (bytes_le n)
  unfolding v_of index_of part_at value_at
  bytes_written n g e = record { answer = rw (number_written s rest at n 0xffffffffffffffff (omega arith) g e); holds = bytes_is n }

  module _ (x : List ℕ) where
    abbrev part : Span
    part = content_at at x

    aud_written : GoodText Printable 1 128 x → Value-found (aud x)
    unfolding v_of index_of part_at value_at
    aud_written g e =
        let l = g.most in
        record { answer = rw (text_written Printable 1 128 x g (omega arith) s rest at e); holds = aud_is x part (text_held x (omega arith) s rest at e) }

    path_written : GoodText Path 1 256 x → Value-found (path_prefix x)
    unfolding v_of index_of part_at value_at
    path_written g e =
        let l = g.most in
        record { answer = rw (text_written Path 1 256 x g (omega arith) s rest at e); holds = path_is x part (text_held x (omega arith) s rest at e) }

    tenant_written : GoodName x → Value-found (tenant x)
    unfolding v_of index_of part_at value_at
    tenant_written g e =
        let l = g.most in
        record { answer = rw (text_written Name 1 64 x g (omega arith) s rest at e); holds = tenant_is x part (text_held x (omega arith) s rest at e) }

    digest_written : GoodText Hex 64 64 x → Value-found (gov_policy_digest x)
    unfolding v_of index_of part_at value_at digest_value
    digest_written g e =
        let l = g.most in
        record { answer = rw (text_written Hex 64 64 x g (omega arith) s rest at e); holds = digest_is x part (text_held x (omega arith) s rest at e) }

  method_written : (ms : List (List ℕ)) → GoodMethods ms → Value-found (method ms)
  unfolding v_of index_of part_at value_at method_value
  method_written ms g e =
      let list = list_of (length ms) (from_to (at + length (head 4 (length ms))) (at + length (encode_methods ms))) in
      record { answer = rw (methods_written ms g s rest at e); holds = method_is ms list refl (methods_lie ms s rest at e) }

  cidr_written : (p : Prefix) → GoodPrefix p → Value-found (ip_cidr p)
  unfolding v_of index_of part_at value_at cidr_value
  cidr_written p g e =
      let x = prefix_text p in
      let l : length x < 2 ^ 64 = omega (arith, cidr_short p) in
      let f = at + length (head 3 (length x)) in
      record {
        answer =
            rw (read_run_written s x rest at 3 e l 0 0xffffffffffffffff (omega arith) (omega arith), ends (head 3 (length x)) x at, text_held x l s rest at e, text_reads p g);
        holds = cidr_is p (net_of p) refl;
      }

  amnesia_written : (b : Bool) → Value-found (amnesia b)
  unfolding v_of index_of part_at value_at amnesia_value
  amnesia_written true e =
      let c = sym (count s at 7 20 21 Cbor (head_there s rest at 7 21 e (omega arith)) refl (omega arith) (omega arith)) in
      record { answer = rw c; holds = amnesia_is true }
  amnesia_written false e =
      let c = sym (count s at 7 20 21 Cbor (head_there s rest at 7 20 e (omega arith)) refl (omega arith) (omega arith)) in
      record { answer = rw c; holds = amnesia_is false }

  rate_written : (per-s burst : ℕ) → per-s < 2 ^ 32 → burst < 2 ^ 32 → Value-found (rate per-s burst)
  unfolding v_of index_of part_at value_at rate_value keys_of index_from
  rate_written per-s burst hp hb e =
      let h = head 5 2 in
      let x = entry "burst" (head 0 burst) in
      let y = entry "per_s" (head 0 per-s) in
      let d0 = e ∙ append_assoc h (x ++ y) rest in
      let a1 = at + length h in
      let d1 = past s h ((x ++ y) ++ rest) at d0 ∙ append_assoc x y rest in
      let a2 = a1 + length x in
      let d2 = past s x (y ++ rest) a1 d1 in
      let c = sym (count s at 5 2 2 Unknown (head_there s ((x ++ y) ++ rest) at 5 2 d0 (omega arith)) refl (omega arith) (omega arith)) in
      let p = number_field_written RateKeys 0 (ascii "burst") (omega arith) refl s (y ++ rest) a1 burst 0xffffffff (omega arith) (omega arith) d1 in
      let q = number_field_written RateKeys 1 (ascii "per_s") (omega arith) refl s rest a2 per-s 0xffffffff (omega arith) (omega arith) d2 in
      record { answer = rw (c, p, q) (ap (λ to. Ok (Rate per-s burst, to)) (ends x y a1 ∙ ends h (x ++ y) at)); holds = rate_is per-s burst }

  custom_written : (ns name : List ℕ) (value : Value) → GoodName ns → GoodName name → Good value 4 → Value-found (custom ns name value)
  unfolding v_of index_of part_at value_at custom_value keys_of index_from
  custom_written ns name value gs gn gv e =
      let h = head 5 3 in
      let x = entry "ns" (text ns) in
      let k = text (ascii "cbor") in
      let v = encode value in
      let z = entry "name" (text name) in
      let ls = gs.most in
      let ln = gn.most in
      let d0 : drop at s ≡ h ++ (x ++ (k ++ (v ++ (z ++ rest)))) = simp append_assoc (simp append_assoc at e) in
      let a1 = at + length h in
      let d1 = past s h (x ++ (k ++ (v ++ (z ++ rest)))) at d0 in
      let a2 = a1 + length x in
      let d2 = past s x (k ++ (v ++ (z ++ rest))) a1 d1 in
      let a3 = a2 + length k in
      let d3 = past s k (v ++ (z ++ rest)) a2 d2 in
      let a4 = a3 + length v in
      let d4 = past s v (z ++ rest) a3 d3 in
      let a5 = a4 + length z in
      let ks = text (ascii "ns") in
      let kn = text (ascii "name") in
      let f1 = a1 + length ks + length (head 3 (length ns)) in
      let f4 = a4 + length kn + length (head 3 (length name)) in
      let c = sym (count s at 5 3 3 Unknown (head_there s (x ++ (k ++ (v ++ (z ++ rest)))) at 5 3 d0 (omega arith)) refl (omega arith) (omega arith)) in
      let p = name_field_written CustomKeys 0 (ascii "ns") (omega arith) refl s (k ++ (v ++ (z ++ rest))) a1 ns gs d1 in
      let q = wanted_written CustomKeys (ascii "cbor") (omega arith) 1 refl s (v ++ (z ++ rest)) a2 d2 in
      let r = read_encoded value 4 gv s (z ++ rest) a3 d3 in
      let t = name_field_written CustomKeys 2 (ascii "name") (omega arith) refl s rest a4 name gn d4 in
      let parts = custom_of (from_to f1 a2) (from_to a3 a4) (from_to f4 a5) in
      record {
        answer = rw (c, p, q, r, t) (ap (λ to. Ok (Custom parts, to)) (simp length-append (omega arith)));
        holds =
            custom_is ns name value parts (name_lies s ks ns (k ++ (v ++ (z ++ rest))) a1 (omega arith) d1) (lies s v (z ++ rest) a3 d3)
            (name_lies s kn name rest a4 (omega arith) d4);
      }

pub value_written : (c : Caveat) → GoodCaveat c → (s rest : List ℕ) (at : ℕ) → drop at s ≡ v_of c ++ rest → Found s at c
unfolding GoodCaveat
value_written (exp n) g s rest at e = exp_written s rest at n g e
value_written (nbf n) g s rest at e = nbf_written s rest at n g e
value_written (aud a) g s rest at e = aud_written s rest at a g e
value_written (method ms) g s rest at e = method_written s rest at ms g e
value_written (path_prefix p) g s rest at e = path_written s rest at p g e
value_written (ip_cidr p) g s rest at e = cidr_written s rest at p g e
value_written (bytes_le n) g s rest at e = bytes_written s rest at n g e
value_written (rate per-s burst) g s rest at e = rate_written s rest at per-s burst g.0 g.1 e
value_written (tenant t) g s rest at e = tenant_written s rest at t g e
value_written (amnesia b) g s rest at e = amnesia_written s rest at b e
value_written (gov_policy_digest d) g s rest at e = digest_written s rest at d g e
value_written (custom ns name value) g s rest at e = custom_written s rest at ns name value g.0 g.1 g.2 e
