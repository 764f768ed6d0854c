-- Every place that the reading of a caveat answers, where it ends and where a defect is, lies inside the slice: step by step, by
-- Inside of `cbor_keys`.
use Rattle.std.specs.Prelude.{Option, Some, None, Ok, Err, ok_or}
use mathlib.Core.List.{List}
use Prim.Native.Nat.{ℕ, ◌≤◌}
use native.Mathlib.Omega.{arith}
use lib.Dec.{eqb}
use lib.ListN.{length}
use Rattle.basis.specs.Basis.{from_to, between}
use Rattle.basis.specs.declared.Span.{Span}
use Rattle.basis.proofs.Picks.{either}
use Rattle.cbor_heads.specs.Defects.{Reading, defect, bad, after}
use Rattle.cbor_heads.specs.declared.defect.Kind.TheVariants.{Cbor, Bounds, Unknown}
use Rattle.cbor_heads.specs.Counts.{read_count, number_up_to}
use Rattle.cbor_strings.specs.Reading.{read_run, read_string}
use Rattle.cbor_strings.specs.declared.Class.{Class}
use Rattle.cbor_strings.specs.declared.Class.TheVariants.{Name, Printable, Path, Hex}
use Rattle.cbor_strings.proofs.Inside.{ReadIn, PairIn, ContentIn, count_in, run_in, string_in, step_in}
use Rattle.cbor_values.specs.Reading.{value_of}
use Rattle.cbor_values.proofs.Inside.{value_in}
use Rattle.cbor_keys.specs.Reading.{key_at, wanted_key}
use Rattle.cbor_keys.specs.Fields.{name_field, number_field}
use Rattle.cbor_keys.specs.declared.Names.TheVariants.{Caveat as CaveatKeys, T, Rate as RateKeys, Custom as CustomKeys}
use Rattle.cbor_keys.specs.Indexes.{t_exp, t_nbf, t_aud, t_method, t_path_prefix, t_ip_cidr, t_bytes_le, t_rate, t_tenant, t_amnesia, t_gov_policy_digest, t_custom}
use Rattle.cbor_keys.proofs.Inside.{key_in, wanted_in, name_field_in, number_field_in}
use Rattle.token_cidr.specs.Reading.{cidr_of}
use Rattle.token_cidr.specs.declared.Network.{Network}
use Rattle.token_scope.specs.Methods.{methods_of}
use Rattle.token_scope.proofs.Inside.{methods_in}
use Rattle.token_caveat_values.specs.Fields.{digest_by, network_in}
use Rattle.token_caveat_values.specs.Values.{digest_value, method_value, cidr_value, amnesia_value}
use Rattle.token_caveat_values.specs.Maps.{rate_value, custom_of, custom_value}
use Rattle.token_caveat_values.specs.declared.CaveatAt.{CaveatAt}
use Rattle.token_caveat_values.specs.declared.CaveatAt.TheVariants.{Exp, Nbf, Aud, Method, PathPrefix, IpCidr, BytesLe, Rate, Tenant, Amnesia, GovPolicyDigest, Custom}
use Rattle.token_caveat_values.proofs.Maps.{per_s_then, burst_then, name_then, value_then, cbor_then, ns_then}
use Rattle.token_caveat.specs.Reading.{caveat_of}
use Rattle.token_caveat.proofs.CaveatMap.{v_then, t_then, entries_then}
use Rattle.token_caveat.specs.Values.{number_value, text_value, value_at}

-- what holds of every value's reading, and of an unknown t's defect, holds of the one that t picks
pub value_ways : (P : Reading (CaveatAt × ℕ) → Type 0) (s : List ℕ) (t at : ℕ) → ((make : ℕ → CaveatAt) → P (number_value make s at))
    → ((make : Span → CaveatAt) (class : Class) (high : ℕ) → P (text_value make class high s at)) → P (method_value s at) → P (cidr_value s at) → P (rate_value s at)
    → P (amnesia_value s at) → P (digest_value s at) → P (custom_value s at) → P (bad Unknown at) → P (value_at s t at)
unfolding value_at
value_ways P s t at number text method cidr rate amnesia digest custom unknown =
    either P (eqb t t_exp) (number Exp)
    (either P (eqb t t_nbf) (number Nbf)
    (either P (eqb t t_aud) (text Aud Printable 128)
    (either P (eqb t t_method) method
    (either P (eqb t t_path_prefix) (text PathPrefix Path 256)
    (either P (eqb t t_ip_cidr) cidr
    (either P (eqb t t_bytes_le) (number BytesLe)
    (either P (eqb t t_rate) rate
    (either P (eqb t t_tenant) (text Tenant Name 64)
    (either P (eqb t t_amnesia) amnesia
    (either P (eqb t t_gov_policy_digest) digest
    (either P (eqb t t_custom) custom
    unknown)))))))))))

module _ (s : List ℕ) where
  abbrev size : ℕ
  size = length s

  abbrev In : Reading (CaveatAt × ℕ) → Type 0
  In = PairIn size

  -- a step that found a place, a number, a string: what is behind it is inside where that is
  place_step : (rest : ℕ → Reading (CaveatAt × ℕ)) → ((at : ℕ) → at ≤ size → In (rest at)) → (x : Reading ℕ) → ReadIn size (λ at. at ≤ size) x → In (after rest x)
  place_step = step_in In size (λ d g. g) (λ at. at ≤ size)

  pair_step : (rest : (ℕ × ℕ) → Reading (CaveatAt × ℕ)) → ((n : ℕ × ℕ) → n.1 ≤ size → In (rest n)) → (x : Reading (ℕ × ℕ)) → PairIn size x → In (after rest x)
  pair_step = step_in In size (λ d g. g) (λ n. n.1 ≤ size)

  text_step : (rest : Span → Reading (CaveatAt × ℕ)) → ((part : Span) → (part.from ≤ size) × (part.to ≤ size) → In (rest part)) → (x : Reading Span) → ContentIn size x
      → In (after rest x)
  text_step = step_in In size (λ d g. g) (λ part. (part.from ≤ size) × (part.to ≤ size))

  number_value_in : (make : ℕ → CaveatAt) (at : ℕ) → at ≤ size → In (number_value make s at)
  number_value_in make at h = pair_step (λ (n, to). Ok (make n, to)) (λ n g. g) (number_up_to 0xffffffffffffffff s at) (count_in s at 0 0 0xffffffffffffffff Bounds h)

  text_value_in : (make : Span → CaveatAt) (class : Class) (high at : ℕ) → at ≤ size → In (text_value make class high s at)
  text_value_in make class high at h = text_step (λ part. Ok (make part, part.to)) (λ part g. g.1) (read_string s at class 1 high) (string_in s at class 1 high h)

  digest_value_in : (at : ℕ) → at ≤ size → In (digest_value s at)
  unfolding digest_value
  digest_value_in at h = by (read_string s at Hex 64 64) (string_in s at Hex 64 64 h)
    where
      by : (x : Reading Span) → ContentIn size x → In (after (λ part. Ok (GovPolicyDigest part, part.to)) (digest_by x))
      by (Err d) g = g
      by (Ok part) g = g.1

  method_value_in : (at : ℕ) → at ≤ size → In (method_value s at)
  unfolding method_value
  method_value_in at h =
      step_in In size (λ d g. g) (λ list. (list.span.from ≤ size) × (list.span.to ≤ size)) (λ methods. Ok (Method methods, methods.span.to)) (λ list g. g.1)
      (methods_of s at) (methods_in s at h)

  cidr_value_in : (at : ℕ) → at ≤ size → In (cidr_value s at)
  unfolding cidr_value
  cidr_value_in at h =
      text_step (λ part. after (λ network. Ok (IpCidr network, part.to)) (network_in s part)) (λ part g. by part g (cidr_of (between s part)))
      (read_run s at 3 0 0xffffffffffffffff) (run_in s at 3 0 0xffffffffffffffff h)
    where
      by : (part : Span) → (part.from ≤ size) × (part.to ≤ size) → (x : Option Network)
          → In (after (λ network. Ok (IpCidr network, part.to)) (ok_or x (defect Cbor part.from)))
      by part g None = g.0
      by part g (Some network) = g.1

  amnesia_value_in : (at : ℕ) → at ≤ size → In (amnesia_value s at)
  unfolding amnesia_value
  amnesia_value_in at h = pair_step (λ (n, to). Ok (Amnesia (eqb n 21), to)) (λ n g. g) (read_count s at 7 20 21 Cbor) (count_in s at 7 20 21 Cbor h)

  per_s_in : (burst at : ℕ) → at ≤ size → In (per_s_then s burst at)
  per_s_in burst at h =
      pair_step (λ (per-s, to). Ok (Rate per-s burst, to)) (λ n g. g) (number_field RateKeys s at 1 0xffffffff) (number_field_in RateKeys s at 1 0xffffffff h)

  burst_in : (n : ℕ × ℕ) → n.1 ≤ size → In (burst_then s n)
  burst_in (n, at) h =
      pair_step (λ (burst, at). per_s_then s burst at) (λ (burst, at) g. per_s_in burst at g) (number_field RateKeys s at 0 0xffffffff) (number_field_in RateKeys s at 0 0xffffffff h)

  rate_value_in : (at : ℕ) → at ≤ size → In (rate_value s at)
  unfolding rate_value
  rate_value_in at h = pair_step (burst_then s) burst_in (read_count s at 5 2 2 Unknown) (count_in s at 5 2 2 Unknown h)

  name_in : (ns : Span) (from to : ℕ) → to ≤ size → In (name_then s ns from to)
  name_in ns from to h =
      text_step (λ name. Ok (Custom (custom_of ns (from_to from to) name), name.to)) (λ part g. g.1) (name_field CustomKeys s to 2) (name_field_in CustomKeys s to 2 h)

  cbor_in : (ns : Span) → (ns.from ≤ size) × (ns.to ≤ size) → In (cbor_then s ns)
  cbor_in ns h =
      place_step (value_then s ns) (λ from g. place_step (name_then s ns from) (name_in ns from) (value_of 4 s from) (value_in 4 s from g))
      (wanted_key CustomKeys s ns.to 1) (wanted_in CustomKeys s ns.to 1 h.1)

  ns_in : (n : ℕ × ℕ) → n.1 ≤ size → In (ns_then s n)
  ns_in (n, at) h = text_step (cbor_then s) cbor_in (name_field CustomKeys s at 0) (name_field_in CustomKeys s at 0 h)

  custom_value_in : (at : ℕ) → at ≤ size → In (custom_value s at)
  unfolding custom_value
  custom_value_in at h = pair_step (ns_then s) ns_in (read_count s at 5 3 3 Unknown) (count_in s at 5 3 3 Unknown h)

  value_at_in : (t at : ℕ) → at ≤ size → In (value_at s t at)
  value_at_in t at h =
      value_ways In s t at (λ make. number_value_in make at h) (λ make class high. text_value_in make class high at h) (method_value_in at h) (cidr_value_in at h)
      (rate_value_in at h) (amnesia_value_in at h) (digest_value_in at h) (custom_value_in at h) h

  v_in : (t : ℕ × ℕ) → t.1 ≤ size → In (v_then s t)
  v_in (t, at) h = place_step (value_at s t) (value_at_in t) (wanted_key CaveatKeys s at 1) (wanted_in CaveatKeys s at 1 h)

  t_in : (at : ℕ) → at ≤ size → In (t_then s at)
  t_in at h = pair_step (v_then s) v_in (key_at T s at) (key_in T s at h)

  pub caveat_in : PairIn (length s) (caveat_of s)
  unfolding caveat_of
  caveat_in =
      pair_step (entries_then s) (λ (n, at) g. place_step (t_then s) t_in (wanted_key CaveatKeys s at 0) (wanted_in CaveatKeys s at 0 g))
      (read_count s 0 5 2 2 Unknown) (count_in s 0 5 2 2 Unknown (omega arith))
