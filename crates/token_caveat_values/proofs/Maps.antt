-- A rate and a custom value are read as the one reading of maps has it, with their keys.
use Rattle.std.specs.Prelude.{Ok, Err}
use mathlib.Core.Path.{◌≡◌, refl, sym, ◌∙◌}
use mathlib.Core.List.{List, [], ◌∷◌}
use Prim.Native.Nat.{ℕ}
use native.Mathlib.Omega.{arith}
use Rattle.basis.specs.Basis.{from_to}
use Rattle.basis.specs.declared.Span.{Span}
use Rattle.cbor_heads.specs.Defects.{Reading, after}
use Rattle.cbor_heads.specs.declared.defect.Kind.TheVariants.{Unknown}
use Rattle.cbor_heads.specs.Counts.{read_count, number_up_to}
use Rattle.cbor_heads.proofs.CountLaws.{counted}
use Rattle.cbor_values.specs.Reading.{value_of}
use Rattle.cbor_keys.specs.Reading.{wanted_key}
use Rattle.cbor_keys.specs.Fields.{name_at, name_field, number_field}
use Rattle.cbor_keys.specs.ReadMap.{required, content_end, pair_end, required_of, entries_of}
use Rattle.cbor_keys.specs.declared.Names.TheVariants.{Rate as RateKeys, Custom as CustomKeys}
use Rattle.cbor_keys.proofs.MapLaws.{required_next, item_end, step_field}
use Rattle.token_caveat_values.specs.Maps.{rate_value, custom_of, custom_value}
use Rattle.token_caveat_values.specs.Fields.{rate_fields, read_rate, custom_fields, read_custom}
use Rattle.token_caveat_values.specs.declared.CaveatAt.{CaveatAt}
use Rattle.token_caveat_values.specs.declared.CaveatAt.TheVariants.{Rate, Custom}

-- what a value ends with
abbrev last : (CaveatAt × ℕ) → Reading ℕ
last (caveat, to) = Ok to

-- what is read behind each step, of a rate and of a custom value
module _ (s : List ℕ) where
  abbrev pub per_s_then : ℕ → ℕ → Reading (CaveatAt × ℕ)
  per_s_then burst at = after (λ (per-s, to). Ok (Rate per-s burst, to)) (number_field RateKeys s at 1 0xffffffff)

  abbrev pub burst_then : (ℕ × ℕ) → Reading (CaveatAt × ℕ)
  burst_then (n, at) = after (λ (burst, at). per_s_then burst at) (number_field RateKeys s at 0 0xffffffff)

  abbrev pub name_then : Span → ℕ → ℕ → Reading (CaveatAt × ℕ)
  name_then ns from to = after (λ name. Ok (Custom (custom_of ns (from_to from to) name), name.to)) (name_field CustomKeys s to 2)

  abbrev pub value_then : Span → ℕ → Reading (CaveatAt × ℕ)
  value_then ns from = after (name_then ns from) (value_of 4 s from)

  abbrev pub cbor_then : Span → Reading (CaveatAt × ℕ)
  cbor_then ns = after (value_then ns) (wanted_key CustomKeys s ns.to 1)

  abbrev pub ns_then : (ℕ × ℕ) → Reading (CaveatAt × ℕ)
  ns_then (n, at) = after cbor_then (name_field CustomKeys s at 0)

  -- a number and a name, as the fields of the one reading
  abbrev number : ℕ → Reading ℕ
  number at = pair_end (number_up_to 0xffffffff s at)

  abbrev name : ℕ → Reading ℕ
  name at = content_end (name_at s at)

module _ (s : List ℕ) (map : ℕ) where
  per_s_read : (before : List ℕ) (burst at : ℕ) → pair_end (per_s_then s burst at) ≡ entries_of RateKeys s map 1 1 (required (number s) ∷ []) before at
  unfolding entries_of required_of
  per_s_read before burst at =
      step_field last (λ n. n.1) (λ (per-s, to). Ok (Rate per-s burst, to)) (λ p. entries_of RateKeys s map 0 2 [] (p ∷ before)) (λ p n. refl)
      (number_up_to 0xffffffff s) (wanted_key RateKeys s at 1)
      ∙ sym (required_next RateKeys s map 0 1 (λ before. number s) [] before at)

  rate_entries : (n at : ℕ) → pair_end (burst_then s (n, at)) ≡ entries_of RateKeys s map 2 0 (rate_fields s) [] at
  rate_entries n at =
      step_field last (λ n. n.1) (λ (burst, at). per_s_then s burst at) (λ p. entries_of RateKeys s map 1 1 (required (number s) ∷ []) (p ∷ [])) (λ p n. per_s_read (p ∷ []) n.0 n.1)
      (number_up_to 0xffffffff s) (wanted_key RateKeys s at 0)
      ∙ sym (required_next RateKeys s map 1 0 (λ before. number s) (required (number s) ∷ []) [] at)

  pub rate_map_lem : pair_end (rate_value s map) ≡ read_rate s map
  unfolding rate_value required_of
  rate_map_lem = by (read_count s map 5 2 2 Unknown) refl
    where
      by : (x : Reading (ℕ × ℕ)) → read_count s map 5 2 2 Unknown ≡ x
          → pair_end (after (burst_then s) x) ≡ after (λ (n, at). entries_of RateKeys s map n 0 (rate_fields s) [] at) x
      by (Err d) e = refl
      by (Ok (n, at)) e = let c = counted s map 5 2 2 Unknown e in let z : n ≡ 2 = omega (arith, c.enough, c.few) in rw z (rate_entries 2 at)

  name_read : (before : List ℕ) (ns : Span) (from to : ℕ) → pair_end (name_then s ns from to) ≡ entries_of CustomKeys s map 1 2 (required (name s) ∷ []) before to
  unfolding entries_of required_of
  name_read before ns from to =
      step_field last (λ part. part.to) (λ name. Ok (Custom (custom_of ns (from_to from to) name), name.to)) (λ p. entries_of CustomKeys s map 0 3 [] (p ∷ before)) (λ p part. refl)
      (name_at s) (wanted_key CustomKeys s to 2)
      ∙ sym (required_next CustomKeys s map 0 2 (λ before. name s) [] before to)

  value_read : (before : List ℕ) (ns : Span)
      → pair_end (cbor_then s ns) ≡ entries_of CustomKeys s map 2 1 (required (value_of 4 s) ∷ required (name s) ∷ []) before ns.to
  value_read before ns =
      item_end last (value_then s ns) (λ p. after (entries_of CustomKeys s map 1 2 (required (name s) ∷ []) (p ∷ before)) (value_of 4 s p))
      (λ p. item_end last (name_then s ns p) (entries_of CustomKeys s map 1 2 (required (name s) ∷ []) (p ∷ before)) (name_read (p ∷ before) ns p) (value_of 4 s p))
      (wanted_key CustomKeys s ns.to 1)
      ∙ sym (required_next CustomKeys s map 1 1 (λ before. value_of 4 s) (required (name s) ∷ []) before ns.to)

  custom_entries : (n at : ℕ) → pair_end (ns_then s (n, at)) ≡ entries_of CustomKeys s map 3 0 (custom_fields s) [] at
  custom_entries n at =
      step_field last (λ part. part.to) (cbor_then s) (λ p. entries_of CustomKeys s map 2 1 (required (value_of 4 s) ∷ required (name s) ∷ []) (p ∷ []))
      (λ p ns. value_read (p ∷ []) ns) (name_at s) (wanted_key CustomKeys s at 0)
      ∙ sym (required_next CustomKeys s map 2 0 (λ before. name s) (required (value_of 4 s) ∷ required (name s) ∷ []) [] at)

  pub custom_map_lem : pair_end (custom_value s map) ≡ read_custom s map
  unfolding custom_value required_of
  custom_map_lem = by (read_count s map 5 3 3 Unknown) refl
    where
      by : (x : Reading (ℕ × ℕ)) → read_count s map 5 3 3 Unknown ≡ x
          → pair_end (after (ns_then s) x) ≡ after (λ (n, at). entries_of CustomKeys s map n 0 (custom_fields s) [] at) x
      by (Err d) e = refl
      by (Ok (n, at)) e = let c = counted s map 5 3 3 Unknown e in let z : n ≡ 3 = omega (arith, c.enough, c.few) in rw z (custom_entries 3 at)
