-- A caveat is read as the one reading of maps has it, with its keys.
use Rattle.std.specs.Prelude.{Ok, Err}
use mathlib.Core.Path.{◌≡◌, refl, sym, ap, ◌∙◌}
use mathlib.Core.Bool.{Bool, true, false}
use mathlib.Core.List.{List, [], ◌∷◌}
use Prim.Native.Nat.{ℕ}
use native.Mathlib.Omega.{arith}
use lib.Dec.{eqb}
use Rattle.basis.specs.Basis.{pick}
use Rattle.basis.specs.declared.Span.{Span}
use Rattle.cbor_heads.specs.Defects.{Reading, after}
use Rattle.cbor_heads.specs.declared.defect.Defect.{Defect}
use Rattle.cbor_heads.specs.declared.defect.Kind.TheVariants.{Unknown}
use Rattle.cbor_heads.specs.Counts.{read_count, number_up_to}
use Rattle.cbor_heads.proofs.CountLaws.{counted}
use Rattle.cbor_strings.specs.Reading.{read_string}
use Rattle.cbor_strings.specs.declared.Class.{Class}
use Rattle.cbor_strings.specs.declared.Class.TheVariants.{Name, Printable, Path}
use Rattle.cbor_keys.specs.Reading.{key_at, wanted_key}
use Rattle.cbor_keys.specs.ReadMap.{Field, content_end, pair_end, required_of, entries_of}
use Rattle.cbor_keys.specs.declared.Names.TheVariants.{Caveat, T}
use Rattle.cbor_keys.proofs.MapLaws.{required_next, item_end}
use Rattle.token_caveat_values.specs.declared.CaveatAt.{CaveatAt}
use Rattle.token_caveat_values.specs.declared.CaveatAt.TheVariants.{Exp, Nbf, BytesLe, Aud, PathPrefix, Tenant}
use Rattle.token_caveat_values.proofs.Maps.{rate_map_lem, custom_map_lem}
use Rattle.token_caveat_values.proofs.Ends.{made_ends, digest_ends, method_ends, cidr_ends, flag_ends}
use Rattle.token_caveat.specs.Reading.{caveat_of}
use Rattle.token_caveat.specs.Values.{number_value, text_value, value_at}
use Rattle.token_caveat.specs.Fields.{read_v, v_at, caveat_fields, read_caveat}

-- what a caveat ends with
abbrev last : (CaveatAt × ℕ) → Reading ℕ
last (caveat, to) = Ok to

-- what is read behind each step
module _ (s : List ℕ) where
  abbrev pub v_then : (ℕ × ℕ) → Reading (CaveatAt × ℕ)
  v_then (t, at) = after (value_at s t) (wanted_key Caveat s at 1)

  abbrev pub t_then : ℕ → Reading (CaveatAt × ℕ)
  t_then at = after v_then (key_at T s at)

  abbrev pub entries_then : (ℕ × ℕ) → Reading (CaveatAt × ℕ)
  entries_then (n, at) = after t_then (wanted_key Caveat s at 0)

-- a value that was read, and where it ends
record Ends (value : Reading (CaveatAt × ℕ)) (end : Reading ℕ) : Type 0 where
  pub there : pair_end value ≡ end

picked : (b : Bool) {x y : Reading (CaveatAt × ℕ)} {p q : Reading ℕ} → Ends x p → Ends y q → Ends (pick b x y) (pick b p q)
picked true e f = e
picked false e f = f

module _ (s : List ℕ) where
  pub number_ends : (make : ℕ → CaveatAt) (at : ℕ) → pair_end (number_value make s at) ≡ pair_end (number_up_to 0xffffffffffffffff s at)
  number_ends make at = made_ends (λ (n, to). Ok (make n, to)) (λ (n, to). Ok to) (λ n. refl) (number_up_to 0xffffffffffffffff s at)

  pub text_ends : (make : Span → CaveatAt) (class : Class) (high at : ℕ) → pair_end (text_value make class high s at) ≡ content_end (read_string s at class 1 high)
  text_ends make class high at = made_ends (λ part. Ok (make part, part.to)) (λ part. Ok part.to) (λ part. refl) (read_string s at class 1 high)

  each_ends : (t at : ℕ) → Ends (value_at s t at) (read_v s t at)
  unfolding value_at read_v
  each_ends t at =
      picked (eqb t 0) (record { there = number_ends Exp at })
      (picked (eqb t 1) (record { there = number_ends Nbf at })
      (picked (eqb t 2) (record { there = text_ends Aud Printable 128 at })
      (picked (eqb t 3) (record { there = method_ends s at })
      (picked (eqb t 4) (record { there = text_ends PathPrefix Path 256 at })
      (picked (eqb t 5) (record { there = cidr_ends s at })
      (picked (eqb t 6) (record { there = number_ends BytesLe at })
      (picked (eqb t 7) (record { there = rate_map_lem s at })
      (picked (eqb t 8) (record { there = text_ends Tenant Name 64 at })
      (picked (eqb t 9) (record { there = flag_ends s at })
      (picked (eqb t 10) (record { there = digest_ends s at })
      (picked (eqb t 11) (record { there = custom_map_lem s at }) (record { there = refl }))))))))))))

  pub value_ends : (t at : ℕ) → pair_end (value_at s t at) ≡ read_v s t at
  value_ends t at = (each_ends t at).there

  abbrev v_fields : List Field
  v_fields = record { required = true; value = v_at s } ∷ []

  whole : (before : List ℕ) (x : Reading (CaveatAt × ℕ)) → pair_end x ≡ after (entries_of Caveat s 0 0 2 [] before) (pair_end x)
  unfolding entries_of required_of
  whole before (Err d) = refl
  whole before (Ok (part, next)) = refl

  -- behind a t at p that is known
  v_read : (p index next : ℕ) → key_at T s p ≡ Ok (index, next) → pair_end (v_then s (index, next)) ≡ entries_of Caveat s 0 1 1 v_fields (p ∷ []) next
  v_read p index next e =
      item_end last (value_at s index) (λ at. after (entries_of Caveat s 0 0 2 [] (at ∷ p ∷ [])) (v_at s (p ∷ []) at))
      (λ at. rw (e, ← (value_ends index at)) (whole (at ∷ p ∷ []) (value_at s index at))) (wanted_key Caveat s next 1)
      ∙ sym (required_next Caveat s 0 0 1 (v_at s) [] (p ∷ []) next)

  t_read : (p : ℕ) → pair_end (t_then s p) ≡ after (entries_of Caveat s 0 1 1 v_fields (p ∷ [])) (pair_end (key_at T s p))
  t_read p = by (key_at T s p) refl
    where
      by : (key : Reading (ℕ × ℕ)) → key_at T s p ≡ key → pair_end (after (v_then s) key) ≡ after (entries_of Caveat s 0 1 1 v_fields (p ∷ [])) (pair_end key)
      by (Err d) e = refl
      by (Ok (index, next)) e = v_read p index next e

  caveat_entries : (n at : ℕ) → pair_end (entries_then s (n, at)) ≡ entries_of Caveat s 0 2 0 (caveat_fields s) [] at
  caveat_entries n at =
      item_end last (t_then s) (λ p. after (entries_of Caveat s 0 1 1 v_fields (p ∷ [])) (pair_end (key_at T s p))) t_read (wanted_key Caveat s at 0)
      ∙ sym (required_next Caveat s 0 1 0 (λ before p. pair_end (key_at T s p)) v_fields [] at)

  pub caveat_map_lem : pair_end (caveat_of s) ≡ read_caveat s
  unfolding caveat_of required_of
  caveat_map_lem = by (read_count s 0 5 2 2 Unknown) refl
    where
      by : (x : Reading (ℕ × ℕ)) → read_count s 0 5 2 2 Unknown ≡ x
          → pair_end (after (entries_then s) x) ≡ after (λ (n, at). entries_of Caveat s 0 n 0 (caveat_fields s) [] at) x
      by (Err d) e = refl
      by (Ok (n, at)) e = let c = counted s 0 5 2 2 Unknown e in let z : n ≡ 2 = omega (arith, c.enough, c.few) in rw z (caveat_entries 2 at)

-- so a caveat's defect is that of the one reading, kind and place, and the other way round
module _ (s : List ℕ) {d : Defect} where
  pub caveat_defect : caveat_of s ≡ Err d → read_caveat s ≡ Err d
  caveat_defect e = sym (caveat_map_lem s) ∙ ap pair_end e

  pub defect_caveat : read_caveat s ≡ Err d → caveat_of s ≡ Err d
  defect_caveat h = by (caveat_of s) (caveat_map_lem s ∙ h)
    where
      by : (x : Reading (CaveatAt × ℕ)) → pair_end x ≡ Err d → x ≡ Err d
      by (Err found) e = let p : found ≡ d = cc in rw p
      by (Ok (part, next)) e = cc
