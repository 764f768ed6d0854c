-- The value of a caveat ends where its reading does, whatever caveat is made of it.
use Rattle.std.specs.Prelude.{Ok, Err}
use mathlib.Core.Path.{◌≡◌, refl, ◌∙◌}
use mathlib.Core.List.{List}
use Prim.Native.Nat.{ℕ}
use lib.Dec.{eqb}
use Rattle.cbor_heads.specs.Defects.{Reading, after}
use Rattle.cbor_heads.specs.declared.defect.Kind.TheVariants.{Cbor}
use Rattle.cbor_heads.specs.Majors.{text_string, simple}
use Rattle.cbor_heads.specs.Counts.{read_count}
use Rattle.cbor_strings.specs.Reading.{read_run}
use Rattle.cbor_keys.specs.ReadMap.{pair_end}
use Rattle.token_scope.specs.Methods.{methods_of}
use Rattle.token_scope.specs.Fields.{read_methods}
use Rattle.token_scope.proofs.ScopeMap.{methods_list}
use Rattle.token_caveat_values.specs.Fields.{digest_at, read_digest, network_in, read_cidr, read_flag}
use Rattle.token_caveat_values.specs.Values.{digest_value, method_value, cidr_value, amnesia_value}
use Rattle.token_caveat_values.specs.declared.CaveatAt.{CaveatAt}
use Rattle.token_caveat_values.specs.declared.CaveatAt.TheVariants.{Method, IpCidr, Amnesia, GovPolicyDigest}

-- a value that is made of what was read ends where that does
pub made_ends : {A : Type 0} (made : A → Reading (CaveatAt × ℕ)) (told : A → Reading ℕ) → ((a : A) → pair_end (made a) ≡ told a) → (x : Reading A)
    → pair_end (after made x) ≡ after told x
made_ends made told h (Err d) = refl
made_ends made told h (Ok a) = h a

module _ (s : List ℕ) (at : ℕ) where
  pub digest_ends : pair_end (digest_value s at) ≡ read_digest s at
  unfolding digest_value
  digest_ends = made_ends (λ part. Ok (GovPolicyDigest part, part.to)) (λ part. Ok part.to) (λ part. refl) (digest_at s at)

  pub method_ends : pair_end (method_value s at) ≡ read_methods s at
  unfolding method_value
  method_ends =
      made_ends (λ methods. Ok (Method methods, methods.span.to)) (λ methods. Ok methods.span.to) (λ methods. refl) (methods_of s at) ∙ methods_list s at

  pub cidr_ends : pair_end (cidr_value s at) ≡ read_cidr s at
  unfolding cidr_value
  cidr_ends =
      made_ends (λ part. after (λ network. Ok (IpCidr network, part.to)) (network_in s part)) (λ part. after (λ network. Ok part.to) (network_in s part))
      (λ part. made_ends (λ network. Ok (IpCidr network, part.to)) (λ network. Ok part.to) (λ network. refl) (network_in s part))
      (read_run s at text_string 0 0xffffffffffffffff)

  pub flag_ends : pair_end (amnesia_value s at) ≡ read_flag s at
  unfolding amnesia_value
  flag_ends = made_ends (λ (n, to). Ok (Amnesia (eqb n 21), to)) (λ (n, to). Ok to) (λ n. refl) (read_count s at simple 20 21 Cbor)
