-- Reading. Need not be believed: each ends where its reading in Fields does (the laws of proofs/Ends.antt), and the laws fix its parts. The
-- value of a caveat as it lies, by its kind: the item is read, and the caveat made of it.
use Rattle.std.specs.Prelude.{Ok, List, ℕ, eqb}
use Rattle.basis.specs.Limits.{number_most}
use Rattle.cbor_heads.specs.Defects.{◌>>=◌, Reading, after}
use Rattle.cbor_heads.specs.declared.defect.Kind.TheVariants.{Cbor}
use Rattle.cbor_heads.specs.Majors.{text_string, simple, simple_false, simple_true}
use Rattle.cbor_heads.specs.Counts.{read_count}
use Rattle.cbor_strings.specs.Reading.{read_run}
use Rattle.token_scope.specs.Methods.{methods_of}
use Rattle.token_caveat_values.specs.Fields.{digest_at, network_in}
use Rattle.token_caveat_values.specs.declared.CaveatAt.{CaveatAt}
use Rattle.token_caveat_values.specs.declared.CaveatAt.TheVariants.{Method, IpCidr, Amnesia, GovPolicyDigest}

unfoldable pub digest_value : List ℕ → ℕ → Reading (CaveatAt × ℕ)
digest_value s at = do
  part ← digest_at s at
  Ok (GovPolicyDigest part, part.to)

unfoldable pub method_value : List ℕ → ℕ → Reading (CaveatAt × ℕ)
method_value s at = do
  methods ← methods_of s at
  Ok (Method methods, methods.span.to)

unfoldable pub cidr_value : List ℕ → ℕ → Reading (CaveatAt × ℕ)
cidr_value s at = do
  part ← read_run s at text_string 0 number_most
  network ← network_in s part
  Ok (IpCidr network, part.to)

unfoldable pub amnesia_value : List ℕ → ℕ → Reading (CaveatAt × ℕ)
amnesia_value s at = do
  (n, to) ← read_count s at simple simple_false simple_true Cbor
  Ok (Amnesia (eqb n simple_true), to)
