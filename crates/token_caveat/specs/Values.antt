-- Reading. Need not be believed: it ends where `read_v` does (`value_ends`), and the laws fix its parts. The value of v as it lies, as its t
-- says.
use Rattle.std.specs.Prelude.{List, ℕ, eqb, Ok}
use Rattle.basis.specs.Basis.{pick}
use Rattle.basis.specs.Limits.{aud_most, path_most, name_most, number_most}
use Rattle.basis.specs.declared.Span.{Span}
use Rattle.cbor_heads.specs.Defects.{◌>>=◌, Reading, bad}
use Rattle.cbor_heads.specs.declared.defect.Kind.TheVariants.{Unknown}
use Rattle.cbor_heads.specs.Counts.{number_up_to}
use Rattle.cbor_strings.specs.Reading.{read_string}
use Rattle.cbor_strings.specs.declared.Class.{Class}
use Rattle.cbor_strings.specs.declared.Class.TheVariants.{Name, Printable, Path}
use Rattle.cbor_keys.specs.Indexes.{t_exp, t_nbf, t_aud, t_method, t_path_prefix, t_ip_cidr, t_bytes_le, t_rate, t_tenant, t_amnesia, t_gov_policy_digest, t_custom}
use Rattle.token_caveat_values.specs.Values.{digest_value, method_value, cidr_value, amnesia_value}
use Rattle.token_caveat_values.specs.Maps.{rate_value, custom_value}
use Rattle.token_caveat_values.specs.declared.CaveatAt.{CaveatAt}
use Rattle.token_caveat_values.specs.declared.CaveatAt.TheVariants.{Exp, Nbf, BytesLe, Aud, PathPrefix, Tenant}

-- exp, nbf, bytes_le: "any unsigned 64-bit number"; `make` is the caveat of such a number
abbrev pub number_value : (ℕ → CaveatAt) → List ℕ → ℕ → Reading (CaveatAt × ℕ)
number_value make s at = do
  (n, to) ← number_up_to number_most s at
  Ok (make n, to)

-- aud, path_prefix, tenant: 1 to `high` bytes of their class; `make` is the caveat of such a text
abbrev pub text_value : (Span → CaveatAt) → Class → ℕ → List ℕ → ℕ → Reading (CaveatAt × ℕ)
text_value make class high s at = do
  part ← read_string s at class 1 high
  Ok (make part, part.to)

-- the value of each t, in the order of its names; no name has another index
unfoldable pub value_at : List ℕ → ℕ → ℕ → Reading (CaveatAt × ℕ)
value_at s t at =
    pick (eqb t t_exp) (number_value Exp s at)
    (pick (eqb t t_nbf) (number_value Nbf s at)
    (pick (eqb t t_aud) (text_value Aud Printable aud_most s at)
    (pick (eqb t t_method) (method_value s at)
    (pick (eqb t t_path_prefix) (text_value PathPrefix Path path_most s at)
    (pick (eqb t t_ip_cidr) (cidr_value s at)
    (pick (eqb t t_bytes_le) (number_value BytesLe s at)
    (pick (eqb t t_rate) (rate_value s at)
    (pick (eqb t t_tenant) (text_value Tenant Name name_most s at)
    (pick (eqb t t_amnesia) (amnesia_value s at)
    (pick (eqb t t_gov_policy_digest) (digest_value s at)
    (pick (eqb t t_custom) (custom_value s at)
    (bad Unknown at))))))))))))
