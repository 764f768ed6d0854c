-- Inner. For the host tests alone: what the readers of scopes, caveats and tokens say, as a number of the answer list and ten more, so
-- that a test in another language can compare them with its own. Numbers without a meaning are 0.
use Rattle.std.specs.Prelude.{Bool, true, false, List, [], ◌∷◌, ℕ, Option, Some, None, Ok, Err}
use Rattle.std.specs.Int.{w32, from_be_bytes}
use Rattle.cbor_heads.specs.Defects.{Reading, kind_number}
use Rattle.cbor_heads.specs.declared.defect.Defect.{Defect}
use Rattle.token.specs.declared.TokenAt.{TokenAt}
use Rattle.token_scope.specs.declared.ScopeAt.{ScopeAt}
use Rattle.basis.specs.Basis.{from_to}
use Rattle.basis.specs.declared.Span.{Span}
use Rattle.cbor_values.specs.declared.ListAt.{ListAt}
use Rattle.cbor_keys.specs.Indexes.{t_exp, t_nbf, t_aud, t_method, t_path_prefix, t_ip_cidr, t_bytes_le, t_rate, t_tenant, t_amnesia, t_gov_policy_digest, t_custom}
use Rattle.token_caveat_values.specs.declared.CaveatAt.{CaveatAt}
use Rattle.token_caveat_values.specs.declared.CaveatAt.TheVariants.{Exp, Nbf, Aud, Method, PathPrefix, IpCidr, BytesLe, Rate, Tenant, Amnesia, GovPolicyDigest, Custom}
use Rattle.probe_parts.specs.declared.Parts.{Parts}

-- what was read well
abbrev pub told : List ℕ → Parts
told n = record { kind = 0; numbers = n }

abbrev pub refused : Defect → Parts
refused d = record { kind = kind_number d.kind; numbers = d.at ∷ 0 ∷ 0 ∷ 0 ∷ 0 ∷ 0 ∷ 0 ∷ 0 ∷ 0 ∷ 0 ∷ [] }

abbrev pub limit_probe : Span → ListAt → Option ℕ → ℕ → Parts
limit_probe p m None next = told (p.from ∷ p.to ∷ m.count ∷ m.span.from ∷ m.span.to ∷ 0 ∷ 0 ∷ next ∷ 0 ∷ 0 ∷ [])
limit_probe p m (Some n) next = told (p.from ∷ p.to ∷ m.count ∷ m.span.from ∷ m.span.to ∷ 1 ∷ n ∷ next ∷ 0 ∷ 0 ∷ [])

-- where a prefix lies; that of none counts as nothing at the beginning
abbrev pub prefix_of : Option Span → Span
prefix_of None = from_to 0 0
prefix_of (Some part) = part

abbrev pub scope_probe : Reading (ScopeAt × ℕ) → Parts
scope_probe (Err d) = refused d
scope_probe (Ok (scope, next)) = limit_probe (prefix_of scope.prefix) scope.methods scope.max_bytes next

abbrev pub bit_of : Bool → ℕ
bit_of true = 1
bit_of false = 0

-- what a caveat of a length demands: which it is, by the place of its t among the names, and up to three numbers
abbrev pub demand_of : ℕ → ℕ → ℕ → ℕ → ℕ → Parts
demand_of t a b c next = told (t ∷ a ∷ b ∷ c ∷ 0 ∷ 0 ∷ 0 ∷ 0 ∷ 0 ∷ next ∷ [])

abbrev pub demand_probe : CaveatAt → ℕ → Parts
demand_probe (Exp n) next = demand_of t_exp n 0 0 next
demand_probe (Nbf n) next = demand_of t_nbf n 0 0 next
demand_probe (Aud p) next = demand_of t_aud p.from p.to 0 next
demand_probe (Method m) next = demand_of t_method m.count m.span.from m.span.to next
demand_probe (PathPrefix p) next = demand_of t_path_prefix p.from p.to 0 next
demand_probe (IpCidr w) next = demand_of t_ip_cidr (from_be_bytes w32 w.address) w.size 0 next
demand_probe (BytesLe n) next = demand_of t_bytes_le n 0 0 next
demand_probe (Rate per-s burst) next = demand_of t_rate per-s burst 0 next
demand_probe (Tenant p) next = demand_of t_tenant p.from p.to 0 next
demand_probe (Amnesia on) next = demand_of t_amnesia (bit_of on) 0 0 next
demand_probe (GovPolicyDigest p) next = demand_of t_gov_policy_digest p.from p.to 0 next
demand_probe (Custom c) next =
    told (t_custom ∷ c.ns.from ∷ c.ns.to ∷ c.value.from ∷ c.value.to ∷ c.name.from ∷ c.name.to ∷ 0 ∷ 0 ∷ next ∷ [])

abbrev pub caveat_probe : Reading (CaveatAt × ℕ) → Parts
caveat_probe (Err d) = refused d
caveat_probe (Ok (caveat, next)) = demand_probe caveat next

abbrev pub token_probe : Reading TokenAt → Parts
token_probe (Err d) = refused d
token_probe (Ok t) =
    told (t.caveats.count ∷ t.caveats.span.from ∷ t.caveats.span.to ∷ t.scope.from ∷ t.scope.to ∷ t.tag.from
    ∷ t.kid.from ∷ t.kid.to ∷ t.tid.from ∷ t.tid.to ∷ [])
