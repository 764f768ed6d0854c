-- What the answer's parts hold: the request's numbers, and its strings where they lie.
use mathlib.Core.Path.{◌≡◌}
use mathlib.Core.List.{List}
use mathlib.Core.Option.{Option, some, none}
use Prim.Native.Nat.{ℕ}
use Rattle.std.specs.Prelude.{Option as Maybe, Some, None}
use Rattle.basis.specs.Basis.{between}
use Rattle.basis.proofs.Held.{PartHeld}
use Rattle.records_request.specs.Requests.{PerSecond, Request}
use Rattle.records_request.specs.Reading.{rate_with}
use Rattle.records_request.specs.declared.Rate.{Rate}
use Rattle.records_request.specs.declared.RequestAt.{RequestAt}

abbrev pub rate_of : Option PerSecond → Maybe Rate
rate_of none = None
rate_of (some r) = Some (rate_with r.per_s r.burst)

-- the parts hold exactly x's
pub record Holds (s : List ℕ) (x : Request) (parts : RequestAt) : Type 0 where
  pub now_held : x.now ≡ parts.now
  pub size_held : x.size ≡ parts.size
  pub skew_held : x.skew ≡ parts.skew
  pub amnesia_held : x.amnesia ≡ parts.amnesia
  pub peer_held : PartHeld s x.peer parts.peer
  pub digest_held : PartHeld s x.digest parts.digest
  pub rate_held : rate_of x.rate ≡ parts.rate
  pub method_held : between s parts.method ≡ x.method
  pub path_held : between s parts.path ≡ x.path
  pub tenant_held : between s parts.tenant ≡ x.tenant
  pub audience_held : PartHeld s x.audience parts.audience
