-- What the answer's parts hold: the scope's strings and lists where they lie, and its number.
use mathlib.Core.Path.{◌≡◌}
use mathlib.Core.List.{List, ◌++◌}
use mathlib.Core.Option.{Option, some, none}
use Rattle.std.specs.Prelude.{Option as Maybe, Some, None}
use Prim.Native.Nat.{ℕ}
use lib.ListN.{length, drop}
use Rattle.basis.proofs.Held.{PartHeld}
use Rattle.cbor_keys.specs.Maps.{texts}
use Rattle.token_scope.specs.Scopes.{Scope}
use Rattle.token_scope.specs.declared.ScopeAt.{ScopeAt}

abbrev pub limit_of : Option ℕ → Maybe ℕ
limit_of none = None
limit_of (some n) = Some n

-- the parts that a reading answers hold exactly the scope's
pub record Holds (s : List ℕ) (x : Scope) (parts : ScopeAt) : Type 0 where
  pub prefix_held : PartHeld s x.prefix parts.prefix
  pub counted_so : length x.methods ≡ parts.methods.count
  pub methods_held : drop parts.methods.span.from s ≡ texts x.methods ++ drop parts.methods.span.to s
  pub limit_held : limit_of x.max_bytes ≡ parts.max_bytes
