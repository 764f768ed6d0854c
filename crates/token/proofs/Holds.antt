-- What the answer's parts hold: each part of the token where it lies.
use mathlib.Core.Path.{◌≡◌}
use mathlib.Core.List.{List, ◌++◌}
use Prim.Native.Nat.{ℕ}
use lib.ListN.{length, drop}
use Rattle.basis.specs.Basis.{between}
use Rattle.basis.specs.declared.Span.{Span}
use Rattle.cbor_values.specs.declared.ListAt.{ListAt}
use Rattle.token_scope.specs.Scopes.{Scope, encode_scope}
use Rattle.token_caveat.specs.Caveats.{Caveat}
use Rattle.token.specs.Tokens.{Token, encode_caveats}
use Rattle.token.specs.declared.TokenAt.{TokenAt}

pub record HoldsFront (s : List ℕ) (cs : List Caveat) (x : Scope) (caveats : ListAt) (scope : Span) : Type 0 where
  pub counted_so : length cs ≡ caveats.count
  pub caveats_lie : drop caveats.span.from s ≡ encode_caveats cs ++ drop caveats.span.to s
  pub caveats_held : between s caveats.span ≡ encode_caveats cs
  pub scope_lies : drop scope.from s ≡ encode_scope x ++ drop scope.to s
  pub scope_held : between s scope ≡ encode_scope x

pub record HoldsBack (s tag-bytes kid-bytes tid-bytes : List ℕ) (tag kid tid : Span) : Type 0 where
  pub tag_held : between s tag ≡ tag-bytes
  pub kid_held : between s kid ≡ kid-bytes
  pub tid_held : between s tid ≡ tid-bytes

pub record Holds (s : List ℕ) (t : Token) (parts : TokenAt) : Type 0 where
  pub front : HoldsFront s t.caveats t.scope parts.caveats parts.scope
  pub back : HoldsBack s t.tag t.kid t.tid parts.tag parts.kid parts.tid
