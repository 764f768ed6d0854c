-- Reading. Need not be believed: the demands' theorems fix it. A token with its key, check by check. Document 01, "Numbers and names":
-- "Verify: .. 8, 9, scope method, path, bytes (10 to 12), caveats in token order."
use Rattle.std.specs.Prelude.{List, ℕ, zero, suc, ◌+◌, eqb, drop, Ok, Err}
use Rattle.basis.specs.Basis.{pick, from_to, between}
use Rattle.cbor_heads.specs.Defects.{Reading, kind_number}
use Rattle.basis.specs.Same.{same_of}
use Rattle.cbor_values.specs.declared.ListAt.{ListAt}
use Rattle.hash_chain.specs.Chain.{first_link, next_link}
use Rattle.token_scope.specs.Reading.{scope_of}
use Rattle.token_scope.specs.declared.ScopeAt.{ScopeAt}
use Rattle.token_caveat.specs.Reading.{caveat_of}
use Rattle.token_caveat_values.specs.declared.CaveatAt.{CaveatAt}
use Rattle.token.specs.declared.TokenAt.{TokenAt}
use Rattle.records_request.specs.declared.RequestAt.{RequestAt}
use Rattle.rules.specs.Judging.{scope_judged, caveat_judged}

-- what was found behind a caveat, or what a defect, told by its number, makes of it
unfoldable pub after_caveat : {A : Type 0} → (ℕ → A) → (CaveatAt → ℕ → A) → Reading (CaveatAt × ℕ) → A
after_caveat bad rest (Err d) = bad (kind_number d.kind)
after_caveat bad rest (Ok (caveat, next)) = rest caveat next

-- "Each caveat is read and hashed where it lies": a walk over so many from a place on. `add` says what each of them adds to what was found
-- before it, `part` being the token from the caveat's first byte on; `bad`, what a defect makes of it
abbrev pub over_then : {A : Type 0} → (ℕ → A → A) → (A → List ℕ → CaveatAt → ℕ → A) → List ℕ → ℕ → A → CaveatAt → ℕ → A
over_then rest add part at found caveat next = rest (at + next) (add found part caveat next)

unfoldable pub over_caveats : {A : Type 0} → (A → ℕ → A) → (A → List ℕ → CaveatAt → ℕ → A) → ℕ → List ℕ → ℕ → A → A
over_caveats bad add zero s at found = found
over_caveats bad add (suc k) s at found = after_caveat (bad found) (over_then (over_caveats bad add k s) add (drop at s) at found) (caveat_of (drop at s))

-- what a caveat adds to the chain: a link over its bytes
abbrev pub link_add : List ℕ → List ℕ → List ℕ → CaveatAt → ℕ → List ℕ
link_add key link part caveat next = next_link key link (between part (from_to 0 next))

abbrev pub link_stays : List ℕ → ℕ → List ℕ
link_stays link kind = link

-- the last link, behind a first one
abbrev pub links_of : List ℕ → ListAt → List ℕ → List ℕ → List ℕ
links_of s caveats key first = over_caveats link_stays (link_add key) caveats.count s caveats.span.from first

-- the first answer that is not 0
unfoldable pub so_far : ℕ → ℕ → ℕ
so_far answer next = pick (eqb answer 0) next answer

-- the last link, and the answer of the first caveat that fails
pub record Walked : Type 0 where
  pub link : List ℕ
  pub answer : ℕ

-- and to the judgement: its own answer, if all before it were 0
abbrev pub walk_ends : List ℕ → ℕ → Walked
walk_ends link answer = record { link = link; answer = answer }

abbrev pub walk_add : List ℕ → List ℕ → RequestAt → List ℕ → Walked → List ℕ → CaveatAt → ℕ → Walked
walk_add key body q tid found part caveat next =
    walk_ends (link_add key found.link part caveat next) (so_far found.answer (caveat_judged part caveat body q tid))

abbrev pub walk_bad : Walked → ℕ → Walked
walk_bad found kind = walk_ends found.link kind

abbrev pub walked_of : List ℕ → ListAt → List ℕ → List ℕ → RequestAt → List ℕ → List ℕ → Walked
walked_of s caveats key body q tid first = over_caveats walk_bad (walk_add key body q tid) caveats.count s caveats.span.from (walk_ends first 0)

-- the scope that begins at a place
unfoldable pub scope_then : List ℕ → List ℕ → RequestAt → Reading (ScopeAt × ℕ) → ℕ
scope_then s body q (Err d) = kind_number d.kind
scope_then s body q (Ok (scope, next)) = scope_judged s scope body q

abbrev pub scope_answered : List ℕ → ℕ → List ℕ → RequestAt → ℕ
scope_answered s at body q = scope_then s body q (scope_of s at)

-- 9, then the scope, then the caveats
unfoldable pub tenant_judged : List ℕ → List ℕ → ℕ → ℕ → ℕ
tenant_judged tid tenant scope caveats = pick (same_of tid tenant) (so_far scope caveats) 9

-- 8: "The tag is the last link."
abbrev pub tag_judged : List ℕ → List ℕ → List ℕ → ℕ → Walked → ℕ
tag_judged tag tid tenant scope w = pick (same_of w.link tag) (tenant_judged tid tenant scope w.answer) 8

abbrev pub link_first : List ℕ → List ℕ → TokenAt → List ℕ
link_first key s p = first_link key (between s p.tid) (between s p.kid) (between s p.scope)

-- with the key
unfoldable pub key_judged : List ℕ → List ℕ → TokenAt → List ℕ → RequestAt → ℕ
key_judged key s p body q =
    tag_judged (between s p.tag) (between s p.tid) (between body q.tenant) (scope_answered s p.scope.from body q)
    (walked_of s p.caveats key body q (between s p.tid) (link_first key s p))
