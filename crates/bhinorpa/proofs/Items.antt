-- Bytes that should be one scope, or one caveat, and nothing else: they are, or they have a first defect.
use Rattle.std.specs.Prelude.{Ok, Err}
use Rattle.cbor_heads.specs.Defects.{Reading, kind_number}
use Rattle.token_caveat_values.specs.declared.CaveatAt.{CaveatAt}
use Rattle.token_scope.specs.declared.ScopeAt.{ScopeAt}
use mathlib.Core.Path.{◌≡◌, refl, ap, ◌∙◌}
use mathlib.Core.List.{List, [], ◌∷◌, ◌++◌, append-nil}
use Prim.Native.Nat.{ℕ, ◌≤◌}
use native.Mathlib.Omega.{arith}
use lib.ListN.{length, drop, length-append}
use Rattle.basis.specs.Basis.{IsBytes}
use Rattle.token_scope.specs.Scopes.{Scope, encode_scope, GoodScope}
use Rattle.token_scope.specs.Reading.{scope_of}
use Rattle.token_scope.proofs.ScopeRead.{scope_read}
use Rattle.cbor_heads.proofs.DefectKinds.{numbered}
use Rattle.token_scope.proofs.ScopeMap.{scope_defect, defect_scope}
use Rattle.token_caveat.specs.Caveats.{Caveat, encode_caveat, GoodCaveat}
use Rattle.token_caveat.specs.Reading.{caveat_of}
use Rattle.token_caveat.proofs.CaveatLaws.{caveat_read}
use Rattle.token_caveat.proofs.CaveatMap.{caveat_defect, defect_caveat}
use Rattle.bhinorpa.specs.NewTokens.{EncodesScope, EncodesCaveat}
use Rattle.bhinorpa.specs.Verdicts.{ScopeDefect, scope_unreadable, scope_left_over, CaveatDefect, caveat_unreadable, caveat_left_over}

-- an item at the front of bytes: it is all of them, or something is left
nothing_left : (bytes item rest : List ℕ) → bytes ≡ item ++ rest → length item ≡ length bytes → rest ≡ []
nothing_left bytes item [] e h = refl
nothing_left bytes item (x ∷ rest) e h = let z : ⊥ = omega (arith, h, ap length e ∙ length-append item (x ∷ rest)) in elim z [ ]

pub all_left : (bytes item rest : List ℕ) → bytes ≡ item ++ rest → (rest ≡ [] → ⊥) → length item ≡ length bytes → ⊥
all_left bytes item rest e h l = h (nothing_left bytes item rest e l)

whole : (bytes item rest : List ℕ) → bytes ≡ item ++ rest → rest ≡ [] → bytes ≡ item
whole bytes item rest e z = e ∙ ap (λ (t : List ℕ). item ++ t) z ∙ append-nil item

pub data ScopeIs (bytes : List ℕ) : Type 0 where
  no_scope : (n : ℕ) → ScopeDefect bytes n → ScopeIs bytes
  one_scope : (scope : Scope) → EncodesScope bytes scope → ScopeIs bytes

pub scope_is : (bytes : List ℕ) → IsBytes bytes → ScopeIs bytes
scope_is bytes b = by (scope_of bytes 0) refl
  where
    by_rest : (scope : Scope) → GoodScope scope → (rest : List ℕ) → bytes ≡ encode_scope scope ++ rest → ScopeIs bytes
    by_rest scope g [] e = one_scope scope (record { good = g; written = whole bytes (encode_scope scope) [] e refl })
    by_rest scope g (x ∷ rest) e = no_scope 4 (scope_left_over scope g (x ∷ rest) e (λ z. omega (arith, ap length z)) refl)

    by : (p : Reading (ScopeAt × ℕ)) → scope_of bytes 0 ≡ p → ScopeIs bytes
    by (Err d) e = no_scope (kind_number d.kind) (scope_unreadable d (scope_defect bytes 0 e) refl)
    by (Ok (parts, next)) e = let r = scope_read bytes b 0 e in by_rest r.tree r.good (drop next bytes) r.there

pub data CaveatIs (bytes : List ℕ) : Type 0 where
  no_caveat : (n : ℕ) → CaveatDefect bytes n → CaveatIs bytes
  one_caveat : (caveat : Caveat) → EncodesCaveat bytes caveat → CaveatIs bytes

pub caveat_is : (bytes : List ℕ) → IsBytes bytes → CaveatIs bytes
caveat_is bytes b = by (caveat_of bytes) refl
  where
    by_rest : (caveat : Caveat) → GoodCaveat caveat → (rest : List ℕ) → bytes ≡ encode_caveat caveat ++ rest → CaveatIs bytes
    by_rest caveat g [] e = one_caveat caveat (record { good = g; written = whole bytes (encode_caveat caveat) [] e refl })
    by_rest caveat g (x ∷ rest) e = no_caveat 4 (caveat_left_over caveat g (x ∷ rest) e (λ z. omega (arith, ap length z)) refl)

    by : (p : Reading (CaveatAt × ℕ)) → caveat_of bytes ≡ p → CaveatIs bytes
    by (Err d) e = no_caveat (kind_number d.kind) (caveat_unreadable d (caveat_defect bytes e) refl)
    by (Ok (part, next)) e = let r = caveat_read bytes b e in by_rest r.tree r.good (drop next bytes) r.there

-- a defect's number is 4, 5 or 6
pub scope_few : (bytes : List ℕ) (n : ℕ) → ScopeDefect bytes n → (4 ≤ n) × (n ≤ 6)
scope_few bytes n (scope_unreadable d e m) = let k = numbered d.kind in (omega (arith, k.0, m), omega (arith, k.1, m))
scope_few bytes n (scope_left_over scope g rest e h z) = (omega (arith, z), omega (arith, z))

pub caveat_few : (bytes : List ℕ) (n : ℕ) → CaveatDefect bytes n → (4 ≤ n) × (n ≤ 6)
caveat_few bytes n (caveat_unreadable d e m) = let k = numbered d.kind in (omega (arith, k.0, m), omega (arith, k.1, m))
caveat_few bytes n (caveat_left_over caveat g rest e h z) = (omega (arith, z), omega (arith, z))
