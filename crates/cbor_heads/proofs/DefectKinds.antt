-- A defect's kind has one of the three numbers of reading, and two kinds never share one.
use mathlib.Core.Path.{◌≡◌, refl}
use Prim.Native.Nat.{◌≤◌}
use native.Mathlib.Omega.{arith}
use Rattle.cbor_heads.specs.Defects.{kind_number}
use Rattle.cbor_heads.specs.declared.defect.Kind.{Kind}
use Rattle.cbor_heads.specs.declared.defect.Kind.TheVariants.{Cbor, Bounds, Unknown}

pub numbered : (kind : Kind) → (4 ≤ kind_number kind) × (kind_number kind ≤ 6)
numbered Cbor = (omega arith, omega arith)
numbered Bounds = (omega arith, omega arith)
numbered Unknown = (omega arith, omega arith)

pub kinds_differ : (a b : Kind) → kind_number a ≡ kind_number b → a ≡ b
kinds_differ Cbor Cbor e = refl
kinds_differ Bounds Bounds e = refl
kinds_differ Unknown Unknown e = refl
kinds_differ Cbor Bounds e = let z : ⊥ = omega (arith, e) in elim z [ ]
kinds_differ Cbor Unknown e = let z : ⊥ = omega (arith, e) in elim z [ ]
kinds_differ Bounds Cbor e = let z : ⊥ = omega (arith, e) in elim z [ ]
kinds_differ Bounds Unknown e = let z : ⊥ = omega (arith, e) in elim z [ ]
kinds_differ Unknown Cbor e = let z : ⊥ = omega (arith, e) in elim z [ ]
kinds_differ Unknown Bounds e = let z : ⊥ = omega (arith, e) in elim z [ ]
