-- A scope's defect has one of the three numbers of reading.
use Rattle.std.specs.Prelude.{Err}
use mathlib.Core.Path.{◌≡◌}
use mathlib.Core.List.{List}
use Prim.Native.Nat.{ℕ, ◌≤◌}
use Rattle.cbor_heads.specs.declared.defect.Defect.{Defect}
use Rattle.cbor_heads.specs.Defects.{kind_number}
use Rattle.cbor_heads.proofs.DefectKinds.{numbered}
use Rattle.token_scope.specs.Reading.{scope_of}

pub scope_kind : (s : List ℕ) (at : ℕ) {d : Defect} → scope_of s at ≡ Err d → (4 ≤ kind_number d.kind) × (kind_number d.kind ≤ 6)
scope_kind s at {d} e = numbered d.kind
