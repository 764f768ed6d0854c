-- A reading that found something passed each test on its way.
use mathlib.Core.Path.{◌≡◌, refl}
use mathlib.Core.Bool.{Bool, true, false}
use Rattle.std.specs.Prelude.{Option, Some, None}
use Rattle.basis.specs.Basis.{pick}

module _ {A : Type 0} {x : A} where
  pub taken : (t : Bool) {o : Option A} → pick t o None ≡ Some x → (t ≡ true) × (o ≡ Some x)
  taken true e = (refl, e)
  taken false e = cc

  pub passed : (t : Bool) {o : Option A} → pick t None o ≡ Some x → (t ≡ false) × (o ≡ Some x)
  passed true e = cc
  passed false e = (refl, e)
