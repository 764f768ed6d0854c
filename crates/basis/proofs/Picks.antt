-- What holds of both sides of a choice holds of the choice: how a law of a definition goes through its tests.
use mathlib.Core.Path.{◌≡◌, refl}
use mathlib.Core.Bool.{Bool, true, false}
use Rattle.basis.specs.Basis.{pick}

pub either : {A : Type 0} (P : A → Type 0) {x y : A} (b : Bool) → P x → P y → P (pick b x y)
either P true p q = p
either P false p q = q

-- where a side holds only by what the test found
pub tested : {A : Type 0} (P : A → Type 0) {x y : A} (b : Bool) → (b ≡ true → P x) → (b ≡ false → P y) → P (pick b x y)
tested P true p q = p refl
tested P false p q = q refl
