-- What a part that may be absent holds: the option that a tree has in its place. The part settles it.
use mathlib.Core.Path.{◌≡◌, refl, sym, ap, ◌∙◌}
use mathlib.Core.List.{List}
use mathlib.Core.Option.{Option, some, none}
use Rattle.std.specs.Prelude.{Option as Maybe, Some, None}
use Prim.Native.Nat.{ℕ}
use Rattle.basis.specs.Basis.{between}
use Rattle.basis.specs.declared.Span.{Span}

abbrev pub PartHeld : List ℕ → Option (List ℕ) → Maybe Span → Type 0
PartHeld s none None = Unit {0}
PartHeld s none (Some part) = ⊥
PartHeld s (some x) None = ⊥
PartHeld s (some x) (Some part) = between s part ≡ x

pub part_held_one : (s : List ℕ) (o p : Option (List ℕ)) (part : Maybe Span) → PartHeld s o part → PartHeld s p part → o ≡ p
part_held_one s none none None g h = refl
part_held_one s none none (Some part) g h = elim g [ ]
part_held_one s none (some y) None g h = elim h [ ]
part_held_one s none (some y) (Some part) g h = elim g [ ]
part_held_one s (some x) none None g h = elim g [ ]
part_held_one s (some x) none (Some part) g h = elim h [ ]
part_held_one s (some x) (some y) None g h = elim g [ ]
part_held_one s (some x) (some y) (Some part) g h = ap some (sym g ∙ h)
