-- Readings that are the same read the same: a result that is right holds one value, and a pair its two parts.
use mathlib.Core.Path.{◌≡◌, ap}
use Rattle.std.specs.Prelude.{Result, Ok, Option, Some}

pub pair_same : {A B : Type 0} {a x : A} {b y : B} → ◌≡◌ {A = A × B} (a, b) (x, y) → (a ≡ x) × (b ≡ y)
pair_same p = (ap (λ q. q.0) p, ap (λ q. q.1) p)

pub ok_same : {A E : Type 0} {a x : A} → ◌≡◌ {A = Result A E} (Ok a) (Ok x) → a ≡ x
ok_same p = cc

pub ok_pair : {A B E : Type 0} {a x : A} {b y : B} → ◌≡◌ {A = Result (A × B) E} (Ok (a, b)) (Ok (x, y)) → (a ≡ x) × (b ≡ y)
ok_pair p = pair_same (ok_same p)

pub some_same : {A : Type 0} {a x : A} → ◌≡◌ {A = Option A} (Some a) (Some x) → a ≡ x
some_same p = cc

pub some_pair : {A B : Type 0} {a x : A} {b y : B} → ◌≡◌ {A = Option (A × B)} (Some (a, b)) (Some (x, y)) → (a ≡ x) × (b ≡ y)
some_pair p = pair_same (some_same p)
