-- Inner. For the host tests alone: what the readers of tables and requests say, as numbers, so that a test in another language can compare
-- them with its own. Numbers without a meaning are 0.
use Rattle.std.specs.Prelude.{Bool, true, false, List, [], ◌∷◌, ℕ, Option, Some, None}
use Rattle.basis.specs.declared.Span.{Span}
use Rattle.records_request.specs.declared.Rate.{Rate}
use Rattle.records_request.specs.declared.RequestAt.{RequestAt}
use Rattle.probe_records.specs.declared.Listed.{Listed}
use Rattle.probe_records.specs.declared.Told.{Told}

abbrev pub bit_of : Bool → ℕ
bit_of true = 1
bit_of false = 0

abbrev pub told : Option (ℕ × ℕ) → Told
told None = record { there = 0; a = 0; b = 0 }
told (Some (a, b)) = record { there = 1; a = a; b = b }

abbrev pub part_probe : Option Span → Told
part_probe None = told None
part_probe (Some part) = told (Some (part.from, part.to))

abbrev pub rate_probe : Option Rate → Told
rate_probe None = told None
rate_probe (Some rate) = told (Some (rate.per_s, rate.burst))

-- of a peer and a digest, whose lengths are known, only where they begin is told
abbrev pub numbers_told : RequestAt → ℕ → Told → Told → Told → Told → List ℕ
numbers_told p on x y z w =
    p.now ∷ p.size ∷ p.skew ∷ on ∷ x.there ∷ x.a ∷ y.there ∷ y.a ∷ z.there ∷ z.a ∷ z.b
    ∷ p.method.from ∷ p.method.to ∷ p.path.from ∷ p.path.to ∷ p.tenant.from ∷ p.tenant.to ∷ w.there ∷ w.a ∷ w.b ∷ []

abbrev pub request_probe : Option RequestAt → Listed
request_probe None = record { kind = 2; numbers = 0 ∷ 0 ∷ 0 ∷ 0 ∷ 0 ∷ 0 ∷ 0 ∷ 0 ∷ 0 ∷ 0 ∷ 0 ∷ 0 ∷ 0 ∷ 0 ∷ 0 ∷ 0 ∷ 0 ∷ 0 ∷ 0 ∷ 0 ∷ [] }
request_probe (Some p) =
    record { kind = 0; numbers = numbers_told p (bit_of p.amnesia) (part_probe p.peer) (part_probe p.digest) (rate_probe p.rate) (part_probe p.audience) }
