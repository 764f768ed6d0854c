-- Every place that the reading of a key or a field answers lies inside the slice, that of a defect too.
use Rattle.std.specs.Prelude.{Ok, Err, Option, Some, None}
use Rattle.cbor_heads.specs.Defects.{Reading, bad, after}
use Rattle.cbor_heads.specs.declared.defect.Kind.TheVariants.{Cbor, Bounds}
use mathlib.Core.List.{List}
use Prim.Native.Nat.{ℕ, ◌≤◌}
use lib.Dec.{eqb}
use lib.ListN.{length}
use Rattle.basis.specs.Basis.{between}
use Rattle.basis.specs.declared.Span.{Span}
use Rattle.basis.proofs.Picks.{either}
use Rattle.cbor_heads.specs.Counts.{number_up_to}
use Rattle.cbor_strings.specs.Reading.{read_run}
use Rattle.cbor_strings.specs.declared.Class.TheVariants.{Name}
use Rattle.cbor_strings.proofs.Inside.{PairIn, ContentIn, count_in, run_in, string_in, step_in}
use Rattle.cbor_values.proofs.Inside.{ItemIn}
use Rattle.cbor_keys.specs.Reading.{index_of_key, known_by, key_by, key_at, wanted_by, wanted_key}
use Rattle.cbor_keys.specs.Fields.{name_at, name_field, number_field}
use Rattle.cbor_keys.specs.declared.Names.{Names}

module _ (size at : ℕ) (h : at ≤ size) where
  known_in : (to : ℕ) (index : Option ℕ) → to ≤ size → PairIn size (known_by at to index)
  known_in to None g = h
  known_in to (Some index) g = g

  key_by_lem : (names : Names) (s : List ℕ) (r : Reading Span) → ContentIn size r → PairIn size (after (key_by names s at) r)
  unfolding key_by
  key_by_lem names s (Err d) g = g
  key_by_lem names s (Ok part) g = known_in part.to (index_of_key names (between s part)) g.1

  wanted_by_lem : (want : ℕ) (k : Reading (ℕ × ℕ)) → PairIn size k → ItemIn size (after (wanted_by at want) k)
  unfolding wanted_by
  wanted_by_lem want (Err d) g = g
  wanted_by_lem want (Ok (index, next)) g = either (ItemIn size) {x = Ok next} {y = bad Cbor at} (eqb index want) g h

module _ (names : Names) (s : List ℕ) (at : ℕ) where
  pub key_in : at ≤ length s → PairIn (length s) (key_at names s at)
  key_in h = key_by_lem (length s) at h names s (read_run s at 3 0 0xffffffffffffffff) (run_in s at 3 0 0xffffffffffffffff h)

  pub wanted_in : (want : ℕ) → at ≤ length s → ItemIn (length s) (wanted_key names s at want)
  wanted_in want h = wanted_by_lem (length s) at h want (key_at names s at) (key_in h)

  pub name_field_in : (want : ℕ) → at ≤ length s → ContentIn (length s) (name_field names s at want)
  name_field_in want h =
      step_in (ContentIn (length s)) (length s) (λ d g. g) (λ next. next ≤ length s) (name_at s) (λ next g. string_in s next Name 1 64 g) (wanted_key names s at want)
      (wanted_in want h)

  pub number_field_in : (want most : ℕ) → at ≤ length s → PairIn (length s) (number_field names s at want most)
  number_field_in want most h =
      step_in (PairIn (length s)) (length s) (λ d g. g) (λ next. next ≤ length s) (number_up_to most s) (λ next g. count_in s next 0 0 most Bounds g) (wanted_key names s at want)
      (wanted_in want h)
