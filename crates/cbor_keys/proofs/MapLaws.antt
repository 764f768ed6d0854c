-- The one reading of a map, entry by entry: where the next key is required, it is the key wanted; where none is left, none may be required.
use Rattle.std.specs.Prelude.{Ok, Err}
use Rattle.cbor_heads.specs.Defects.{Reading, bad, after}
use Rattle.cbor_heads.specs.declared.defect.Kind.TheVariants.{Cbor}
use mathlib.Core.Path.{◌≡◌, refl, ap, ◌∙◌}
use mathlib.Core.Bool.{Bool, true, false}
use mathlib.Core.List.{List, [], ◌∷◌}
use Prim.Native.Nat.{ℕ, suc, ◌-◌}
use native.Mathlib.Omega.{arith}
use borrow.Author.Tests.{le-ltb, eqb-true, eqb-false, ltb-false}
use lib.Dec.{eqb, ltb}
use Rattle.basis.specs.Basis.{pick}
use Rattle.cbor_keys.specs.declared.Names.{Names}
use Rattle.cbor_keys.specs.Reading.{key_at, wanted_by, wanted_key}
use Rattle.cbor_keys.specs.ReadMap.{Field, field_at, field_then, entry_then, entries_of}

-- a next field that may not be passed over: it is required, or the last one
module _ (names : Names) (s : List ℕ) (map k i : ℕ) (field : Field) (fs : List Field) (before : List ℕ) (at : ℕ)
    (stops : (none : Reading ℕ) (some : Field → List Field → Reading ℕ) (j : ℕ) → field_at none some (suc j) (field ∷ fs) ≡ none) where
  abbrev rest : ℕ → Reading ℕ
  rest next = after (entries_of names s map k (suc i) fs (next ∷ before)) (field.value before next)

  abbrev entry : (ℕ × ℕ) → Reading ℕ
  entry = entry_then (entries_of names s map k) i (field ∷ fs) before at

  its_own : (next : ℕ) → entry (i, next) ≡ rest next
  unfolding field_at
  its_own next = let z : i - i ≡ 0 = omega arith in rw (le-ltb i i (omega arith), z)

  another : (index next : ℕ) → (index ≡ i → ⊥) → entry (index, next) ≡ bad Cbor at
  another index next n = by (ltb index i) refl
    where
      some : Field → List Field → Reading ℕ
      some = field_then (entries_of names s map k (suc index)) before next

      by : (b : Bool) → ltb index i ≡ b → pick b (bad Cbor at) (field_at (bad Cbor at) some (index - i) (field ∷ fs)) ≡ bad Cbor at
      by true e = refl
      by false e =
          let l = ltb-false index i e in
          let z : index - i ≡ suc (index - i - 1) = omega (arith, l, n) in
          rw z (stops (bad Cbor at) some (index - i - 1))

  -- another key that is known is out of its place
  only_next : entries_of names s map (suc k) i (field ∷ fs) before at ≡ after rest (wanted_key names s at i)
  unfolding entries_of wanted_by
  only_next = by (key_at names s at)
    where
      by_index : (index next : ℕ) (b : Bool) → eqb index i ≡ b → entry (index, next) ≡ after rest (pick b (Ok next) (bad Cbor at))
      by_index index next true e = let z = eqb-true index i e in rw z (its_own next)
      by_index index next false e = another index next (eqb-false index i e)

      by : (key : Reading (ℕ × ℕ)) → after entry key ≡ after rest (after (wanted_by at i) key)
      by (Err d) = refl
      by (Ok (index, next)) = by_index index next (eqb index i) refl

module _ (names : Names) (s : List ℕ) (map k i : ℕ) (value : List ℕ → ℕ → Reading ℕ) where
  pub required_next : (fs : List Field) (before : List ℕ) (at : ℕ)
      → entries_of names s map (suc k) i (record { required = true; value = value } ∷ fs) before at
      ≡ after (λ next. after (entries_of names s map k (suc i) fs (next ∷ before)) (value before next)) (wanted_key names s at i)
  unfolding field_at
  required_next fs before at = only_next names s map k i (record { required = true; value = value }) fs before at (λ none some j. refl)

  pub last_next : (before : List ℕ) (at : ℕ)
      → entries_of names s map (suc k) i (record { required = false; value = value } ∷ []) before at
      ≡ after (λ next. after (entries_of names s map k (suc i) [] (next ∷ before)) (value before next)) (wanted_key names s at i)
  unfolding field_at
  last_next before at = only_next names s map k i (record { required = false; value = value }) [] before at (λ none some j. refl)

-- behind the last field any key that is known is out of its place
pub none_next : (names : Names) (s : List ℕ) (map k i : ℕ) (before : List ℕ) (at : ℕ)
    → entries_of names s map (suc k) i [] before at ≡ after (λ (index, next). bad Cbor at) (key_at names s at)
unfolding entries_of field_at
none_next names s map k i before at = by (key_at names s at)
  where
    by_index : (index next : ℕ) (b : Bool) → pick b (bad Cbor at) (field_at (bad Cbor at) (field_then (entries_of names s map k (suc index)) before next) (index - i) []) ≡ bad Cbor at
    by_index index next true = refl
    by_index index next false = refl

    by : (key : Reading (ℕ × ℕ)) → after (entry_then (entries_of names s map k) i [] before at) key ≡ after (λ (index, next). bad Cbor at) key
    by (Err d) = refl
    by (Ok (index, next)) = by_index index next (ltb index i)

-- where a reading ends, told step by step: of a reading that goes on behind an item or behind what ends at `at`, alone or behind its key
module _ {B : Type 0} (last : B → Reading ℕ) where
  pub item_end : (rest : ℕ → Reading B) (told : ℕ → Reading ℕ) → ((next : ℕ) → after last (rest next) ≡ told next) → (x : Reading ℕ)
      → after last (after rest x) ≡ after told x
  item_end rest told h (Err d) = refl
  item_end rest told h (Ok next) = h next

  pub item_field : (rest : ℕ → Reading B) (told : ℕ → ℕ → Reading ℕ) → ((at next : ℕ) → after last (rest next) ≡ told at next) → (value : ℕ → Reading ℕ) (key : Reading ℕ)
      → after last (after rest (after value key)) ≡ after (λ at. after (told at) (value at)) key
  item_field rest told h value (Err d) = refl
  item_field rest told h value (Ok at) = item_end rest (told at) (h at) (value at)

  module _ {C : Type 0} (at : C → ℕ) (rest : C → Reading B) where
    pub step_end : (told : ℕ → Reading ℕ) → ((c : C) → after last (rest c) ≡ told (at c)) → (x : Reading C)
        → after last (after rest x) ≡ after told (after (λ c. Ok (at c)) x)
    step_end told h (Err d) = refl
    step_end told h (Ok c) = h c

    pub step_field : (told : ℕ → ℕ → Reading ℕ) → ((k : ℕ) (c : C) → after last (rest c) ≡ told k (at c)) → (value : ℕ → Reading C) (key : Reading ℕ)
        → after last (after rest (after value key)) ≡ after (λ k. after (told k) (after (λ c. Ok (at c)) (value k))) key
    step_field told h value (Err d) = refl
    step_field told h value (Ok k) = step_end (told k) (h k) (value k)

-- the next key is required, and something follows the map
pub required_then : (then : ℕ → Reading ℕ) (names : Names) (s : List ℕ) (map k i : ℕ) (value : List ℕ → ℕ → Reading ℕ) (fs : List Field) (before : List ℕ) (at : ℕ)
    → after then (entries_of names s map (suc k) i (record { required = true; value = value } ∷ fs) before at)
    ≡ after (λ next. after (λ to. after then (entries_of names s map k (suc i) fs (next ∷ before) to)) (value before next)) (wanted_key names s at i)
required_then then names s map k i value fs before at =
    let rest : ℕ → ℕ → Reading ℕ = λ next. entries_of names s map k (suc i) fs (next ∷ before) in
    ap (after then) (required_next names s map k i value fs before at)
    ∙ item_end then (λ next. after (rest next) (value before next)) (λ next. after (λ to. after then (rest next to)) (value before next))
    (λ next. item_end then (rest next) (λ to. after then (rest next to)) (λ to. refl) (value before next)) (wanted_key names s at i)
