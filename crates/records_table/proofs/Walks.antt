-- The walks over a table's rows: at the end all was good, a row in its place is a row, and a key that is found lies inside.
use mathlib.Core.Path.{◌≡◌, refl, sym, subst, ◌∙◌}
use mathlib.Core.Bool.{Bool, true, false}
use mathlib.Core.List.{List, []}
use Prim.Native.Nat.{ℕ, zero, suc, ◌+◌, ◌-◌, ◌≤◌, ◌<◌, min}
use native.Mathlib.Omega.{arith}
use borrow.Author.Tests.{eq-eqb, le-ltb}
use lib.Dec.{eqb}
use lib.ListN.{length, drop, length-take}
use Rattle.std.specs.Prelude.{Option, Some, None, unwrap_or}
use Rattle.std.specs.Option.{option_map_or}
use Rattle.std.proofs.lemmas.Option.{option_and_then_some}
use Rattle.basis.specs.Basis.{pick, from_to, between, part_place, IsBytes}
use Rattle.basis.specs.declared.Span.{Span}
use Rattle.basis.proofs.Pairs.{some_same}
use Rattle.basis.proofs.Parts.{take_least}
use Rattle.records.proofs.Ways.{taken}
use Rattle.records_table.specs.Order.{ascends, same_ids}
use Rattle.records_table.specs.Reading.{read_row, row_after, ok_from, key_from, find_from, place_from}
use Rattle.records_table.specs.declared.RowAt.{RowAt}
use Rattle.records_table.proofs.Ordering.{pairs}
use Rattle.records_table.proofs.Rows.{IsRow, row_read}

-- a row that may follow, and those behind it
pub left : (n : ℕ) → n < 64 → 64 - n ≡ suc (64 - (n + 1))
left n h = omega arith

pub ended : (n : ℕ) (s t k : List ℕ) (at : ℕ) → at ≡ length s → ok_from n s t k at ≡ true
unfolding ok_from
ended zero s t k at z = eq-eqb at (length s) z
ended (suc n) s t k at z = rw (eq-eqb at (length s) z)

pub spent : (n : ℕ) (s t k : List ℕ) (at : ℕ) → 64 ≤ n → ok_from (64 - n) s t k at ≡ eqb at (length s)
unfolding ok_from
spent n s t k at h = let z : 64 - n ≡ 0 = omega arith in rw z

-- what the check needs of a turn of either walk, and of its end
pub ruleset walk = (left, ended, spent, pairs)

pub ordered : (s t k : List ℕ) (at : ℕ) {row : RowAt} → row_after s t k at ≡ Some row → (read_row s at ≡ Some row) × (ascends t k (between s row.tid) (between s row.kid) ≡ true)
unfolding row_after
ordered s t k at {row} e =
    option_and_then_some _ (read_row s at) row e (λ r was goes.
    let c = taken (ascends t k (between s r.tid) (between s r.kid)) goes in
    (was ∙ c.1, subst (λ (x : RowAt). ascends t k (between s x.tid) (between s x.kid) ≡ true) (some_same c.1) c.0))

pub record Inside (s : List ℕ) (key : Span) : Type 0 where
  pub order : key.from ≤ key.to
  pub inside : key.to ≤ length s

pub key_inside : (n : ℕ) (s tid kid : List ℕ) → IsBytes s → (at : ℕ) {key : Span} → key_from n s tid kid at ≡ Some key → Inside s key
unfolding key_from
key_inside zero s tid kid b at e = cc
key_inside (suc n) s tid kid b at {key} e =
    option_and_then_some _ (read_row s at) key e (λ row was goes.
    by row (row_read s b at was) (same_ids (between s row.tid) (between s row.kid) tid kid) goes (key_inside n s tid kid b row.key.to))
  where
    by : (row : RowAt) → IsRow s at row → (t : Bool) → pick t (Some row.key) (key_from n s tid kid row.key.to) ≡ Some key
        → (key_from n s tid kid row.key.to ≡ Some key → Inside s key) → Inside s key
    by row r true e m = subst (Inside s) (some_same e) (record { order = r.key_order; inside = r.inside })
    by row r false e m = m e

-- the bytes of a key that was found, and its place; none at the beginning where there is none
module _ (n : ℕ) (s tid kid : List ℕ) (at : ℕ) where
  pub key_bytes : between s (unwrap_or (key_from n s tid kid at) (from_to 0 0)) ≡ find_from n s tid kid at
  unfolding find_from
  key_bytes = by (key_from n s tid kid at)
    where
      by : (found : Option Span) → between s (unwrap_or found (from_to 0 0)) ≡ option_map_or (between s) found []
      by None = refl
      by (Some key) = refl

  pub key_place : IsBytes s → part_place s (unwrap_or (key_from n s tid kid at) (from_to 0 0)) ≡ place_from n s tid kid at
  unfolding place_from
  key_place b = by (key_from n s tid kid at) (λ key. key_inside n s tid kid b at)
    where
      by : (found : Option Span) → ((key : Span) → found ≡ Some key → Inside s key)
          → part_place s (unwrap_or found (from_to 0 0)) ≡ option_map_or (λ key. key.from) found 0
      by None h = rw (le-ltb (min 0 (length s)) 0 (omega arith))
      by (Some key) h = let w = h key refl in rw (le-ltb (min key.to (length s)) key.from (omega (arith, w.order, w.inside)))

-- what is found stands at its place, as many bytes as it has
same_run : (s : List ℕ) (part : Span) → between s part ≡ between s (from_to part.from (part.from + length (between s part)))
same_run s part =
    let n : part.from + length (between s part) - part.from ≡ length (between s part) = omega arith in
    rw n (sym (take_least (drop part.from s) (part.to - part.from) (length (between s part)) (length-take (part.to - part.from) (drop part.from s))))

abbrev pub Lies : List ℕ → List ℕ → ℕ → Type 0
Lies s key place = key ≡ between s (from_to place (place + length key))

pub key_lies : (n : ℕ) (s tid kid : List ℕ) (at : ℕ) → Lies s (find_from n s tid kid at) (place_from n s tid kid at)
unfolding find_from place_from
key_lies n s tid kid at = by (key_from n s tid kid at)
  where
    by : (found : Option Span) → Lies s (option_map_or (between s) found []) (option_map_or (λ key. key.from) found 0)
    by None = refl
    by (Some key) = same_run s key
