-- Filling a list from the front, one store a turn: one law for every loop of that kind.
use mathlib.Core.Path.{◌≡◌, refl, ◌∙◌}
use mathlib.Core.List.{List, ◌++◌, append_assoc, append-nil}
use Prim.Native.Nat.{ℕ, suc, ◌+◌, ◌≤◌, ◌<◌}
use native.Mathlib.Numerals.{add-one}
use native.Mathlib.Omega.{arith}
use lib.ListN.{length, drop, set, get_or, length-set, drop_of_length-le}
use lib.Seq.{drop-cons, set_at}
use Rattle.basis.specs.Basis.{tab}
use Rattle.basis.specs.Tabs.{tab_length}

-- the first i elements are f's, the others as they were
pub record Tabbed (f : ℕ → ℕ) (entry out : List ℕ) (i : ℕ) : Type 0 where
  pub long : length out ≡ length entry
  pub room : i ≤ length entry
  pub front : out ≡ tab i f ++ drop i entry

pub tab_start : (f : ℕ → ℕ) (out : List ℕ) → Tabbed f out out 0
unfolding tab
tab_start f out = record { long = refl; room = omega arith; front = refl }

pub tab_step : (f : ℕ → ℕ) (entry out : List ℕ) (i x : ℕ) → Tabbed f entry out i → i < length entry → x ≡ f i
    → Tabbed f entry (set out i x) (i + 1)
unfolding tab
tab_step f entry out i x k h e =
    record {
      long = length-set out i x ∙ k.long;
      room = omega arith;
      front =
          rw (
            k.front,
            drop-cons entry i 0 h,
            set_at (tab i f) (get_or entry i 0) (drop (suc i) entry) x i (tab_length i f),
            e,
            add-one,
            append_assoc,
          );
    }

pub tab_end : (f : ℕ → ℕ) (entry out : List ℕ) (i : ℕ) → Tabbed f entry out i → length entry ≤ i
    → out ≡ tab (length entry) f
tab_end f entry out i k h =
    let e : i ≡ length entry = omega arith in
    k.front ∙ rw (e, drop_of_length-le entry {i = length entry} (omega arith), append-nil)
