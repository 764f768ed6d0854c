-- The walk over a text's bytes: what the loop of `is_utf8` keeps.
use mathlib.Core.Path.{◌≡◌, refl}
use mathlib.Core.Bool.{false}
use mathlib.Core.List.{List}
use Prim.Native.Nat.{ℕ, ◌+◌, ◌≤◌, ◌<◌}
use native.Mathlib.Numerals.{add-one}
use native.Mathlib.Omega.{arith}
use lib.Dec.{eqb}
use lib.ListN.{length, drop, get_or, drop_of_length-le}
use lib.Seq.{drop-cons}
use Rattle.cbor_values.specs.Utf8.{asked, step_of, go_on, utf8_from, utf8}
use Rattle.cbor_values.specs.declared.Due.{Due}
use Rattle.std.specs.Prelude.{Some, None}

pub record Walked (s : List ℕ) (d : Due) (i : ℕ) : Type 0 where
  pub inside : i ≤ length s
  pub rest : utf8_from (drop i s) d ≡ utf8 s

pub walked_none : (s : List ℕ) → Walked s (asked 0 0x80 0xbf) 0
walked_none s = record { inside = omega arith; rest = refl }

module _ (s : List ℕ) (d : Due) (i : ℕ) (w : Walked s d i) where
  pub never : i < length s → step_of (get_or s i 0) d ≡ None → false ≡ utf8 s
  unfolding utf8_from go_on
  never h e = rw (drop-cons s i 0 h, e) at w.rest

  pub walked_one : {next : Due} → i < length s → step_of (get_or s i 0) d ≡ Some next → Walked s next (i + 1)
  unfolding utf8_from go_on
  walked_one h e = record { inside = omega arith; rest = rw (add-one, ← w.rest, drop-cons s i 0 h, e) }

  pub walked_all : length s ≤ i → eqb d.n 0 ≡ utf8 s
  unfolding utf8_from
  walked_all h = rw (drop_of_length-le s h) at w.rest
