-- In a room of 442,368 bytes all lines of a bundle stand at the front, and nothing else is told.
use mathlib.Core.Path.{◌≡◌, sym, ap, ◌∙◌}
use mathlib.Core.List.{List}
use Prim.Native.Nat.{ℕ, ◌≤◌}
use Rattle.std.specs.Prelude.{Option, Some}
use Rattle.basis.proofs.Pairs.{some_same}
use native.Mathlib.Omega.{arith}
use borrow.Author.Tests.{le-leb}
use lib.ListN.{length, take, drop, length-append}
use lib.Seq.{take_at}
use Rattle.basis.specs.Basis.{over}
use Rattle.bundle.specs.Lines.{lines_of, LinesWritten}
use Rattle.judge.specs.Lined.{Lined}

module _ (input entry exit : List ℕ) {r : Option ℕ} (l : length entry ≡ 442368) (j : LinesWritten input entry r exit) where
  enough : 442368 ≤ length entry
  enough = omega arith

  pub counted : r ≡ Some (length (lines_of input))
  counted = rw (le-leb 442368 (length entry) enough) at j.counted

  content : exit ≡ over (lines_of input) entry
  content = rw (le-leb 442368 (length entry) enough) at j.content

  pub lined : {n : ℕ} → r ≡ Some n → Lined input n exit
  lined {n} e =
      let told : n ≡ length (lines_of input) = some_same (sym e ∙ counted) in
      record {
        inside = omega (arith, told, ap length content ∙ length-append (lines_of input) (drop (length (lines_of input)) entry));
        lines = ap (take n) content ∙ take_at (lines_of input) (drop (length (lines_of input)) entry) n (sym told);
      }
