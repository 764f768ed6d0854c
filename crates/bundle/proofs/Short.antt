-- No bundle has more than 442,368 bytes of lines, so that a room of that size is always enough.
use mathlib.Core.List.{List, []}
use Prim.Native.Nat.{ℕ, zero, suc, ◌*◌, ◌≤◌}
use native.Mathlib.Omega.{arith}
use lib.Dec.{eqb, ltb}
use lib.ListN.{length, length-append}
use Rattle.basis.specs.Basis.{between}
use Rattle.basis.proofs.Picks.{either}
use Rattle.records.specs.Reading.{read_record}
use Rattle.records.specs.declared.RecordAt.{RecordAt}
use Rattle.std.specs.Prelude.{Option, Some, None}
use Rattle.verify.specs.Verifying.{verify_of}
use Rattle.bundle.specs.Lines.{line, kind_then, record_then, lines_from, lines_of}
use Rattle.bundle.proofs.Putting.{line_short}

-- a line of at most 27 bytes for each record
from_short : (k : ℕ) (s table request : List ℕ) (at : ℕ) → length (lines_from k s table request at) ≤ 27 * k
unfolding lines_from record_then kind_then
from_short zero s table request at = omega arith
from_short (suc k) s table request at =
    either (λ (x : List ℕ). length x ≤ 27 * suc k) (eqb at (length s)) (omega arith) (by (read_record s at) (from_short k s))
  where
    by : (r : Option RecordAt) → ((t q : List ℕ) (i : ℕ) → length (lines_from k s t q i) ≤ 27 * k)
        → length (record_then (lines_from k s) s table request r) ≤ 27 * suc k
    by None h = omega arith
    by (Some found) h =
        let body = between s found.body in
        let to = found.body.to in
        let l = line (verify_of table request body) in
        let m = lines_from k s table request to in
        either (λ (x : List ℕ). length x ≤ 27 * suc k) (eqb found.kind 16) (omega (arith, h body request to))
        (either (λ (x : List ℕ). length x ≤ 27 * suc k) (eqb found.kind 32) (omega (arith, h table body to))
        (either (λ (x : List ℕ). length x ≤ 27 * suc k) (eqb found.kind 48)
        (omega (arith, length-append l m, line_short (verify_of table request body), h table request to)) (omega arith)))

pub lines_short : (input : List ℕ) → length (lines_of input) ≤ 442368
unfolding lines_of
lines_short input =
    either (λ (x : List ℕ). length x ≤ 442368) (ltb 65536 (length input)) (omega arith) (from_short 16384 input [] [] 0)
