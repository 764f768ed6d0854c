use lib.ListN.{drop_of_length-le}
use borrow.Author.Rules.{rules}
use Prim.Native.Nat.{◌≤◌, ◌<◌}
use native.Mathlib.Omega.{arith}
use native.Mathlib.Numerals.{add-one}
use lib.ListN.{length}
use lib.Seq.{drop-cons}
use Rattle.cbor_heads.specs.Reading.{number_from}
use Rattle.cbor_heads.proofs.Numbers.{more, most}
use Rattle.cbor_heads.proofs.number.Goals as goal

pub overflow_mul-v : goal.overflow_mul-v
overflow_mul-v c = omega (arith, most c.loop-b.b-index (omega arith), more c.loop-b.b-index {b = 0} c.loop-b.invariant.1 (omega arith))

pub loop-b-preserved : goal.loop-b-preserved
unfolding number_from
loop-b-preserved c = let i = c.loop-b.b-index in
    let s = c.args.s.now in
    let h : i < length s = omega arith in (
      search rules,
      rw c.from.ensures (more i c.loop-b.invariant.1 (c.type_inv.s i).fits),
      rw (c.from.ensures, add-one, ← c.loop-b.invariant.2, drop-cons s i 0),
    )

pub returns : goal.returns
unfolding number_from
returns c =
    let h : length c.args.s.now ≤ c.loop-b.b-index = omega arith in
    rw (drop_of_length-le c.args.s.now) at c.loop-b.invariant.2
