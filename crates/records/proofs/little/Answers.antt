use Rattle.std.proofs.Common.{arith, length, length-append}
use Rattle.std.proofs.lemmas.List.{map-append, reverse-append, reverse-reverse, length-reverse}
use Rattle.std.proofs.lemmas.Iterator.Adapters.{YieldsList-from_rev_slice}
use Rattle.std.proofs.lemmas.Iterator.Consumers.{YieldsList-turn, YieldsList-end}
use Rattle.cbor_heads.proofs.Numbers.{more}
use Rattle.records.specs.Records.{little_of}
use Rattle.records.proofs.Littles.{room}
use Rattle.records.proofs.little.Goals as goal

pub overflow_mul-n : goal.overflow_mul-n
overflow_mul-n c =
    let t = YieldsList-turn (YieldsList-from_rev_slice c.args.s.now cc) c.loop-b.yielded _ c.loop-b.yielded_by _ _ c.in-Some.field-0 c.in-Some.is c.next.ensures.steps in
    omega (arith, room (length c.loop-b.yielded) (omega (arith, t.0, length-reverse c.args.s.now)) c.loop-b.invariant.small)

pub overflow_add-n : goal.overflow_add-n
overflow_add-n c =
    let t = YieldsList-turn (YieldsList-from_rev_slice c.args.s.now cc) c.loop-b.yielded _ c.loop-b.yielded_by _ _ c.in-Some.field-0 c.in-Some.is c.next.ensures.steps in
    omega (arith, room (length c.loop-b.yielded) (omega (arith, t.0, length-reverse c.args.s.now)) c.loop-b.invariant.small)

pub loop-b-preserved : goal.loop-b-preserved
unfolding little_of
loop-b-preserved c =
    let w = c.loop-b.invariant in
    record {
      sum = rw (map-append, reverse-append, c.from.ensures, w.sum);
      small = rw (length-append) (more (length c.loop-b.yielded) w.small (omega arith));
    }

pub returns : goal.returns
returns c =
    let t = YieldsList-end (YieldsList-from_rev_slice c.args.s.now cc) c.loop-b.yielded _ c.loop-b.yielded_by _ _ c.in-None.is c.next.ensures.steps in
    rw (t.0, reverse-reverse) at c.loop-b.invariant.sum
