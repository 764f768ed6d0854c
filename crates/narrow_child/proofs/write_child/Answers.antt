use Prim.Native.Nat.{ℕ}
use native.Mathlib.Omega.{arith}
use lib.ListN.{length-replicate}
use Rattle.outcome.proofs.Carrying.{refused_is, moved, made_fits, made_lent, said_inside}
use Rattle.narrow_child.proofs.Child.{full, caveat_too_long, child_too_long, child_granted}
use Rattle.narrow_child.proofs.write_child.Goals as goal

pub returns-then-count-ge-CAVEATS_MOST-clause-carried : goal.returns-then-count-ge-CAVEATS_MOST-clause-carried
returns-then-count-ge-CAVEATS_MOST-clause-carried c = moved (full c.args.key.now c.args.link c.args.s.now c.args.parent c.args.caveat.now c.if-count-ge-CAVEATS_MOST.true) refused_is

pub returns-then-caveat-gt-TOKEN_MOST-clause-carried : goal.returns-then-caveat-gt-TOKEN_MOST-clause-carried
returns-then-caveat-gt-TOKEN_MOST-clause-carried c = moved (caveat_too_long c.args.key.now c.args.link c.args.s.now c.args.parent c.args.caveat.now c.if-count-ge-CAVEATS_MOST.false c.if-caveat-gt-TOKEN_MOST.true) refused_is

pub returns-in_default-clause-carried : goal.returns-in_default-clause-carried
returns-in_default-clause-carried c = moved (child_too_long c.args.key.now c.args.link c.args.s.now c.args.parent c.args.caveat.now c.if-count-ge-CAVEATS_MOST.false c.next_link-tag.ensures c.lend-caveats.ensures.result_value c.lend.ensures.result_value c.lend-2.ensures.result_value c.lend-3.ensures.result_value c.write_token.ensures (length-replicate {A = ℕ} 4096 0) c.in_default.is) refused_is

pub slice_bounds-write_text-end : goal.slice_bounds-write_text-end
slice_bounds-write_text-end c = omega (arith, said_inside _ _ c.write_token.ensures c.in-Some.is c.write_token.auto.room)

pub returns-clause-carried : goal.returns-clause-carried
returns-clause-carried c = moved (child_granted c.args.key.now c.args.link c.args.s.now c.args.parent c.args.caveat.now c.if-count-ge-CAVEATS_MOST.false c.next_link-tag.ensures c.lend-caveats.ensures.result_value c.lend.ensures.result_value c.lend-2.ensures.result_value c.lend-3.ensures.result_value (made_lent _ _ c.write_token.ensures c.in-Some.is) (rw (length-replicate {A = ℕ} 4096 0) at (made_fits _ _ c.write_token.ensures c.in-Some.is))) c.write_text.ensures.carried
