use mathlib.Core.Path.{sym, ap₂, ◌∙◌}
use native.Mathlib.Omega.{arith}
use Rattle.verify_walk.specs.Walking.{walk_ends}
use Rattle.verify_walk.proofs.Walking.{walk_start, walked_all, walk_bad_lem, walk_on, walk_one}
use Rattle.verify_walk.proofs.walk.Goals as goal

pub returns-in-Err : goal.returns-in-Err
returns-in-Err c = rw c.into-answer.ensures (walk_bad_lem c.loop.invariant c.loop-test.true (sym c.read_caveat.ensures ∙ c.in-Err.is) ∙ walk_start _ _ _ _ _ _ _ c.min-p.ensures)

pub overflow_add-p : goal.overflow_add-p
overflow_add-p c = record { fits = let b = walk_on c.loop.invariant c.loop-test.true (sym c.read_caveat.ensures ∙ c.in-Ok.is) in omega (arith, b, c.well_formed.0.0) }

pub loop-preserved : goal.loop-preserved
loop-preserved c = walk_one c.loop.invariant c.loop-test.true (sym c.read_caveat.ensures ∙ c.in-Ok.is) (ap₂ walk_ends c.link_over-joined.ensures c.so_far-answer.ensures)

pub returns : goal.returns
returns c = walked_all c.loop.invariant c.loop-test.false ∙ walk_start _ _ _ _ _ _ _ c.min-p.ensures
