use mathlib.Core.Path.{sym, ◌∙◌}
use native.Mathlib.Omega.{arith}
use Rattle.std.specs.Prelude.{Ok}
use Rattle.verify_walk.proofs.Walking.{walk_start, walked_all, walk_bad_lem, walk_on, walk_one}
use Rattle.verify_walk.proofs.links.Goals as goal

pub returns-in_default : goal.returns-in_default
returns-in_default c = walk_bad_lem c.loop.invariant c.loop-test.true (sym c.read_caveat.ensures ∙ c.in_default.is) ∙ walk_start _ _ _ _ _ _ _ c.min-p.ensures

pub overflow_add-p : goal.overflow_add-p
overflow_add-p c = record { fits = let b = walk_on c.loop.invariant c.loop-test.true (sym c.read_caveat.ensures ∙ c.in-Ok.is) in omega (arith, b, c.well_formed.0.0) }

pub loop-preserved : goal.loop-preserved
loop-preserved c = walk_one c.loop.invariant c.loop-test.true (sym c.read_caveat.ensures ∙ c.in-Ok.is) c.link_over-joined.ensures

pub returns : goal.returns
returns c = walked_all c.loop.invariant c.loop-test.false ∙ walk_start _ _ _ _ _ _ _ c.min-p.ensures
