use Rattle.verify_walk.specs.Walking.{link_stays, link_add, over_caveats}
use Rattle.verify_walk.proofs.Walking.{Walking}
use Rattle.verify_walk.proofs.links.Given as goal

abbrev pub invariant-loop : goal.invariant-loop
invariant-loop l = Walking link_stays (link_add l.key) l.s (over_caveats link_stays (link_add l.key) l.fn.caveats.count l.s l.initial.p l.initial.link) l.fn.caveats.count l.counter l.p l.link
