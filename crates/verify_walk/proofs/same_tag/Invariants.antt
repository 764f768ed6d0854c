use Rattle.verify_walk.proofs.Tags.{Compared}
use Rattle.verify_walk.proofs.same_tag.Given as goal

abbrev pub invariant-loop-i : goal.invariant-loop-i
invariant-loop-i l = Compared l.link l.tag l.i l.same
