use Rattle.answers.specs.Answers.{number_of}
use Rattle.verify_walk.specs.Walking.{walk_bad, walk_add, walk_ends, over_caveats}
use Rattle.verify_walk.proofs.Walking.{Walking}
use Rattle.verify_walk.proofs.walk.Given as goal

abbrev pub invariant-loop : goal.invariant-loop
invariant-loop l =
    let add = walk_add l.key l.body l.request l.tid in
    Walking walk_bad add l.s (over_caveats walk_bad add l.fn.caveats.count l.s l.initial.p (walk_ends l.initial.link (number_of l.initial.answer))) l.fn.caveats.count l.counter l.p (walk_ends l.link (number_of l.answer))
