use mathlib.Core.Path.{sym, ◌∙◌}
use native.Mathlib.Omega.{arith}
use Rattle.outcome.proofs.Carrying.{refused_is, moved}
use Rattle.narrow_child.proofs.Child.{caveat_bad, caveat_left_over, caveat_whole}
use Rattle.narrow_child.proofs.add_caveat.Goals as goal

pub returns-in-Err-clause-carried : goal.returns-in-Err-clause-carried
returns-in-Err-clause-carried c = rw c.added.ensures (moved (caveat_bad c.args.key.now c.args.link c.args.s.now c.args.parent c.args.caveat.now (sym c.read_caveat.ensures ∙ c.in-Err.is)) refused_is)

pub returns-then-next-caveat-clause-carried : goal.returns-then-next-caveat-clause-carried
returns-then-next-caveat-clause-carried c = moved (caveat_left_over c.args.key.now c.args.link c.args.s.now c.args.parent c.args.caveat.now (sym c.read_caveat.ensures ∙ c.in-Ok.is) (omega arith)) refused_is

pub returns-else-next-caveat-clause-carried : goal.returns-else-next-caveat-clause-carried
returns-else-next-caveat-clause-carried c = moved (caveat_whole c.args.key.now c.args.link c.args.s.now c.args.parent c.args.caveat.now (sym c.read_caveat.ensures ∙ c.in-Ok.is) (omega arith)) c.write_child.ensures.carried
