use mathlib.Core.Path.{sym, ◌∙◌}
use Rattle.outcome.proofs.Carrying.{refused_is, moved}
use Rattle.narrow.proofs.Narrowed.{narrow_other_tag, narrow_right_tag}
use Rattle.narrow.proofs.narrow_with.Goals as goal

pub returns-then-not-same_tag-clause-carried : goal.returns-then-not-same_tag-clause-carried
returns-then-not-same_tag-clause-carried c = moved (narrow_other_tag c.args.key.now c.args.s.now c.args.parent c.args.caveat.now c.link_first-first.ensures c.links-link.ensures c.lend.ensures.result_value (sym c.same_tag.ensures ∙ c.if-not-same_tag.true)) refused_is

pub returns-clause-carried : goal.returns-clause-carried
returns-clause-carried c = moved (narrow_right_tag c.args.key.now c.args.s.now c.args.parent c.args.caveat.now c.link_first-first.ensures c.links-link.ensures c.lend.ensures.result_value (sym c.same_tag.ensures ∙ c.if-not-same_tag.false)) c.add_caveat.ensures.carried
